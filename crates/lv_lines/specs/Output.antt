-- The effect of a text on a buffer and on the writer after it.
use Rattle.std.specs.Prelude.{◌≡◌, ℕ, ◌+◌, ◌≤◌, List, ◌++◌, Option, Vec, vec_len, vec_capacity}
use Rattle.std.specs.Io.KnownBytes.{Appends}
use Rattle.lv_lines.specs.declared.reply_buffer.ReplyBuffer.{ReplyBuffer}

-- a text was appended to the bytes in a buffer: a prefix of both together went to the writer, and the rest is in the buffer
pub record Writes (old_contents : Option (List ℕ)) (old_held : List ℕ) (new_contents : Option (List ℕ)) (new_held text : List ℕ) : Type 0 where
  pub sent : List ℕ
  pub appended : Appends old_contents new_contents sent
  pub all : old_held ++ text ≡ sent ++ new_held

-- of the bytes in a buffer and a text after them, no more than a prefix went to the writer
pub record WritesFront (old_contents : Option (List ℕ)) (old_held : List ℕ) (new_contents : Option (List ℕ)) (text : List ℕ) : Type 0 where
  pub unsent : List ℕ
  pub written : Writes old_contents old_held new_contents unsent text

-- a text was put into a reply buffer
abbrev pub Puts : {W : Type 0} → (W → Option (List ℕ)) → ReplyBuffer W → ReplyBuffer W → List ℕ → Type 0
Puts contents old new = Writes (contents old.writer.now) old.held.now.items (contents new.writer.now) new.held.now.items

-- of the bytes in a reply buffer and a text after them, no more than a prefix went to its writer
abbrev pub PutsFront : {W : Type 0} → (W → Option (List ℕ)) → ReplyBuffer W → ReplyBuffer W → List ℕ → Type 0
PutsFront contents old new = WritesFront (contents old.writer.now) old.held.now.items (contents new.writer.now)

-- a reply buffer has the writer and the buffer that it had
abbrev pub SamePlaces : {W : Type 0} → ReplyBuffer W → ReplyBuffer W → Type 0
SamePlaces old new = (new.writer.ghost_name ≡ old.writer.ghost_name) × (new.held.ghost_name ≡ old.held.ghost_name)

-- a buffer has room for so many more bytes
abbrev pub HasRoom : {Z : Type 0} → Vec ℕ Z → ℕ → Type 0
HasRoom held count = vec_len held + count ≤ vec_capacity held

-- a buffer has not lost room
abbrev pub KeepsRoom : {Z : Type 0} → Vec ℕ Z → Vec ℕ Z → Type 0
KeepsRoom old new = vec_capacity old ≤ vec_capacity new
