-- How far the serving of lines has come, between two lines or two reads.
use Rattle.std.specs.Prelude.{◌≡◌, ℕ, ◌+◌, ◌≤◌, false, List, [], ◌++◌, length, take, map, Option}
use Rattle.lv_lines.specs.declared.reply_buffer.ReplyBuffer.{ReplyBuffer}
use Rattle.lv_lines.specs.declared.line_reader.LineReader.{LineReader}
use Rattle.lv_lines.specs.Input.{whole_lines_of, has_end, unended_of}
use Rattle.lv_lines.specs.Output.{Writes, WritesFront}
use Rattle.lv_lines.specs.Replies.{Answered}

-- the state of what answers, the number of the next line, the first bytes of the line that was begun, what the writer has, and what is held
pub record Point (S : Type 0) : Type 0 where
  pub state : S
  pub number : ℕ
  pub kept : List ℕ
  pub contents : Option (List ℕ)
  pub held : List ℕ

-- a point of a conversation whose reader and whose reply buffer these are
abbrev pub point_of : {S W : Type 0} → S → LineReader → (W → Option (List ℕ)) → ReplyBuffer W → Point S
point_of state line_reader contents buffer = record {
  state = state;
  number = line_reader.number;
  kept = line_reader.kept.items;
  contents = contents buffer.writer.now;
  held = buffer.held.now.items;
}

-- before the first line
abbrev pub start_of : {S : Type 0} → S → Option (List ℕ) → Point S
start_of state contents = record { state = state; number = 1; kept = []; contents = contents; held = [] }

-- the bytes that are kept are the start of a line: they have no LF, and there are at most 121
pub record IsReady (line_reader : LineReader) : Type 0 where
  pub begun : has_end line_reader.kept.items ≡ false
  pub short : length line_reader.kept.items ≤ 121

module _ {S : Type 0} (step : S → ℕ → List ℕ → List ℕ → S → Type 0) where
  -- the lines that the bytes end were answered in turn, and their replies were written. Of an unended line after them the first 121 bytes are kept
  pub record PushesBytes (old new : Point S) (bytes : List ℕ) : Type 0 where
    pub text : List ℕ
    pub answered : Answered step old.state old.number (map (take 121) (whole_lines_of (old.kept ++ bytes))) text new.state
    pub written : Writes old.contents old.held new.contents new.held text
    pub kept : new.kept ≡ take 121 (unended_of (old.kept ++ bytes))
    pub number : new.number ≡ old.number + length (whole_lines_of (old.kept ++ bytes))

  -- a prefix of those lines was answered, and no more than a prefix of the replies was written
  pub record PushesBytesFront (old new : Point S) (bytes : List ℕ) : Type 0 where
    pub front : List (List ℕ)
    pub rest : List (List ℕ)
    pub all : map (take 121) (whole_lines_of (old.kept ++ bytes)) ≡ front ++ rest
    pub text : List ℕ
    pub answered : Answered step old.state old.number front text new.state
    pub written : WritesFront old.contents old.held new.contents text
