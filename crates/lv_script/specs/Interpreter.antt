-- A reference interpreter of scripts, for any target. A target defines the reply to each command and the state after it.
use Rattle.std.specs.Prelude.{◌≡◌, ◌≢◌, ◌⊎◌, ℕ, ◌+◌, Bool, false, IsTrue, Option, None, List, [], ◌∷◌, ◌++◌, take, map, All}
use Rattle.std.specs.Option.{option_map_or}
use Rattle.lv_geometry.specs.declared.refusals.Refusal.TheVariants.{NoMemory}
use Rattle.lv_lines.specs.declared.lines.Line.{Line}
use Rattle.lv_lines.specs.declared.lines.Line.TheVariants.{Nothing, Bad, Do}
use Rattle.lv_lines.specs.Input.{has_end, lines_of}
use Rattle.lv_lines.specs.Texts.{bad_text, refused_by, refused_text, reply_line}

-- a target of scripts, given the types of its commands, of its errors, and of its state
pub record Target (C R S : Type 0) : Type 0 where
  -- how a line is read
  pub line_of : List ℕ → Line C
  -- the error with which a command is rejected, if any, and the number of an error. Out of memory is not among these errors
  pub refusal_of : S → C → Option R
  pub number_of : R → ℕ
  -- the reply to a command that is not rejected, and the state after it. The first argument of the reply is an oracle: bytes on which the
  -- reply may depend besides the state
  pub reply_of : List ℕ → S → C → List ℕ
  pub after : S → C → S
  -- whether a command can run out of memory
  pub may_want : C → Bool

-- the bytes have no LF, so they are one line of a reply
abbrev pub IsOneLine : List ℕ → Type 0
IsOneLine bytes = has_end bytes ≡ false

-- no line of a text is the reply that reports `NoMemory` (out of memory)
abbrev pub NeverWants : List ℕ → Type 0
NeverWants text = All (λ line. reply_line line ≢ refused_text NoMemory) (lines_of text)

module _ {C R S : Type 0} (t : Target C R S) where
  -- the reply to line n: nothing if it says nothing, and its number if it is not understood. A command is answered by its error or by its reply
  abbrev pub plain_reply : List ℕ → S → ℕ → Line C → List ℕ
  plain_reply told s n Nothing = []
  plain_reply told s n Bad = bad_text n
  plain_reply told s n (Do c) = option_map_or (λ refusal. refused_by (t.number_of refusal)) (t.refusal_of s c) (t.reply_of told s c)

  -- the state after a line. A rejected command changes nothing
  abbrev pub plain_after : S → Line C → S
  plain_after s (Do c) = option_map_or (λ refusal. s) (t.refusal_of s c) (t.after s c)
  plain_after s _ = s

  -- the text of the replies to some lines, which are numbered from n. `told n` is the oracle of line n
  abbrev pub plain_text : (ℕ → List ℕ) → S → ℕ → List (List ℕ) → List ℕ
  plain_text told s n [] = []
  plain_text told s n (line ∷ lines) = plain_reply (told n) s n (t.line_of line) ++ plain_text told (plain_after s (t.line_of line)) (n + 1) lines

  -- a text is the interpreter's answer to an input, for some oracle with one line for each. Of each line of the input only the first 121 bytes count
  abbrev pub IsPlainText : S → List ℕ → List ℕ → Type 0
  IsPlainText start input text = (told : ℕ → List ℕ) × ((n : ℕ) → IsOneLine (told n)) × (text ≡ plain_text told start 1 (map (take 121) (lines_of input)))

  -- a command that can run out of memory, and that nothing else rejects, did run out of memory, and the state is unchanged
  abbrev pub MeetsWant : S → Line C → List ℕ → S → Type 0
  MeetsWant old (Do c) text new = IsTrue (t.may_want c) × (t.refusal_of old c ≡ None) × (text ≡ refused_text NoMemory) × (new ≡ old)
  MeetsWant old _ text new = ⊥

  -- a line has the interpreter's reply, and the state is the one after it, for some oracle of one line; or the line ran out of memory
  abbrev pub PlainLine : S → ℕ → Line C → List ℕ → S → Type 0
  PlainLine old n line text new =
      (told : List ℕ) × IsOneLine told × (((text ≡ plain_reply told old n line) × (new ≡ plain_after old line)) ⊎ MeetsWant old line text new)

  -- one line of a script, given its bytes and its number
  abbrev pub PlainStep : S → ℕ → List ℕ → List ℕ → S → Type 0
  PlainStep old n line text new = PlainLine old n (t.line_of line) text new
