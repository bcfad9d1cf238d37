-- Replies of the reference interpreter of a vector's scripts: those that agree with a list of updates, and those to updates and queries only.
use Rattle.std.specs.Prelude.{◌≡◌, ◌⊎◌, ℕ, ◌≤◌, Bool, true, false, List, [], ◌∷◌, ◌++◌, length, take, if◌then◌else◌}
use Rattle.std.specs.List.{flat_map}
use Rattle.lv_geometry.specs.Bounds.{Bounds}
use Rattle.lv_geometry.specs.declared.refusals.Refusal.TheVariants.{NoMemory}
use Rattle.lv_edits.specs.declared.edit.Edit.{Edit}
use Rattle.lv_standing.specs.declared.queries.Query.{Query}
use Rattle.lv_lines.specs.declared.command.Command.{Command}
use Rattle.lv_lines.specs.declared.command.Command.TheVariants.{Settle, Cost, Claim, Deliver, Forget}
use Rattle.lv_lines.specs.declared.lines.Line.{Line}
use Rattle.lv_lines.specs.declared.lines.Line.TheVariants.{Nothing, Bad, Do}
use Rattle.lv_lines.specs.Grammar.{line_of}
use Rattle.lv_lines.specs.Texts.{bad_text, refused_text, reply_line}
use Rattle.lv_script.specs.Interpreter.{IsOneLine, plain_after, plain_reply}
use Rattle.lv_script.specs.PlainScript.{Plain, vector_script}

-- the reply to line n agrees with some updates: it is the interpreter's reply after a prefix of them, or it reports `NoMemory` (out of memory)
pub record IsTrueOf (limits : Bounds) (edits : List Edit) (n : ℕ) (line text : List ℕ) : Type 0 where
  pub many : ℕ
  pub within : many ≤ length edits
  pub queries : List Query
  pub told : List ℕ
  pub answer : (text ≡ plain_reply vector_script told record { limits = limits; edits = take many edits; queries = queries } n (line_of line)) ⊎ (text ≡ refused_text NoMemory)

-- the reply to a line agrees with some updates, as a step of a run that has no state
abbrev pub TrueStep : Bounds → List Edit → Unit {0} → ℕ → List ℕ → List ℕ → Unit {0} → Type 0
TrueStep limits edits old n line text new = IsTrueOf limits edits n line text

-- ---- updates and queries only

-- whether a command is an update or a query. Commands that precompute aggregates (refresh), `settle` and `cost` are neither
abbrev pub asks : Command → Bool
asks Settle = false
asks (Cost lo hi) = false
asks Claim = false
asks (Deliver k) = false
asks Forget = false
asks _ = true

-- the edit or query that a line is, if it is one
abbrev pub asked_by : Line Command → List Command
asked_by (Do c) = if asks c then c ∷ [] else []
asked_by _ = []

-- the edits and queries among some lines, in order
abbrev pub asked_in : List (List ℕ) → List Command
asked_in lines = flat_map (λ line. asked_by (line_of line)) lines

-- the replies to these commands, each in the state after those before it. Their oracle is empty
abbrev pub plain_answers : Plain → List Command → List (List ℕ)
plain_answers s [] = []
plain_answers s (c ∷ commands) = plain_reply vector_script [] s 0 (Do c) ∷ plain_answers (plain_after vector_script s (Do c)) commands

-- an update or query takes the first of the replies that are still to come, which are in order. A line that says nothing has no reply, one that
-- is not understood is answered by its number, and every other line has a reply of one line
abbrev pub Takes : List (List ℕ) → ℕ → Line Command → List ℕ → List (List ℕ) → Type 0
Takes old n Nothing text new = (text ≡ []) × (new ≡ old)
Takes old n Bad text new = (text ≡ bad_text n) × (new ≡ old)
Takes old n (Do c) text new =
    (old ≡ (if asks c then text ∷ [] else []) ++ new) × (asks c ≡ false → (told : List ℕ) × IsOneLine told × (text ≡ reply_line told))

-- the reply to a line, given the line's bytes
abbrev pub AnswerStep : List (List ℕ) → ℕ → List ℕ → List ℕ → List (List ℕ) → Type 0
AnswerStep old n line text new = Takes old n (line_of line) text new
