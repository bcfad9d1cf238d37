-- What the lines of a subscriber's file ask.
use Rattle.std.specs.Str.{bytes_eq}
use Rattle.std.specs.Prelude.{◌≡◌, ◌⊎◌, ℕ, codes, if◌then◌else◌, Option, Some, None, Result, Ok, Err, List, [], ◌∷◌, ◌++◌, Vec}
use Rattle.lv_geometry.specs.declared.refusals.Refusal.{Refusal}
use Rattle.lv_geometry.specs.declared.refusals.Refusal.TheVariants as refusals
use Rattle.lv_edits.specs.Verdict.{IsRefusal}
use Rattle.lv_lines.specs.declared.lines.Line.{Line}
use Rattle.lv_lines.specs.declared.lines.Line.TheVariants.{Nothing, Bad, Do}
use Rattle.lv_lines.specs.declared.fault.Fault.{Fault}
use Rattle.lv_lines.specs.Grammar.{line_by}
use Rattle.lv_lines.specs.Numbers.{most_32}
use Rattle.lv_lines.specs.Replies.{LinesServed}
use Rattle.lv_standing.specs.declared.queries.Query.{Query}
use Rattle.lv_script.specs.QueryGrammar.{query_in}
use Rattle.lv_hub.specs.Notes.{question_refusal}
use Rattle.lv_hub.specs.declared.questions.Damage as damages
use Rattle.lv_hub.specs.declared.questions.Unasked.{Unasked}
use Rattle.lv_hub.specs.declared.questions.Unasked.TheVariants as unasked

-- The result of reading: the questions in the order of their lines, and the error of the first bad line, if there is one.
pub record Asked : Type 0 where
  pub questions : List Query
  pub damage : Option damages.Damage

-- The result before the first line.
abbrev pub no_questions : Asked
no_questions = record { questions = []; damage = None }

-- Some questions, and an error at a line.
abbrev pub damaged : List Query → ℕ → Option Refusal → Asked
damaged questions n refusal = record { questions = questions; damage = Some (record { line = n; refusal = refusal }) }

-- Line n asks a question. It is appended to the others, or the line is an error if the question is refused.
abbrev pub Asks : List Query → ℕ → Query → Asked → Type 0
Asks questions n q new =
    ((question_refusal questions q ≡ None) × (new ≡ record { questions = questions ++ q ∷ []; damage = None }))
    ⊎ ((refusal : Refusal) × IsRefusal (question_refusal questions q) refusal × (new ≡ damaged questions n (Some refusal)))

-- The query that the words of a line ask: those after `watch`, with numbers that fit into 32 bits.
unfoldable pub asked_in : List (List ℕ) → Option Query
asked_in [] = None
asked_in (verb ∷ words) = if bytes_eq verb (codes "watch") then query_in most_32 words else None

-- The effect of line n if no line before it was bad. An empty line changes nothing, and a line that asks no query is an error.
abbrev pub Takes : List Query → ℕ → Line Query → Asked → Type 0
Takes questions n Nothing new = new ≡ record { questions = questions; damage = None }
Takes questions n (Do q) new = Asks questions n q new
Takes questions n Bad new = new ≡ damaged questions n None

-- Lines after a bad line change nothing.
abbrev pub TakesUnless : Option damages.Damage → Asked → ℕ → Line Query → Asked → Type 0
TakesUnless (Some damage) old n line new = new ≡ old
TakesUnless None old n line new = Takes old.questions n line new

-- A line is read, and has no reply.
unfoldable pub AskStep : Asked → ℕ → List ℕ → List ℕ → Asked → Type 0
AskStep old n line text new = (text ≡ []) × TakesUnless old.damage old n (line_by asked_in line) new

-- The lines of an input were read in turn, up to its end or to a fault.
pub record AsksAll {T : Type 0} (remaining_old remaining_new : Option (List ℕ)) (asked : Asked) (result : Result T Fault) : Type 0 where
  pub before : Option (List ℕ)
  pub after : Option (List ℕ)
  pub lines_served : LinesServed AskStep no_questions asked remaining_old remaining_new before after result

-- The result once all lines were read.
abbrev pub Finds : {Z : Type 0} → Asked → Result (Vec Query Z) Unasked → Type 0
Finds asked (Ok questions) = asked ≡ record { questions = questions.items; damage = None }
Finds asked (Err (unasked.Damage damage)) = asked.damage ≡ Some damage
Finds asked (Err (unasked.Fault fault)) = ⊥

-- How the questions of an input were read. Either all lines are right, or the first bad line is reported, or a fault occurred.
abbrev pub ReadsQuestions : {Z : Type 0} → Option (List ℕ) → Option (List ℕ) → Result (Vec Query Z) Unasked → Type 0
ReadsQuestions remaining_old remaining_new (Ok questions) =
    AsksAll {T = Unit {0}} remaining_old remaining_new (record { questions = questions.items; damage = None }) (Ok tt)
ReadsQuestions remaining_old remaining_new (Err (unasked.Damage damage)) =
    (questions : List Query) × AsksAll {T = Unit {0}} remaining_old remaining_new (record { questions = questions; damage = Some damage }) (Ok tt)
ReadsQuestions remaining_old remaining_new (Err (unasked.Fault fault)) =
    (asked : Asked) × AsksAll {T = Unit {0}} remaining_old remaining_new asked (Err fault)

-- ---- why the questions of subscribers are refused

-- The first of two refusals, if there is one.
abbrev pub first_refusal : Option Refusal → Option Refusal → Option Refusal
first_refusal (Some refusal) other = Some refusal
first_refusal None other = other

-- Why questions that come in turn after others are refused: the reason of the first one that is refused. Running out of memory is not covered
-- here.
abbrev pub refusal_behind : List Query → List Query → Option Refusal
refusal_behind before [] = None
refusal_behind before (q ∷ questions) = first_refusal (question_refusal before q) (refusal_behind (before ++ q ∷ []) questions)

-- Why the questions of several subscribers are refused, if each begins with none: the reason of the first one that is refused.
abbrev pub refusal_of_all : List (List Query) → Option Refusal
refusal_of_all [] = None
refusal_of_all (questions ∷ rest) = first_refusal (refusal_behind [] questions) (refusal_of_all rest)

-- The refusal is this known one, or it is `NoMemory`, which may occur whatever they ask.
abbrev pub IsRefusedFor : Option Refusal → Refusal → Type 0
IsRefusedFor known refusal = (known ≡ Some refusal) ⊎ (refusal ≡ refusals.NoMemory)
