-- How a transcript is audited: how a line is read, and how far the lines so far lead.
use Rattle.std.proofs.Common.{inl}
use Rattle.std.specs.Prelude.{◌≡◌, ◌⊎◌, ℕ, ◌+◌, ◌-◌, ◌^◌, ◌<◌, ◌≤◌, Bool, true, false, List, [], ◌∷◌, ◌++◌, length, take, slice_range, ℤ, Option, Some, None}
use Rattle.lv_bodies.specs.declared.kinds.Kind.{Kind}
use Rattle.lv_bodies.specs.Plain.{plain_value}
use Rattle.lv_edits.specs.declared.edit.Edit.{Edit}
use Rattle.lv_edits.specs.History.{History, list_of}
use Rattle.lv_edits.specs.Verdict.{verdict_of}
use Rattle.lv_lines.specs.Grammar.{kind_in, ◌>>=◌}
use Rattle.lv_lines.specs.Numbers.{number_in, number_up_to}
use Rattle.lv_lines.specs.Texts.{shown_text}
use Rattle.lv_transcript.specs.declared.auditor.Stage.{Stage}
use Rattle.lv_transcript.specs.declared.auditor.Stage.TheVariants as stages
use Rattle.lv_transcript.specs.declared.log_heading.LogHeading.{LogHeading}
use Rattle.lv_transcript.specs.declared.transcript_lines.Question.{Question}
use Rattle.lv_transcript.specs.declared.claimed.Claimed.{Claimed}
use Rattle.lv_transcript.specs.declared.auditor.Verdict.{Verdict}
use Rattle.lv_transcript.specs.declared.auditor.Verdict.TheVariants as verdicts
use Rattle.lv_transcript.specs.declared.fronts.FrontVerdict.{FrontVerdict}
use Rattle.lv_transcript.specs.declared.fronts.FrontVerdict.TheVariants as fronts
use Rattle.lv_transcript.specs.Fronts.{IsFirst, IsPush, MayBegin, elements_of}
use Rattle.lv_transcript.specs.Transcript.{answer_line, edit_line, greatest, end_line, heading_line, question_text, BeginsAnswer, HasEditForm, IsEdit, IsTrueAnswer}

-- ---- a question: an answer without its value

-- its text
abbrev pub text_of : Question → List ℕ
text_of question = question_text question.edit question.kind question.lo question.hi

-- its numbers have 32 bits
pub record IsQuestion (question : Question) : Type 0 where
  pub edit : question.edit < 2 ^ 32
  pub lo : question.lo < 2 ^ 32
  pub hi : question.hi < 2 ^ 32

-- the number that the first of some words is
abbrev pub first_number : List (List ℕ) → Option ℕ
first_number [] = None
first_number (word ∷ words) = number_in word

-- the bounds that some words begin with
unfoldable pub bounds_before : List (List ℕ) → Option (ℕ × ℕ)
bounds_before [] = None
bounds_before (word ∷ words) = do
  lo ← number_in word
  hi ← first_number words
  Some (lo, hi)

-- the kind and the bounds that some words begin with
unfoldable pub range_before : List (List ℕ) → Option (Kind × ℕ × ℕ)
range_before [] = None
range_before (word ∷ words) = do
  kind ← kind_in word
  bounds ← bounds_before words
  Some (kind, bounds.0, bounds.1)

-- the question that some words begin with
unfoldable pub question_before : List (List ℕ) → Option Question
question_before [] = None
question_before (word ∷ words) = do
  edit ← number_in word
  range ← range_before words
  Some record { edit = edit; kind = range.0; lo = range.1; hi = range.2 }

-- the question that the words of a line have after the first
abbrev pub question_in : List (List ℕ) → Option Question
question_in [] = None
question_in (word ∷ words) = question_before words

-- the heading whose numbers some words begin with
unfoldable pub heading_before : List (List ℕ) → Option LogHeading
heading_before [] = None
heading_before (word ∷ words) = do
  base ← number_up_to (2 ^ 64 - 1) word
  elements ← first_number words
  Some record { base = base; elements = elements }

-- the heading that the words of a line have after the first two
abbrev pub heading_in : List (List ℕ) → Option LogHeading
heading_in (first ∷ second ∷ words) = heading_before words
heading_in words = None

-- the question of an answer
abbrev pub question_of : Claimed → Question
question_of answer = record { edit = answer.edit; kind = answer.kind; lo = answer.lo; hi = answer.hi }

-- bytes are the right answer to a question, for the list at its version
pub record IsAnswer (xs : List ℤ) (question : Question) (value : List ℕ) : Type 0 where
  pub range : question.lo ≤ question.hi
  pub end : question.hi ≤ length xs
  pub right : value ≡ shown_text (plain_value question.kind (slice_range xs question.lo question.hi))

-- a question that comes in order, after all updates that represent elements, whose version has been reached, and which has the right answer
pub record IsAnswered (elements : ℕ) (journal : List Edit) (last : ℕ) (question : Question) (value : List ℕ) : Type 0 where
  pub behind : elements ≤ length journal
  pub order : last ≤ question.edit
  pub edit : question.edit ≤ length journal
  pub answer : IsAnswer (list_of (take question.edit journal)) question value

-- ---- how far an audit has come

-- what comes next or was found; the heading, if the text is a log; the updates so far; the version of the last answer; and whether updates may
-- come after answers
pub record AuditState : Type 0 where
  pub stage : Stage
  pub heading : Option LogHeading
  pub journal : List Edit
  pub last : ℕ
  pub mixed : Bool

-- the state of an audit that is at a stage, has replayed all updates so far, and whose last answer has this version
abbrev pub state_of : Bool → Option LogHeading → Stage → History → ℕ → AuditState
state_of mixed heading stage edits last = record { stage = stage; heading = heading; journal = edits.journal; last = last; mixed = mixed }

-- an audit before its first line
abbrev pub start_state : Bool → AuditState
start_state mixed = record { stage = stages.Start; heading = None; journal = []; last = 0; mixed = mixed }

-- a line is false, or not of a form that may come there
abbrev pub is_fault : Stage → Bool
is_fault (stages.No n) = true
is_fault (stages.Bad n) = true
is_fault _ = false

-- no further line is looked at
abbrev pub is_stopped : Stage → Bool
is_stopped stages.NoMemory = true
is_stopped stage = is_fault stage

-- edits and answers may be followed by answers and the last line
abbrev pub MayEnd : Stage → Type 0
MayEnd stage = (stage ≡ stages.Edits) ⊎ (stage ≡ stages.AnswersFollow)

-- updates may be followed by updates; answers may too if both may be mixed
abbrev pub MayEdit : Bool → Stage → Type 0
MayEdit mixed stage = (stage ≡ stages.Edits) ⊎ ((mixed ≡ true) × (stage ≡ stages.AnswersFollow))

-- all updates that represent elements have come
abbrev pub HasAllElements : AuditState → Type 0
HasAllElements old = elements_of old.heading ≤ length old.journal

-- an update may come after these: if it is one of the first `elements`, which represent elements, it is a push
abbrev pub IsInPlace : ℕ → List Edit → Edit → Type 0
IsInPlace elements journal edit = length journal < elements → IsPush (inl edit)

-- the first line is taken
pub record TakesFirst (old : AuditState) (line : List ℕ) (new : AuditState) : Type 0 where
  pub heading : Option LogHeading
  pub at : old.stage ≡ stages.Start
  pub begins : MayBegin old.mixed heading
  pub text : line ≡ heading_line heading
  pub next : new ≡ record old { stage = stages.Edits; heading = heading }

-- the line of an update is taken, and the update is accepted after those before it
pub record TakesEdit (old : AuditState) (line : List ℕ) (new : AuditState) : Type 0 where
  pub edit : Edit
  pub at : MayEdit old.mixed old.stage
  pub fits : IsEdit edit
  pub text : line ≡ edit_line edit
  pub verdict : verdict_of greatest old.journal edit ≡ None
  pub place : IsInPlace (elements_of old.heading) old.journal edit
  pub next : new ≡ record old { stage = stages.Edits; journal = old.journal ++ edit ∷ [] }

-- the line of an answer is taken; the answer comes in order and is true
pub record TakesAnswer (old : AuditState) (line : List ℕ) (new : AuditState) : Type 0 where
  pub answer : Claimed
  pub at : MayEnd old.stage
  pub fits : IsQuestion (question_of answer)
  pub text : line ≡ answer_line answer
  pub order : old.last ≤ answer.edit
  pub holds : IsTrueAnswer old.journal answer
  pub behind : HasAllElements old
  pub next : new ≡ record old { stage = stages.AnswersFollow; last = answer.edit }

-- a line is the last one of a transcript; a log has none
abbrev pub IsLast : Option LogHeading → List ℕ → Type 0
IsLast heading line = (heading ≡ None) × (line ≡ end_line)

-- the last line is taken
pub record TakesLast (old : AuditState) (line : List ℕ) (new : AuditState) : Type 0 where
  pub at : MayEnd old.stage
  pub text : IsLast old.heading line
  pub next : new ≡ record old { stage = stages.End }

-- a line that comes after the edits is taken
abbrev pub TakesLater : AuditState → List ℕ → AuditState → Type 0
TakesLater old line new = TakesAnswer old line new ⊎ TakesLast old line new

-- a line of at most 120 bytes is taken, since it may come there
abbrev pub Takes : AuditState → List ℕ → AuditState → Type 0
Takes old line new = (length line ≤ 120) × (TakesFirst old line new ⊎ TakesEdit old line new ⊎ TakesLater old line new)

-- a line that comes after the edits has the form of an answer in order, or is the last
abbrev pub HasLaterForm : AuditState → List ℕ → Type 0
HasLaterForm old line = MayEnd old.stage × (BeginsAnswer old.last line ⊎ IsLast old.heading line)

-- a line of at most 120 bytes has a form that may come next
abbrev pub MayCome : AuditState → List ℕ → Type 0
MayCome old line =
    (length line ≤ 120)
    × (((old.stage ≡ stages.Start) × IsFirst old.mixed line) ⊎ (MayEdit old.mixed old.stage × HasEditForm line) ⊎ HasLaterForm old line)

-- a fault names the line of this number: as false if it has the right form, and as bad if it doesn't
abbrev pub IsFaultOf : ℕ → Type 0 → Stage → Type 0
IsFaultOf number Form (stages.No n) = (n ≡ number) × Form
IsFaultOf number Form (stages.Bad n) = (n ≡ number) × (Form → ⊥)
IsFaultOf number Form _ = ⊥

-- line n was taken; or it cannot be, and this fault was found, by its form, after the updates of a state; or memory ran out
abbrev pub Becomes : ℕ → AuditState → Type 0 → (AuditState → Type 0) → AuditState → Type 0
Becomes n old Form Next new =
    Next new
    ⊎ (IsFaultOf n Form new.stage × (new.journal ≡ old.journal) × (new.heading ≡ old.heading) × ((next : AuditState) → Next next → ⊥))
    ⊎ (new.stage ≡ stages.NoMemory)

-- line n of an audit. Nothing changes once the audit has stopped
abbrev pub Audits : AuditState → ℕ → List ℕ → AuditState → Type 0
Audits old n line new =
    ((is_stopped old.stage ≡ true) × (new ≡ old)) ⊎ ((is_stopped old.stage ≡ false) × Becomes n old (MayCome old line) (Takes old line) new)

-- the fate of the update in line n, after those before it, if so many of the first updates represent elements: it was made, it cannot be made, or
-- memory ran out
abbrev pub EditBecomes : ℕ → ℕ → List Edit → Edit → Stage → List Edit → Type 0
EditBecomes number elements old edit stages.Edits new = (verdict_of greatest old edit ≡ None) × IsInPlace elements old edit × (new ≡ old ++ edit ∷ [])
EditBecomes number elements old edit (stages.No n) new = (n ≡ number) × (new ≡ old) × (verdict_of greatest old edit ≡ None → IsInPlace elements old edit → ⊥)
EditBecomes number elements old edit stages.NoMemory new = Unit {0}
EditBecomes number elements old edit _ new = ⊥

-- the fate of the answer in line n: it is true, it is not true, it comes out of order, or memory ran out
abbrev pub AnswerLineBecomes : ℕ → ℕ → List Edit → ℕ → Question → List ℕ → Stage → ℕ → Type 0
AnswerLineBecomes number elements journal last question value stages.AnswersFollow reached = IsAnswered elements journal last question value × (reached ≡ question.edit)
AnswerLineBecomes number elements journal last question value (stages.No n) reached =
    (n ≡ number) × (last ≤ question.edit) × (IsAnswered elements journal last question value → ⊥)
AnswerLineBecomes number elements journal last question value (stages.Bad n) reached = (n ≡ number) × (question.edit < last)
AnswerLineBecomes number elements journal last question value stages.NoMemory reached = Unit {0}
AnswerLineBecomes number elements journal last question value _ reached = ⊥

-- the fate of the answer in line n, given the list at its version: it is right, it is not, or memory ran out
abbrev pub AnswerBecomes : ℕ → List ℤ → Question → List ℕ → Stage → Type 0
AnswerBecomes number xs question value stages.AnswersFollow = IsAnswer xs question value
AnswerBecomes number xs question value (stages.No n) = (n ≡ number) × (IsAnswer xs question value → ⊥)
AnswerBecomes number xs question value stages.NoMemory = Unit {0}
AnswerBecomes number xs question value _ = ⊥

-- the verdict on a transcript when the audit has come to this stage after so many lines. If it hasn't come to the end, the next line is missing
abbrev pub IsVerdictAt : Stage → ℕ → Verdict → Type 0
IsVerdictAt stages.End lines verdict = verdict ≡ verdicts.Yes
IsVerdictAt (stages.No n) lines verdict = verdict ≡ verdicts.No n
IsVerdictAt (stages.Bad n) lines verdict = verdict ≡ verdicts.Bad n
IsVerdictAt stages.NoMemory lines verdict = ⊥
IsVerdictAt _ lines verdict = (n : ℕ) × (verdict ≡ verdicts.Bad n) × (lines + 1 < 2 ^ 32 → n ≡ lines + 1)

-- an audit, how many lines there were, and how many bytes the lines have that were taken, except for the last line of a transcript
pub record CountedState : Type 0 where
  pub audit : AuditState
  pub lines : ℕ
  pub whole : ℕ

-- such a state in terms of an auditor's fields: the number of the last line, and the bytes
abbrev pub counted_at : Bool → Option LogHeading → Stage → History → ℕ → ℕ → ℕ → CountedState
counted_at mixed heading stage edits last lines whole = record { audit = state_of mixed heading stage edits last; lines = lines; whole = whole }

-- the bytes after a line, at a stage: those of the line and its LF are added if others may follow. The count is exact while it fits into 64 bits
abbrev pub CountsBytes : Stage → ℕ → List ℕ → ℕ → Type 0
CountsBytes stages.Edits old line new = old + length line + 1 < 2 ^ 64 → new ≡ old + length line + 1
CountsBytes stages.AnswersFollow old line new = old + length line + 1 < 2 ^ 64 → new ≡ old + length line + 1
CountsBytes stage old line new = new ≡ old

-- a line has no reply; the lines and their bytes are counted
unfoldable pub CountedStep : CountedState → ℕ → List ℕ → List ℕ → CountedState → Type 0
CountedStep old n line text new =
    (text ≡ []) × (new.lines ≡ n) × Audits old.audit n line new.audit × CountsBytes new.audit.stage old.whole line new.whole

-- before the first line
abbrev pub counted_start : Bool → CountedState
counted_start mixed = record { audit = start_state mixed; lines = 0; whole = 0 }

-- the verdict on a prefix with so many updates and entries, if so many of the first updates represent elements: how many updates and answers it
-- has; or, if an element is missing, the number of the line after the last
abbrev pub IsToldOf : ℕ → ℕ → ℕ → ℕ → FrontVerdict → Type 0
IsToldOf elements lines edits entries verdict =
    ((elements ≤ edits) × (verdict ≡ fronts.Front edits (entries - edits)))
    ⊎ ((edits < elements) × ((n : ℕ) × (verdict ≡ fronts.Bad n) × (lines + 1 < 2 ^ 32 → n ≡ lines + 1)))

-- the verdict on a prefix when the audit has come to this stage, after so many lines and updates, if so many of the first updates represent
-- elements. The first line and the last are neither updates nor answers
abbrev pub IsFoundAt : Stage → ℕ → ℕ → ℕ → FrontVerdict → Type 0
IsFoundAt stages.Start elements lines edits verdict = verdict ≡ fronts.Front 0 0
IsFoundAt stages.Edits elements lines edits verdict = IsToldOf elements lines edits (lines - 1) verdict
IsFoundAt stages.AnswersFollow elements lines edits verdict = IsToldOf elements lines edits (lines - 1) verdict
IsFoundAt stages.End elements lines edits verdict = verdict ≡ fronts.Front edits (lines - 2 - edits)
IsFoundAt (stages.No n) elements lines edits verdict = verdict ≡ fronts.No n
IsFoundAt (stages.Bad n) elements lines edits verdict = verdict ≡ fronts.Bad n
IsFoundAt stages.NoMemory elements lines edits verdict = ⊥
