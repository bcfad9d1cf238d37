-- What the calls of a vector do and answer, for the object in a slot.
use Rattle.std.specs.Prelude.{◌≡◌, ℕ, Bool, true, false, Option, Some, None, Result, IfOk, IfErr, if◌then◌else◌, ◌==◌}
use Rattle.lv_geometry.specs.declared.refusals.Refusal.{Refusal}
use Rattle.lv_bodies.specs.Automata.{table_of}
use Rattle.lv_bodies.specs.Six.{SixSummary, six_operations_by}
use Rattle.lv_bodies.specs.declared.kinds.Kind.{Kind}
use Rattle.lv_bodies.specs.declared.sixes.SixByTable.{SixByTable}
use Rattle.lv_edits.specs.declared.edit.Edit.{Edit}
use Rattle.lv_edits.specs.declared.receipt.Receipt.{Receipt}
use Rattle.lv_edits.specs.Verdict.{Answers, element_at, verdict_of}
use Rattle.lv_edits.specs.Ranges.{range_refusal}
use Rattle.lv_reduce.specs.declared.reductions.Answer.{Answer}
use Rattle.lv_reduce.specs.Answer.{IsAnswer}
use Rattle.lv_live.specs.Step.{Reduces as ReducesAt}
use Rattle.lv_edits.specs.Kept.{IsLegalInLimits}
use Rattle.lv_live.specs.State.{LiveState, recorded, SameRefresh}
use Rattle.livevec_c.specs.declared.objects.Object.{Object}
use Rattle.livevec_c.specs.declared.objects.Object.TheVariants.{Closed, Vector}
use Rattle.livevec_c.specs.declared.results.Edited.{Edited}
use Rattle.livevec_c.specs.declared.results.Element.{Element}
use Rattle.livevec_c.specs.declared.results.Verdict.{Verdict}
use Rattle.livevec_c.specs.declared.results.Count.{Count}
use Rattle.livevec_c.specs.declared.results.Reduced.{Reduced}
use Rattle.livevec_c.specs.Answers.{edited_by, element_by, element_in, judged_by, no_element, reduced_by, unedited, unjudged, unreduced}

-- a vector for C: of the six bodies at once
abbrev pub State : Type 0
State = LiveState SixByTable SixSummary

-- an edit of a vector: it is answered as the library answers it, and the summaries and claims stay
abbrev pub EditsVector : Edit → Edited → State → State → Type 0
EditsVector edit answer old new =
    IsLegalInLimits new.history × SameRefresh old new
    × ((r : Result Receipt Refusal) × (answer ≡ edited_by r) × Answers old.history edit r new.history)

-- an edit of an object: of a vector only
abbrev pub EditsObject : Edit → Edited → Object → Object → Type 0
EditsObject edit answer (Vector old only) new = (state : State) × (new ≡ Vector state only) × EditsVector edit answer old state
EditsObject edit answer other new = (answer ≡ unedited) × (new ≡ other)

-- an edit of the object in a slot
abbrev pub Edits : Edit → Edited → Option Object → Option Object → Type 0
Edits edit answer None new = (answer ≡ unedited) × (new ≡ None)
Edits edit answer (Some old) new = (object : Object) × (new ≡ Some object) × EditsObject edit answer old object

-- an edit of the object in a slot, if there is such an edit
abbrev pub EditsBy : Option Edit → Edited → Option Object → Option Object → Type 0
EditsBy None answer old new = (answer ≡ unedited) × (new ≡ old)
EditsBy (Some edit) answer old new = Edits edit answer old new

-- why an edit of an object would be refused, as the library judges it
abbrev pub JudgesObject : Edit → Verdict → Object → Type 0
JudgesObject edit answer (Vector state only) = answer ≡ judged_by (verdict_of state.history.limits state.history.journal edit)
JudgesObject edit answer other = answer ≡ unjudged

abbrev pub Judges : Edit → Verdict → Option Object → Type 0
Judges edit answer None = answer ≡ unjudged
Judges edit answer (Some object) = JudgesObject edit answer object

-- why an edit of the object in a slot would be refused, if there is such an edit
abbrev pub JudgesBy : Option Edit → Verdict → Option Object → Type 0
JudgesBy None answer held = answer ≡ unjudged
JudgesBy (Some edit) answer held = Judges edit answer held

-- the element at an index of an object of a sort: of a vector (0), as the library answers it, or of a closed board (4)
abbrev pub element_of : ℕ → ℕ → Object → Element
element_of sort index (Vector state only) = if sort == 0 then element_by (element_at state.history.journal index) else no_element
element_of sort index (Closed ended) = if sort == 4 then element_by (element_in ended.closed.elements index) else no_element
element_of sort index other = no_element

abbrev pub element_behind : ℕ → ℕ → Option Object → Element
element_behind sort index None = no_element
element_behind sort index (Some object) = element_of sort index object

-- a count if there is no vector
abbrev pub no_count : Count
no_count = record { refusal = 101; value = 0 }

-- a reduction of a vector by all six kinds, each by its own tree: except for counts of reads, it is answered as the library answers it
pub record AsksVector (lo hi : ℕ) (answer : Reduced) (state : State) : Type 0 where
  pub r : Result (Answer SixSummary) Refusal
  pub answer_is : answer ≡ reduced_by r
  pub ok : IfOk r (λ a. IsAnswer (six_operations_by (table_of state.body.automaton)) state.history.journal lo hi a)
  pub err : IfErr r (λ refusal. range_refusal state.history.journal lo hi ≡ Some refusal)
  pub within : IsLegalInLimits state.history

-- a reduction of a vector by all six kinds, by its trees or as the library answers it; a vector that is of one kind refuses both
abbrev pub SixOf : Option Kind → Bool → ℕ → ℕ → Reduced → State → Type 0
SixOf (Some only) trees lo hi answer state = answer ≡ unreduced 113 0
SixOf None true lo hi answer state = AsksVector lo hi answer state
SixOf None false lo hi answer state =
    (r : Result (Answer SixSummary) Refusal) × (answer ≡ reduced_by r) × IsLegalInLimits state.history × ReducesAt (six_operations_by (table_of state.body.automaton)) (recorded state) lo hi r

-- a reduction of an object, which is to be a vector
abbrev pub SixIn : Bool → ℕ → ℕ → Reduced → Object → Type 0
SixIn trees lo hi answer (Vector state only) = SixOf only trees lo hi answer state
SixIn trees lo hi answer other = answer ≡ unreduced 101 0

abbrev pub Six : Bool → ℕ → ℕ → Reduced → Option Object → Type 0
Six trees lo hi answer None = answer ≡ unreduced 101 0
Six trees lo hi answer (Some object) = SixIn trees lo hi answer object

-- one of two things that a call may do
abbrev pub OneOf : Bool → Type 0 → Type 0 → Type 0
OneOf true first second = first
OneOf false first second = second
