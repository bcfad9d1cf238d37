-- What the calls of whole subtrees do and answer, for the objects in the slots.
use Rattle.std.specs.Prelude.{◌≡◌, ◌⊎◌, ℕ, Bool, true, false, Option, Some, None, option_map, IfSome}
use Rattle.lv_bodies.specs.Automata.{table_of}
use Rattle.lv_bodies.specs.declared.sixes.SixByTable.{SixByTable}
use Rattle.lv_refresh.specs.Subtrees.{Copied}
use Rattle.lv_live.specs.State.{recorded}
use Rattle.lv_live.specs.Subtrees.{CanTake, HasSubtree, subtree_job}
use Rattle.livevec_c.specs.declared.objects.Object.{Object}
use Rattle.livevec_c.specs.declared.objects.Object.TheVariants.{Vector, Subtree, SubtreeOutcome}
use Rattle.livevec_c.specs.declared.results.Count.{Count}
use Rattle.livevec_c.specs.Behind.{State}
use Rattle.livevec_c.specs.Blocks.{CopiesObject, uncopied}

-- the answer of a subtree that was copied or taken in: how many summaries it has
abbrev pub all_summaries : Count
all_summaries = record { refusal = 0; value = 585 }

-- the answer of a copy: 0 if the subtree is worth no job
abbrev pub copied_answer : Option (Copied SixByTable) → Count
copied_answer None = uncopied 0
copied_answer (Some job) = all_summaries

-- the slot holds a job, and the answer says how many summaries it has; or the slot is empty, because there is no job or no memory
abbrev pub KeepsJob : Option (Copied SixByTable) → Count → Option Object → Type 0
KeepsJob job answer slot =
    ((answer ≡ uncopied 6) × (slot ≡ None)) ⊎ ((answer ≡ copied_answer job) × (slot ≡ option_map Subtree job))

-- a copy from a vector, which stays as it is
abbrev pub CopiesFromVector : ℕ → Count → State → Option Object → Type 0
CopiesFromVector number answer state slot = KeepsJob (subtree_job state.body (recorded state) number) answer slot

abbrev pub CopiesFrom : ℕ → Count → Object → Option Object → Type 0
CopiesFrom number answer (Vector state only) slot = CopiesFromVector number answer state slot
CopiesFrom number answer other slot = (answer ≡ uncopied 101) × (slot ≡ None)

-- a copy of a subtree of an object, or of its blocks from this number on
abbrev pub CopiesJobs : Bool → ℕ → ℕ → Count → Object → Option Object → Type 0
CopiesJobs true number limit answer object slot = CopiesFrom number answer object slot
CopiesJobs false number limit answer object slot = CopiesObject number limit answer object slot

-- a copy from the object in a slot, for an empty slot of the batch
abbrev pub CopiesInto : Bool → ℕ → ℕ → Count → Option Object → Option Object → Type 0
CopiesInto subtree number limit answer None slot = (answer ≡ uncopied 101) × (slot ≡ None)
CopiesInto subtree number limit answer (Some object) slot = CopiesJobs subtree number limit answer object slot

abbrev pub Copies : Bool → ℕ → ℕ → Count → Option Object → Option Object → Option Object → Type 0
Copies subtree number limit answer object (Some batch) slot = (answer ≡ uncopied 104) × (slot ≡ Some batch)
Copies subtree number limit answer object None slot = CopiesInto subtree number limit answer object slot

-- an outcome may be taken in by a vector: it wasn't yet, and what it was computed from is still there
abbrev pub CanTakeIn : State → Option (Copied SixByTable) → Type 0
CanTakeIn state outcome = CanTake (λ body. table_of state.body.automaton ≡ table_of body.automaton) state.history.journal outcome

-- a subtree that may be taken in was: each of its nodes is kept, nothing else has changed, and its outcome is spent
pub record IsTakenIn (answer : Count) (old new : State) (outcome left : Option (Copied SixByTable)) : Type 0 where
  pub can : CanTakeIn old outcome
  pub answer_is : answer ≡ all_summaries
  pub kept : IfSome outcome (λ copied. HasSubtree old new copied.number)
  pub spent : left ≡ None

-- an outcome that may not be taken in was not: nothing has changed
pub record IsLeftOut (answer : Count) (old new : State) (outcome left : Option (Copied SixByTable)) : Type 0 where
  pub cannot : ¬ CanTakeIn old outcome
  pub answer_is : answer ≡ uncopied 0
  pub vector : new ≡ old
  pub unspent : left ≡ outcome

-- an outcome is taken in by a vector, or left out
abbrev pub TakesSubtreeIn : Count → State → State → Option (Copied SixByTable) → Option (Copied SixByTable) → Type 0
TakesSubtreeIn answer old new outcome left = IsTakenIn answer old new outcome left ⊎ IsLeftOut answer old new outcome left

-- an object is taken in by a vector, or left out; one that is no outcome of a subtree stays as it is
abbrev pub TakesObjectIn : Count → State → State → Object → Object → Type 0
TakesObjectIn answer old new (SubtreeOutcome outcome) left = (rest : Option (Copied SixByTable)) × (left ≡ SubtreeOutcome rest) × TakesSubtreeIn answer old new outcome rest
TakesObjectIn answer old new brought left = (answer ≡ uncopied 101) × (new ≡ old) × (left ≡ brought)

-- an object is taken in by another, which is to be a vector, or left out
abbrev pub TakesInAt : Count → Object → Object → Object → Object → Type 0
TakesInAt answer (Vector old only) new brought left = (state : State) × (new ≡ Vector state only) × TakesObjectIn answer old state brought left
TakesInAt answer other new brought left = (answer ≡ uncopied 101) × (new ≡ other) × (left ≡ brought)

-- the object in the batch's slot is taken in by another, or left out; it stays in the slot
abbrev pub TakesInFrom : Count → Object → Object → Option Object → Option Object → Type 0
TakesInFrom answer old new None slot = (answer ≡ uncopied 101) × (new ≡ old) × (slot ≡ None)
TakesInFrom answer old new (Some brought) slot = (left : Object) × (slot ≡ Some left) × TakesInAt answer old new brought left

abbrev pub TakesSubtree : Count → Option Object → Option Object → Option Object → Option Object → Type 0
TakesSubtree answer None new batch slot = (answer ≡ uncopied 101) × (new ≡ None) × (slot ≡ batch)
TakesSubtree answer (Some old) new batch slot = (object : Object) × (new ≡ Some object) × TakesInFrom answer old object batch slot
