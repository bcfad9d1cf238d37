-- What the calls of jobs of many blocks do and answer, for the objects in the slots.
use Rattle.std.specs.Prelude.{◌≡◌, ◌⊎◌, ℕ, ◌-◌, ◌/◌, min, nat_eq, Option, Some, None, List, [], ◌∷◌, length, if◌then◌else◌}
use Rattle.lv_bodies.specs.Automata.{table_of}
use Rattle.lv_bodies.specs.Six.{six_operations_by}
use Rattle.lv_bodies.specs.declared.sixes.SixByTable.{SixByTable}
use Rattle.lv_edits.specs.History.{list_of}
use Rattle.lv_refresh.specs.Subtrees.{Copied}
use Rattle.lv_live.specs.declared.batches.Batched.{Batched}
use Rattle.lv_live.specs.declared.batches.BlockJob.{BlockJob}
use Rattle.lv_live.specs.Batches.{DeliversEach, due_jobs}
use Rattle.lv_live.specs.State.{recorded}
use Rattle.livevec_c.specs.declared.objects.Object.{Object}
use Rattle.livevec_c.specs.declared.objects.Object.TheVariants.{Vector, Batch, BatchOutcome, Subtree, SubtreeOutcome}
use Rattle.livevec_c.specs.declared.results.Taken.{Taken}
use Rattle.livevec_c.specs.declared.results.Count.{Count}
use Rattle.livevec_c.specs.Behind.{State}

-- the jobs of a batch of a vector: of each block that is whole and not fresh, of at most so many from one on, in order
abbrev pub jobs_in : ℕ → ℕ → State → List (BlockJob SixByTable)
jobs_in first limit state = due_jobs state.body (recorded state) first (min limit (length (list_of state.history.journal) / 8 - first))

-- the answer of a copy that was refused
abbrev pub uncopied : ℕ → Count
uncopied refusal = record { refusal = refusal; value = 0 }

-- what a batch's slot holds: nothing if there are no jobs
abbrev pub batch_of : List (BlockJob SixByTable) → Option Object
batch_of [] = None
batch_of (job ∷ jobs) = Some (Batch (job ∷ jobs))

-- the slot holds the jobs, if there are any, and the answer says how many; or there was no memory, and the slot is empty
abbrev pub KeepsCopies : List (BlockJob SixByTable) → Count → Option Object → Type 0
KeepsCopies jobs answer slot =
    ((answer ≡ uncopied 6) × (slot ≡ None)) ⊎ ((answer ≡ record { refusal = 0; value = length jobs }) × (slot ≡ batch_of jobs))

-- a copy from a vector, which stays as it is
abbrev pub CopiesVector : ℕ → ℕ → Count → State → Option Object → Type 0
CopiesVector first limit answer state slot = KeepsCopies (jobs_in first limit state) answer slot

abbrev pub CopiesObject : ℕ → ℕ → Count → Object → Option Object → Type 0
CopiesObject first limit answer (Vector state only) slot = CopiesVector first limit answer state slot
CopiesObject first limit answer other slot = (answer ≡ uncopied 101) × (slot ≡ None)

-- jobs became their outcomes, of the same blocks, versions and elements, in order; or there was no memory, and they stay
abbrev pub RunsBatch : ℕ → List (BlockJob SixByTable) → Object → Type 0
RunsBatch number jobs new = ((number ≡ 6) × (new ≡ Batch jobs)) ⊎ ((number ≡ 0) × (new ≡ BatchOutcome jobs))

-- the job of a subtree became its outcome, of the same elements; or there was no memory, and it stays
abbrev pub RunsSubtree : ℕ → Copied SixByTable → Object → Type 0
RunsSubtree number job new = ((number ≡ 6) × (new ≡ Subtree job)) ⊎ ((number ≡ 0) × (new ≡ SubtreeOutcome (Some job)))

-- a run of either kind of job, and of nothing else
abbrev pub RunsObject : ℕ → Object → Object → Type 0
RunsObject number (Batch jobs) new = RunsBatch number jobs new
RunsObject number (Subtree job) new = RunsSubtree number job new
RunsObject number other new = (number ≡ 101) × (new ≡ other)

abbrev pub RunsBlocks : ℕ → Option Object → Option Object → Type 0
RunsBlocks number None new = (number ≡ 101) × (new ≡ None)
RunsBlocks number (Some old) new = (object : Object) × (new ≡ Some object) × RunsObject number old object

-- the answer about outcomes that were delivered
abbrev pub taken_by : Batched → Taken
taken_by told = record { refusal = 0; installed = told.installed; held = told.held; stale = told.stale; strangers = told.strangers }

-- the answer if a slot does not hold what it should
abbrev pub untaken : Taken
untaken = record { refusal = 101; installed = 0; held = 0; stale = 0; strangers = 0 }

-- each outcome was delivered if it is vouched for, and counted as what became of it; the body and the edits stay
pub record TakesVector (answer : Taken) (old new : State) (jobs : List (BlockJob SixByTable)) : Type 0 where
  pub told : Batched
  pub answer_is : answer ≡ taken_by told
  pub delivers : DeliversEach (six_operations_by (table_of old.body.automaton)) (λ body. table_of old.body.automaton ≡ table_of body.automaton) jobs old new told
  pub body : new.body ≡ old.body
  pub history : new.history ≡ old.history

abbrev pub TakesLive : Taken → State → State → Object → Type 0
TakesLive answer old new (BatchOutcome jobs) = TakesVector answer old new jobs
TakesLive answer old new other = (answer ≡ untaken) × (new ≡ old)

abbrev pub TakesObject : Taken → Object → Object → Object → Type 0
TakesObject answer (Vector old only) new brought = (state : State) × (new ≡ Vector state only) × TakesLive answer old state brought
TakesObject answer other new brought = (answer ≡ untaken) × (new ≡ other)

-- the object in a slot is taken in by another object; the slot is empty afterwards if it was taken in
abbrev pub TakesBrought : Taken → Object → Object → Option Object → Option Object → Type 0
TakesBrought answer old new None slot = (answer ≡ untaken) × (new ≡ old) × (slot ≡ None)
TakesBrought answer old new (Some brought) slot = (slot ≡ (if nat_eq answer.refusal 0 then None else Some brought)) × TakesObject answer old new brought

abbrev pub Takes : Taken → Option Object → Option Object → Option Object → Option Object → Type 0
Takes answer None new batch slot = (answer ≡ untaken) × (new ≡ None) × (slot ≡ batch)
Takes answer (Some old) new batch slot = (object : Object) × (new ≡ Some object) × TakesBrought answer old object batch slot
