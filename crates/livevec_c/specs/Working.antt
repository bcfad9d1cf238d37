-- What the calls of refresh do and answer, for the objects in the slots.
use Rattle.std.specs.Prelude.{◌≡◌, ◌⊎◌, ◌<◌, ◌≤◌, ◌↔◌, ℕ, Bool, true, false, IsTrue, Option, Some, None, option_map, IfSome}
use Rattle.lv_bodies.specs.Automata.{table_of}
use Rattle.lv_bodies.specs.Six.{SixSummary, six_operations_by}
use Rattle.lv_bodies.specs.declared.sixes.SixByTable.{SixByTable}
use Rattle.lv_refresh.specs.Carried.{Carried}
use Rattle.lv_refresh.specs.Claim.{IsNextJob}
use Rattle.lv_refresh.specs.Delivery.{delivery_of}
use Rattle.lv_refresh.specs.Honesty.{IsHonest, Vouched as VouchedFor}
use Rattle.lv_live.specs.State.{HasClaim, HasDelivery, HasNoClaims, node_and_version, recorded}
use Rattle.lv_live.specs.Turns.{TakesTurns}
use Rattle.livevec_c.specs.declared.objects.Object.{Object}
use Rattle.livevec_c.specs.declared.objects.Object.TheVariants.{Vector, Job, Outcome}
use Rattle.livevec_c.specs.declared.results.Count.{Count}
use Rattle.livevec_c.specs.declared.jobs.ClaimedJob.{ClaimedJob}
use Rattle.livevec_c.specs.declared.jobs.Delivered.{Delivered}
use Rattle.livevec_c.specs.declared.jobs.Vetted.{Vetted}
use Rattle.livevec_c.specs.Answers.{accepted_by, claimed_by, unaccepted, unclaimed, unvetted}
use Rattle.livevec_c.specs.Behind.{State, no_count}

-- so many jobs were done in place, at most as many as were asked for; fewer only if no node needs one any longer
pub record RefreshesVector (jobs : ℕ) (answer : Count) (old new : State) : Type 0 where
  pub granted : answer.refusal ≡ 0
  pub turns : TakesTurns (six_operations_by (table_of old.body.automaton)) old new answer.value
  pub most : answer.value ≤ jobs
  pub idle : answer.value < jobs → IsNextJob (recorded new) None

abbrev pub RefreshesObject : ℕ → Count → Object → Object → Type 0
RefreshesObject jobs answer (Vector old only) new = (state : State) × (new ≡ Vector state only) × RefreshesVector jobs answer old state
RefreshesObject jobs answer other new = (answer ≡ no_count) × (new ≡ other)

abbrev pub Refreshes : ℕ → Count → Option Object → Option Object → Type 0
Refreshes jobs answer None new = (answer ≡ no_count) × (new ≡ None)
Refreshes jobs answer (Some old) new = (object : Object) × (new ≡ Some object) × RefreshesObject jobs answer old object

-- no claim is left
abbrev pub ForgetsObject : ℕ → Object → Object → Type 0
ForgetsObject answer (Vector old only) new = (state : State) × (new ≡ Vector state only) × (answer ≡ 0) × HasNoClaims old state
ForgetsObject answer other new = (answer ≡ 101) × (new ≡ other)

abbrev pub Forgets : ℕ → Option Object → Option Object → Type 0
Forgets answer None new = (answer ≡ 101) × (new ≡ None)
Forgets answer (Some old) new = (object : Object) × (new ≡ Some object) × ForgetsObject answer old object

-- what a claim answers
abbrev pub claim_answers : Option (Carried SixByTable SixSummary) → ClaimedJob
claim_answers None = unclaimed 0
claim_answers (Some job) = claimed_by job.node job.version

-- the next job was claimed, if there is one, and the slot holds it
pub record ClaimsJob (answer : ClaimedJob) (old new : State) (slot : Option Object) : Type 0 where
  pub made : Option (Carried SixByTable SixSummary)
  pub answer_is : answer ≡ claim_answers made
  pub slot_is : slot ≡ option_map Job made
  pub next : IsNextJob (recorded old) (option_map node_and_version made)
  pub claimed : HasClaim old new (option_map node_and_version made)
  pub body : IfSome made (λ job. job.body ≡ old.body)
  pub honest : IfSome made (λ job. IsHonest (six_operations_by (table_of old.body.automaton)) (recorded new) job.node job.version job.contents)

-- a claim of a vector, or there was no memory, and nothing has changed
abbrev pub ClaimsVector : ClaimedJob → State → State → Option Object → Type 0
ClaimsVector answer old new slot = ((answer ≡ unclaimed 6) × (new ≡ old) × (slot ≡ None)) ⊎ ClaimsJob answer old new slot

abbrev pub ClaimsObject : ClaimedJob → Object → Object → Option Object → Type 0
ClaimsObject answer (Vector old only) new slot = (state : State) × (new ≡ Vector state only) × ClaimsVector answer old state slot
ClaimsObject answer other new slot = (answer ≡ unclaimed 101) × (new ≡ other) × (slot ≡ None)

-- a claim from the object in a slot, for an empty slot of the job
abbrev pub ClaimsInto : ClaimedJob → Option Object → Option Object → Option Object → Type 0
ClaimsInto answer None new slot = (answer ≡ unclaimed 101) × (new ≡ None) × (slot ≡ None)
ClaimsInto answer (Some old) new slot = (object : Object) × (new ≡ Some object) × ClaimsObject answer old object slot

abbrev pub Claims : ClaimedJob → Option Object → Option Object → Option Object → Option Object → Type 0
Claims answer old (Some job) new slot = (answer ≡ unclaimed 104) × (new ≡ old) × (slot ≡ Some job)
Claims answer old None new slot = ClaimsInto answer old new slot

-- a job became its outcome: of the same node, version, contents and body
abbrev pub RunsObject : Bool → Object → Object → Type 0
RunsObject done (Job job) new = (done ≡ true) × (new ≡ Outcome job)
RunsObject done other new = (done ≡ false) × (new ≡ other)

-- a job in a slot became its outcome, which is put into another slot that is empty
abbrev pub RunsInto : ℕ → Option Object → Option Object → Option Object → Type 0
RunsInto number None job outcome = (number ≡ 101) × (job ≡ None) × (outcome ≡ None)
RunsInto number (Some (Job carried)) job outcome = (number ≡ 0) × (job ≡ None) × (outcome ≡ Some (Outcome carried))
RunsInto number (Some other) job outcome = (number ≡ 101) × (job ≡ Some other) × (outcome ≡ None)

abbrev pub Runs : ℕ → Option Object → Option Object → Option Object → Option Object → Type 0
Runs number old (Some object) job outcome = (number ≡ 104) × (job ≡ old) × (outcome ≡ Some object)
Runs number old None job outcome = RunsInto number old job outcome

-- an outcome is vouched for by a vector
abbrev pub Vouched : State → Carried SixByTable SixSummary → Type 0
Vouched state outcome =
    VouchedFor (six_operations_by (table_of state.body.automaton)) (recorded state) (table_of state.body.automaton ≡ table_of outcome.body.automaton) outcome.node outcome.version outcome.contents

abbrev pub VetsVector : Vetted → State → Object → Type 0
VetsVector answer state (Outcome outcome) = (answer.refusal ≡ 0) × (IsTrue answer.yes ↔ Vouched state outcome)
VetsVector answer state other = answer ≡ unvetted

abbrev pub VetsObject : Vetted → Object → Object → Type 0
VetsObject answer (Vector state only) brought = VetsVector answer state brought
VetsObject answer other brought = answer ≡ unvetted

abbrev pub VetsWith : Vetted → Object → Option Object → Type 0
VetsWith answer object None = answer ≡ unvetted
VetsWith answer object (Some brought) = VetsObject answer object brought

abbrev pub Vets : Vetted → Option Object → Option Object → Type 0
Vets answer None outcome = answer ≡ unvetted
Vets answer (Some object) outcome = VetsWith answer object outcome

-- what became of an outcome that is vouched for
pub record Delivers (answer : Delivered) (old new : State) (outcome : Carried SixByTable SixSummary) : Type 0 where
  pub vouched : Vouched old outcome
  pub answer_is : answer ≡ accepted_by (delivery_of (recorded old) outcome.node outcome.version)
  pub delivered : HasDelivery old new outcome.node outcome.version (delivery_of (recorded old) outcome.node outcome.version)

-- an outcome is delivered if it is vouched for, else refused, and nothing has changed
abbrev pub AcceptsVector : Delivered → State → State → Carried SixByTable SixSummary → Type 0
AcceptsVector answer old new outcome = ((answer ≡ unaccepted 15) × (¬ Vouched old outcome) × (new ≡ old)) ⊎ Delivers answer old new outcome

abbrev pub AcceptsLive : Delivered → State → State → Object → Type 0
AcceptsLive answer old new (Outcome outcome) = AcceptsVector answer old new outcome
AcceptsLive answer old new other = (answer ≡ unaccepted 101) × (new ≡ old)

abbrev pub AcceptsObject : Delivered → Object → Object → Object → Type 0
AcceptsObject answer (Vector old only) new brought = (state : State) × (new ≡ Vector state only) × AcceptsLive answer old state brought
AcceptsObject answer other new brought = (answer ≡ unaccepted 101) × (new ≡ other)

abbrev pub AcceptsWith : Delivered → Object → Object → Option Object → Type 0
AcceptsWith answer old new None = (answer ≡ unaccepted 101) × (new ≡ old)
AcceptsWith answer old new (Some brought) = AcceptsObject answer old new brought

abbrev pub Accepts : Delivered → Option Object → Option Object → Option Object → Type 0
Accepts answer None new outcome = (answer ≡ unaccepted 101) × (new ≡ None)
Accepts answer (Some old) new outcome = (object : Object) × (new ≡ Some object) × AcceptsWith answer old object outcome
