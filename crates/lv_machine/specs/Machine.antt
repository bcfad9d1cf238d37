-- A machine: the words and its actors, with one atomic step in each event.
use Rattle.std.specs.Prelude.{ℕ, ◌*◌, ◌&&◌, Option, option_and_then, Some, None, Result, Ok, Err, List, [], ◌∷◌, nat_le, slice_get, slice_index, slice_set, replicate, if◌then◌else◌}
use Rattle.lv_geometry.specs.Bounds.{Bounds}
use Rattle.lv_geometry.specs.declared.refusals.Refusal.{Refusal}
use Rattle.lv_geometry.specs.declared.refusals.Refusal.TheVariants.{BadLimits, NotNow}
use Rattle.lv_bodies.specs.Body.{Operations}
use Rattle.lv_machine.specs.declared.events.Call.{Call}
use Rattle.lv_machine.specs.declared.events.Event.{Event}
use Rattle.lv_machine.specs.declared.events.Event.TheVariants as event
use Rattle.lv_machine.specs.declared.outcomes.Outcome.{Outcome}
use Rattle.lv_machine.specs.declared.outcomes.Outcome.TheVariants as outcome
use Rattle.lv_machine.specs.declared.outcomes.Said.TheVariants as said
use Rattle.lv_machine.specs.declared.tasks.Goal.{Goal}
use Rattle.lv_machine.specs.declared.tasks.Task.{Task}
use Rattle.lv_machine.specs.declared.tasks.Task.TheVariants as task
use Rattle.lv_machine.specs.declared.actors.Actor.{Actor}
use Rattle.lv_machine.specs.History.{descriptor_of}
use Rattle.lv_machine.specs.Terms.{blocks_of}
use Rattle.lv_machine.specs.Calls.{advanced, task_block, goal_of, outcome_of, place_of, sees_next, task_after}

-- A machine: its monoid instance and limits, the words, and for each actor its look and its call, if one is under way.
pub record MachineState (B S : Type 0) : Type 0 where
  pub body : B
  pub limits : Bounds
  pub words : List ℕ
  pub actors : List (Actor S)

-- An actor at the start.
abbrev pub idle : {S : Type 0} → Actor S
idle = record { look = descriptor_of []; task = None }

-- Why a machine can't be made with these limits and this number of actors, if it can't.
abbrev pub setting_refusal : Bounds → ℕ → Option Refusal
setting_refusal limits actors = if nat_le limits.buckets 9 && (nat_le 1 actors && nat_le actors 8) then None else Some BadLimits

-- A machine at the start: no updates, and idle actors.
abbrev pub first_state : {B S : Type 0} → B → Bounds → ℕ → MachineState B S
first_state body limits actors = record {
  body = body;
  limits = limits;
  words = descriptor_of [] ∷ replicate (16 * blocks_of limits) 0;
  actors = replicate actors idle;
}

-- The block that an actor's call refreshes, if it does.
unfoldable pub block_refreshed : {B S : Type 0} → MachineState B S → ℕ → Option ℕ
block_refreshed m a = option_and_then (λ actor. option_and_then task_block actor.task) (slice_get m.actors a)

-- A machine with other words, and another state of one actor.
abbrev pub with_actor : {B S : Type 0} → MachineState B S → List ℕ → ℕ → Actor S → MachineState B S
with_actor m words a actor = record m { words = words; actors = slice_set m.actors a actor }

module _ {B S : Type 0} (o : Operations S) (count : ℕ) (parts_of : S → List ℕ) (whole_of : List ℕ → S) where
  -- A call of an idle actor: it begins, or ends before its first step.
  abbrev pub begins : MachineState B S → ℕ → ℕ → Result Goal Refusal → MachineState B S × Outcome S
  begins m a look (Ok g) = (with_actor m m.words a record { look = look; task = Some (task.Look g) }, outcome.Started)
  begins m a look (Err refusal) = (m, outcome.Done (said.Refused refusal))

  -- A call of an actor that may be unknown or busy.
  abbrev pub called_of : MachineState B S → ℕ → Call → ℕ → Option (Task S) → MachineState B S × Outcome S
  called_of m a c look None = begins m a look (goal_of c)
  called_of m a c look (Some t) = (m, outcome.Refused NotNow)

  abbrev pub called : MachineState B S → ℕ → Call → Option (Actor S) → MachineState B S × Outcome S
  called m a c None = (m, outcome.Refused NotNow)
  called m a c (Some actor) = called_of m a c actor.look actor.task

  -- A step of a busy actor's call: one move of the words and of its look, and how the call proceeds.
  abbrev pub stepped : MachineState B S → ℕ → ℕ → Task S → MachineState B S × Outcome S
  stepped m a look t =
      let after = sees_next m.words look t in
      let next = advanced o count parts_of whole_of m.limits look t (slice_index m.words (place_of look t)) in
      (with_actor m after.words a record { look = after.looks 0; task = task_after next }, outcome_of next)

  -- A step of an actor that may be unknown or idle.
  abbrev pub stepped_on : MachineState B S → ℕ → ℕ → Option (Task S) → MachineState B S × Outcome S
  stepped_on m a look None = (m, outcome.Refused NotNow)
  stepped_on m a look (Some t) = stepped m a look t

  abbrev pub gone_on : MachineState B S → ℕ → Option (Actor S) → MachineState B S × Outcome S
  gone_on m a None = (m, outcome.Refused NotNow)
  gone_on m a (Some actor) = stepped_on m a actor.look actor.task

  -- One event: the machine after it, and its outcome.
  unfoldable pub machine_step : MachineState B S → Event → MachineState B S × Outcome S
  machine_step m (event.Call a c) = called m a c (slice_get m.actors a)
  machine_step m (event.Step a) = gone_on m a (slice_get m.actors a)

  -- A list of events: the machine after them, and the outcome of each.
  unfoldable pub machine_run : MachineState B S → List Event → MachineState B S × List (Outcome S)
  machine_run m [] = (m, [])
  machine_run m (e ∷ events) =
      let next = machine_step m e in
      let rest = machine_run next.0 events in
      (rest.0, next.1 ∷ rest.1)
