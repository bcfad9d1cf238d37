-- What holds of every list of events, from the start.
use Rattle.std.specs.Prelude.{◌≡◌, ℕ, ◌≤◌, Option, option_map, Some, None, List, [], ◌∷◌, ◌++◌, slice_get, slice_index, nat_eq, IfSome, IfNone, if◌then◌else◌}
use Rattle.lv_geometry.specs.Bounds.{AreAllowed, Bounds}
use Rattle.lv_geometry.specs.declared.refusals.Refusal.{Refusal}
use Rattle.lv_bodies.specs.Body.{Operations}
use Rattle.lv_machine.specs.declared.entries.Entry.{Entry}
use Rattle.lv_machine.specs.declared.actors.Actor.{Actor}
use Rattle.lv_machine.specs.declared.events.Event.{Event}
use Rattle.lv_machine.specs.declared.events.Event.TheVariants.{Call, Step}
use Rattle.lv_machine.specs.declared.outcomes.Outcome.{Outcome}
use Rattle.lv_machine.specs.declared.outcomes.Outcome.TheVariants.{Done, Refused}
use Rattle.lv_machine.specs.declared.outcomes.Said.{Said}
use Rattle.lv_machine.specs.declared.tasks.Task.{Task}
use Rattle.lv_machine.specs.declared.tasks.Task.TheVariants as task
use Rattle.lv_machine.specs.History.{descriptor_of, Ends}
use Rattle.lv_machine.specs.Calls.{move_of}
use Rattle.lv_machine.specs.Machine.{first_state, machine_run, machine_step, MachineState}
use Rattle.lv_machine.specs.declared.moves.Move.{Move}
use Rattle.lv_machine.specs.Moves.{Config, MayMove, moved}
use Rattle.lv_machine.specs.Progress.{goal_under, StandsAt, terms_of, WasSaid}

-- The entries that the next step of a call of actor a adds to the history if it finds a descriptor: one, if the step is a compare-and-swap and
-- the descriptor is the actor's look, and otherwise none.
abbrev pub entries_added : {S : Type 0} → ℕ → (look found : ℕ) → Task S → List Entry
entries_added a look found (task.Exchange edit before) = if nat_eq found look then record { actor = a; edit = edit } ∷ [] else []
entries_added a look found _ = []

module _ {S : Type 0} where
  -- The descriptor that an actor last saw. A number that no actor has counts as an actor that saw no updates.
  abbrev pub look_in : Option (Actor S) → ℕ
  look_in None = descriptor_of []
  look_in (Some actor) = actor.look

  -- The call that an actor has under way, if it has one.
  abbrev pub task_in : Option (Actor S) → Option (Task S)
  task_in None = None
  task_in (Some actor) = actor.task

  -- The entries that a step of actor a adds to the history if the descriptor is `first`: none without a call under way.
  abbrev pub entries_by : ℕ → (first look : ℕ) → Option (Task S) → List Entry
  entries_by a first look None = []
  entries_by a first look (Some t) = entries_added a look first t

module _ {B S : Type 0} where
  -- The entries that an event adds to the history of a machine: those of a step. A call that begins adds none.
  abbrev pub accepted_by : MachineState B S → Event → List Entry
  accepted_by m (Call a c) = []
  accepted_by m (Step a) = entries_by a (slice_index m.words 0) (look_in (slice_get m.actors a)) (task_in (slice_get m.actors a))

  -- The move that an event makes on a machine: that of the next step of the actor's call. A call that begins makes none.
  abbrev pub move_made : MachineState B S → Event → Option Move
  move_made m (Call a c) = None
  move_made m (Step a) = option_map (move_of a) (task_in (slice_get m.actors a))

  -- The state of a machine, given a history: the words and the looks are the machine's.
  abbrev pub config_of : MachineState B S → List Entry → Config
  config_of m h = record { words = m.words; history = h; looks = λ a. look_in (slice_get m.actors a) }

module _ {B S : Type 0} (o : Operations S) (count : ℕ) (parts_of : S → List ℕ) (whole_of : List ℕ → S) where
  -- The history of a list of events: the entries that each of them adds, with the newest first.
  unfoldable pub accepted_in : MachineState B S → List Event → List Entry
  accepted_in m [] = []
  accepted_in m (e ∷ events) = accepted_in (machine_step o count parts_of whole_of m e).0 events ++ accepted_by m e

  -- The state after a list of events.
  abbrev pub config_after : MachineState B S → List Event → Config
  config_after m events = config_of (machine_run o count parts_of whole_of m events).0 (accepted_in m events)

module _ {S : Type 0} (o : Operations S) (count : ℕ) (parts_of : S → List ℕ) (limits : Bounds) where
  -- A step that ends a call returned to its actor what the history after the step says for the call's goal. `old` is the history that the actor's
  -- look showed before the step, and `k` the one that it shows after it.
  pub record WasTold (before after : Config) (a : ℕ) (t : Task S) (answer : Said S) : Type 0 where
    pub old : List Entry
    pub old_ends : Ends old before.history
    pub old_shown : before.looks a ≡ descriptor_of old
    pub k : List Entry
    pub ends : Ends k after.history
    pub shown : after.looks a ≡ descriptor_of k
    pub said : WasSaid o count parts_of limits a after.history old k (goal_under o count parts_of limits t) answer

  -- An event takes a machine from state c to state d. Both are reachable, and in both each actor's call knows what it should. If the event makes
  -- a move, that move is allowed in c and leads to d. If it makes none, d is c. If it is refused, nothing has changed. If a step ends a call, its
  -- actor got what the history says.
  pub record IsOneMove {B : Type 0} (seats : ℕ) (c d : Config) (m next : MachineState B S) (e : Event) (made : Option Move) (out : Outcome S) : Type 0 where
    pub before : StandsAt o count parts_of limits seats c m.words m.actors
    pub after : StandsAt o count parts_of limits seats d next.words next.actors
    pub moves : IfSome made (λ move. MayMove (terms_of o count parts_of limits seats) c move × (d ≡ moved c move))
    pub stays : IfNone made (d ≡ c)
    pub refused : (refusal : Refusal) → out ≡ Refused refusal → (d ≡ c) × (next ≡ m)
    pub told : (a look : ℕ) (t : Task S) (answer : Said S) → e ≡ Step a → slice_get m.actors a ≡ Some record { look = look; task = Some t } → out ≡ Done answer → WasTold c d a t answer

module _ {B S : Type 0} (o : Operations S) (count : ℕ) (parts_of : S → List ℕ) (whole_of : List ℕ → S) where
  -- After any list of events from the start, each further event is the move that belongs to it, or none, and returns what the history says. The
  -- history is that of the list itself.
  abbrev pub EveryEventIsOneMove : B → Type 0
  EveryEventIsOneMove body = (limits : Bounds) (actors : ℕ) (events : List Event) (e : Event) →
      AreAllowed limits.buckets limits.edits → limits.buckets ≤ 9 → actors ≤ 8 →
      let first : MachineState B S = first_state body limits actors in
      let m = (machine_run o count parts_of whole_of first events).0 in
      let next = machine_step o count parts_of whole_of m e in
      IsOneMove o count parts_of limits actors (config_after o count parts_of whole_of first events) (config_after o count parts_of whole_of first (events ++ e ∷ [])) m next.0 e (move_made m e) next.1

-- The history of a list of events is an earlier state of that of each longer list.
abbrev pub HistoriesGrow : (B : Type 0) {S : Type 0} → Operations S → ℕ → (S → List ℕ) → (List ℕ → S) → Type 0
HistoriesGrow B {S} o count parts_of whole_of = (m : MachineState B S) (events more : List Event) →
    Ends (config_after o count parts_of whole_of m events).history (config_after o count parts_of whole_of m (events ++ more)).history
