-- A list of events has one history, and each further event is the move that belongs to it, or none.
use Rattle.std.proofs.Common.{◌≡◌, ◌≢◌, ℕ, zero, suc, ◌<◌, ◌≤◌, Bool, true, false, Option, Some, None, Result, Ok, Err, List, [], ◌∷◌, ◌++◌, length, nat_eq, replicate, slice_get, slice_index, slice_set, length-set, append_assoc, option_map, refl, sym, ap, ◌∙◌, subst, inl, inr}
use Rattle.std.specs.Prelude.{if◌then◌else◌}
use Rattle.std.proofs.lemmas.Bool.{cases_eq}
use Rattle.std.proofs.lemmas.List.{append-nil, get_or-set_same}
use Rattle.std.proofs.lemmas.Option.{same_Some, slice_get_read, slice_get_within}
use Rattle.lv_geometry.specs.Bounds.{Bounds}
use Rattle.lv_geometry.specs.declared.refusals.Refusal.{Refusal}
use Rattle.lv_geometry.specs.declared.refusals.Refusal.TheVariants.{NotNow}
use Rattle.lv_bodies.specs.Body.{Operations, BodyLaws}
use Rattle.lv_bodies.specs.Parts.{AreParts, HasParts}
use Rattle.lv_edits.specs.declared.edit.Edit.{Edit}
use Rattle.lv_machine.specs.declared.entries.Entry.{Entry}
use Rattle.lv_machine.specs.declared.events.Call.{Call}
use Rattle.lv_machine.specs.declared.events.Event.{Event}
use Rattle.lv_machine.specs.declared.events.Event.TheVariants as event
use Rattle.lv_machine.specs.declared.actors.Actor.{Actor}
use Rattle.lv_machine.specs.declared.outcomes.Outcome.{Outcome}
use Rattle.lv_machine.specs.declared.outcomes.Outcome.TheVariants as outcome
use Rattle.lv_machine.specs.declared.outcomes.Said.{Said}
use Rattle.lv_machine.specs.declared.outcomes.Said.TheVariants as said
use Rattle.lv_machine.specs.declared.tasks.Advance.{Advance}
use Rattle.lv_machine.specs.declared.tasks.Advance.TheVariants as advance
use Rattle.lv_machine.specs.declared.tasks.Goal.{Goal}
use Rattle.lv_machine.specs.declared.tasks.Task.{Task}
use Rattle.lv_machine.specs.declared.tasks.Task.TheVariants as task
use Rattle.lv_machine.specs.History.{descriptor_of}
use Rattle.lv_machine.specs.Calls.{goal_of, move_of, outcome_of, sees_next}
use Rattle.lv_machine.specs.Machine.{begins, called, called_of, first_state, gone_on, idle, machine_run, machine_step, MachineState, stepped, stepped_on}
use Rattle.lv_machine.specs.declared.moves.Move.{Move}
use Rattle.lv_machine.specs.Moves.{accepted, Config, looked, moved, start}
use Rattle.lv_machine.specs.Progress.{IsReached, StandsAt, terms_of}
use Rattle.lv_machine.specs.Schedules.{accepted_by, accepted_in, config_after, config_of, entries_added, entries_by, EveryEventIsOneMove, HistoriesGrow, IsOneMove, look_in, move_made, task_in, WasTold}
use Rattle.lv_machine.specs.Terms.{AreTerms}
use Rattle.lv_machine.proofs.AloneLaws.{alone_look, alone_words, other_look}
use Rattle.lv_machine.proofs.RunLaws.{run_keeps, run-snoc, step_keeps}
use Rattle.lv_machine.proofs.ListLaws.{replicate_same}
use Rattle.lv_machine.proofs.MachineLaws.{actor_after, goal_is, reached_call, reached_next, stands_start, take_may, terms_are, told_after}

not_step : (a b : ℕ) (c : Call) → event.Call a c ≡ event.Step b → ⊥
not_step a b c is = cc

same_step : (a b : ℕ) → event.Step a ≡ event.Step b → b ≡ a
same_step a b is = cc

same_task : {S : Type 0} (l m : ℕ) (t u : Task S) → ◌≡◌ {A = Option (Actor S)} (Some record { look = l; task = Some t }) (Some record { look = m; task = Some u }) → t ≡ u
same_task l m t u is =
    let actors = same_Some _ _ is in
    same_Some _ _ (ap (λ actor. actor.task) actors)

not_done : {S : Type 0} (answer : Said S) → outcome.Refused NotNow ≡ outcome.Done answer → ⊥
not_done answer is = cc

not_begun : {S : Type 0} (refusal : Refusal) → ◌≡◌ {A = Outcome S} outcome.Started (outcome.Refused refusal) → ⊥
not_begun refusal is = cc

not_refused : {S : Type 0} (next : Advance S) (refusal : Refusal) → outcome_of next ≡ outcome.Refused refusal → ⊥
not_refused (advance.Goes t) refusal is = cc
not_refused (advance.Ends answer) refusal is = cc

-- the look of an actor that was set at a place, and of the others
look_put : {S : Type 0} (xs : List (Actor S)) (a : ℕ) (x : Actor S) → a < length xs → look_in (slice_get (slice_set xs a x) a) ≡ x.look
look_put xs a x within = ap look_in (slice_get_read (slice_set xs a x) (length xs) a x (sym (length-set xs a x)) within (sym (get_or-set_same xs a x x within)))

get_kept : {X : Type 0} (xs : List X) (a b : ℕ) (x : X) → b ≢ a → slice_get (slice_set xs a x) b ≡ slice_get xs b
get_kept [] a b x apart = refl
get_kept (y ∷ ys) zero zero x apart = absurd (apart refl)
get_kept (y ∷ ys) zero (suc b) x apart = refl
get_kept (y ∷ ys) (suc a) zero x apart = refl
get_kept (y ∷ ys) (suc a) (suc b) x apart = get_kept ys a b x (λ same. apart (ap suc same))

-- a call that begins leaves its actor's look unchanged
look_kept : {S : Type 0} (xs : List (Actor S)) (a : ℕ) (x y : Actor S) → slice_get xs a ≡ Some x → y.look ≡ x.look → (b : ℕ) → look_in (slice_get (slice_set xs a y) b) ≡ look_in (slice_get xs b)
look_kept xs a x y there same b = elim (cases_eq b a) [
  | inl is ↦ subst (λ d. look_in (slice_get (slice_set xs a y) d) ≡ look_in (slice_get xs d)) (sym is) (look_put xs a y (slice_get_within xs a x there) ∙ same ∙ sym (ap look_in there))
  | inr apart ↦ ap look_in (get_kept xs a b y apart)
]

-- what a step adds to the history is what its move adds
by_found : (c : Config) (a : ℕ) (edit : Edit) (found : Bool) → (if found then record { actor = a; edit = edit } ∷ [] else []) ++ c.history ≡ (if found then accepted c a edit else looked c a).history
by_found c a edit true = refl
by_found c a edit false = refl

added : {S : Type 0} (c : Config) (a : ℕ) (t : Task S) → entries_added a (c.looks a) (slice_index c.words 0) t ++ c.history ≡ (moved c (move_of a t)).history
added c a (task.Look g) = refl
added c a (task.CompleteCell g) = refl
added c a (task.CompleteMark g) = refl
added c a (task.ReadBefore edit i) = refl
added c a (task.Exchange edit before) = by_found c a edit (nat_eq (slice_index c.words 0) (c.looks a))
added c a (task.ReadCell i) = refl
added c a (task.SumCell walk) = refl
added c a (task.SumMark walk) = refl
added c a (task.SumPart walk parts) = refl
added c a (task.KeepMark b) = refl
added c a (task.KeepCell keep) = refl
added c a (task.KeepPart b parts) = refl

-- two states with the same words, history and looks are equal
one_config : (c d : Config) → c.words ≡ d.words → c.history ≡ d.history → ((a : ℕ) → c.looks a ≡ d.looks a) → c ≡ d
one_config c d words history looks = λ i. record { words = words i; history = history i; looks = λ a. looks a i }

idle_look : {S : Type 0} (found : Option (Actor S)) → ((x : Actor S) → found ≡ Some x → x ≡ idle) → look_in found ≡ descriptor_of []
idle_look None all = refl
idle_look (Some x) all = ap (λ y. y.look) (all x refl)

module _ {S B : Type 0} (o : Operations S) (within : S → ℕ → Type 0) (laws : BodyLaws o within) (count : ℕ) (some : 1 ≤ count) (parts_of : S → List ℕ) (whole_of : List ℕ → S) (are : AreParts count parts_of) (has : HasParts parts_of whole_of o) where
  -- a machine is in the state of a history
  abbrev Sound : ℕ → List Entry → MachineState B S → Type 0
  Sound seats h m = StandsAt o count parts_of m.limits seats (config_of m h) m.words m.actors

  abbrev at_state : (seats : ℕ) (h : List Entry) (m : MachineState B S) → Sound seats h m → IsReached o count parts_of m.limits m.words m.actors
  at_state seats h m r = record { config = config_of m h; seats = seats; stands = r }

  module _ (seats : ℕ) (h : List Entry) (m : MachineState B S) (r : Sound seats h m) where
    -- an event that leads to another machine, and adds some entries
    abbrev Moves : MachineState B S → List Entry → Event → Option Move → Outcome S → Type 0
    Moves next entries e made out = IsOneMove o count parts_of m.limits seats (config_of m h) (config_of next (entries ++ h)) m next e made out

    -- an event that changes nothing, and that isn't a step which ends a call
    quiet : (e : Event) (out : Outcome S) → ((a : ℕ) (answer : Said S) → e ≡ event.Step a → out ≡ outcome.Done answer → ⊥) → Moves m [] e None out
    quiet e out never = record { before = r; after = r; moves = tt; stays = refl; refused = λ refusal is. (refl, refl); told = λ a look t answer step there done. absurd (never a answer step done) }

    begins_moves : (a look : ℕ) (c : Call) (g : Result Goal Refusal) → slice_get m.actors a ≡ Some record { look = look; task = None } → goal_of c ≡ g → Moves (begins o count parts_of whole_of m a look g).0 [] (event.Call a c) None (begins o count parts_of whole_of m a look g).1
    begins_moves a look c (Ok g) there is =
        let begun = reached_call o within laws count some parts_of whole_of are has m.limits m.words m.actors (at_state seats h m r) a look g there (goal_is c g is) in
        let same : config_of (begins o count parts_of whole_of m a look (Ok g)).0 h ≡ config_of m h = one_config (config_of (begins o count parts_of whole_of m a look (Ok g)).0 h) (config_of m h) refl refl (look_kept m.actors a record { look = look; task = None } record { look = look; task = Some (task.Look g) } there refl) in
        record {
          before = r;
          after = subst (λ c. StandsAt o count parts_of m.limits seats c m.words (slice_set m.actors a record { look = look; task = Some (task.Look g) })) (sym same) begun.stands;
          moves = tt;
          stays = same;
          refused = λ refusal is. absurd (not_begun refusal is);
          told = λ b look t answer step there done. absurd (not_step a b c step);
        }
    begins_moves a look c (Err refusal) there is = quiet (event.Call a c) (outcome.Done (said.Refused refusal)) (λ b answer step done. not_step a b c step)

    called_of_moves : (a look : ℕ) (c : Call) (t : Option (Task S)) → slice_get m.actors a ≡ Some record { look = look; task = t } → Moves (called_of o count parts_of whole_of m a c look t).0 [] (event.Call a c) None (called_of o count parts_of whole_of m a c look t).1
    called_of_moves a look c None there = begins_moves a look c (goal_of c) there refl
    called_of_moves a look c (Some t) there = quiet (event.Call a c) (outcome.Refused NotNow) (λ b answer step done. not_step a b c step)

    called_moves : (a : ℕ) (c : Call) (actor : Option (Actor S)) → slice_get m.actors a ≡ actor → Moves (called o count parts_of whole_of m a c actor).0 [] (event.Call a c) None (called o count parts_of whole_of m a c actor).1
    called_moves a c None there = quiet (event.Call a c) (outcome.Refused NotNow) (λ b answer step done. not_step a b c step)
    called_moves a c (Some actor) there = called_of_moves a actor.look c actor.task there

    -- the state after a step is that of its move
    stepped_is : (a look : ℕ) (t : Task S) → slice_get m.actors a ≡ Some record { look = look; task = Some t } → config_of (stepped o count parts_of whole_of m a look t).0 (entries_added a look (slice_index m.words 0) t ++ h) ≡ moved (config_of m h) (move_of a t)
    stepped_is a look t there =
        let own : look_in (slice_get m.actors a) ≡ look = ap look_in there in
        one_config (config_of (stepped o count parts_of whole_of m a look t).0 (entries_added a look (slice_index m.words 0) t ++ h)) (moved (config_of m h) (move_of a t))
        (sym (alone_words (config_of m h) a t ∙ ap (λ l. (sees_next m.words l t).words) own))
        (ap (λ l. entries_added a l (slice_index m.words 0) t ++ h) (sym own) ∙ added (config_of m h) a t)
        (λ b. elim (cases_eq b a) [
          | inl is ↦
              subst (λ d. look_in (slice_get (slice_set m.actors a (actor_after o within laws count some parts_of whole_of are has m.limits m.words look t)) d) ≡ (moved (config_of m h) (move_of a t)).looks d) (sym is)
              (look_put m.actors a (actor_after o within laws count some parts_of whole_of are has m.limits m.words look t) (slice_get_within m.actors a _ there)
              ∙ sym (alone_look (config_of m h) a t ∙ ap (λ l. (sees_next m.words l t).looks 0) own))
          | inr apart ↦
              ap look_in (get_kept m.actors a b (actor_after o within laws count some parts_of whole_of are has m.limits m.words look t) apart)
              ∙ sym (other_look (config_of m h) a t b apart)
        ])

    stepped_moves : (a look : ℕ) (t : Task S) → slice_get m.actors a ≡ Some record { look = look; task = Some t } → Moves (stepped o count parts_of whole_of m a look t).0 (entries_added a look (slice_index m.words 0) t) (event.Step a) (Some (move_of a t)) (stepped o count parts_of whole_of m a look t).1
    stepped_moves a look t there =
        let same = stepped_is a look t there in
        let after = reached_next o within laws count some parts_of whole_of are has m.limits m.words m.actors (at_state seats h m r) a look t there in
        record {
          before = r;
          after = subst (λ d. StandsAt o count parts_of m.limits seats d (stepped o count parts_of whole_of m a look t).0.words (stepped o count parts_of whole_of m a look t).0.actors) (sym same) after.stands;
          moves = (take_may o within laws count some parts_of whole_of are has m.limits m.words m.actors (at_state seats h m r) a look t there, same);
          stays = tt;
          refused = λ refusal is. absurd (not_refused _ refusal is);
          told = λ b other u answer step also done.
              let one = same_step a b step in
              let also_there = subst (λ d. slice_get m.actors d ≡ Some record { look = other; task = Some u }) one also in
              let task_is = same_task look other t u (sym there ∙ also_there) in
              subst (λ d. WasTold o count parts_of m.limits (config_of m h) d b u answer) (sym same)
              (subst (λ d. WasTold o count parts_of m.limits (config_of m h) (moved (config_of m h) (move_of a t)) d u answer) (sym one)
              (subst (λ v. WasTold o count parts_of m.limits (config_of m h) (moved (config_of m h) (move_of a t)) a v answer) task_is
              (told_after o within laws count some parts_of whole_of are has m.limits m.words m.actors (at_state seats h m r) a look t there answer done)));
        }

    stepped_on_moves : (a look : ℕ) (t : Option (Task S)) → slice_get m.actors a ≡ Some record { look = look; task = t } → Moves (stepped_on o count parts_of whole_of m a look t).0 (entries_by a (slice_index m.words 0) look t) (event.Step a) (option_map (move_of a) t) (stepped_on o count parts_of whole_of m a look t).1
    stepped_on_moves a look None there = quiet (event.Step a) (outcome.Refused NotNow) (λ b answer step done. not_done answer done)
    stepped_on_moves a look (Some t) there = stepped_moves a look t there

    gone_on_moves : (a : ℕ) (actor : Option (Actor S)) → slice_get m.actors a ≡ actor → Moves (gone_on o count parts_of whole_of m a actor).0 (entries_by a (slice_index m.words 0) (look_in actor) (task_in actor)) (event.Step a) (option_map (move_of a) (task_in actor)) (gone_on o count parts_of whole_of m a actor).1
    gone_on_moves a None there = quiet (event.Step a) (outcome.Refused NotNow) (λ b answer step done. not_done answer done)
    gone_on_moves a (Some actor) there = stepped_on_moves a actor.look actor.task there

    -- each event is the move that belongs to it, or none
    one_move : (e : Event) → Moves (machine_step o count parts_of whole_of m e).0 (accepted_by m e) e (move_made m e) (machine_step o count parts_of whole_of m e).1
    unfolding machine_step
    one_move (event.Call a c) = called_moves a c (slice_get m.actors a) refl
    one_move (event.Step a) = gone_on_moves a (slice_get m.actors a) refl

  abbrev next_of : MachineState B S → Event → MachineState B S
  next_of m e = (machine_step o count parts_of whole_of m e).0

  abbrev run_of : MachineState B S → List Event → MachineState B S
  run_of m events = (machine_run o count parts_of whole_of m events).0

  abbrev entries_of : MachineState B S → List Event → List Entry
  entries_of m events = accepted_in o count parts_of whole_of m events

  -- the history of two lists of events, one after the other
  accepted-append : (m : MachineState B S) (events more : List Event) → entries_of m (events ++ more) ≡ entries_of (run_of m events) more ++ entries_of m events
  unfolding machine_run accepted_in
  accepted-append m [] more = sym (append-nil (entries_of m more))
  accepted-append m (e ∷ events) more =
      ap (λ entries. entries ++ accepted_by m e) (accepted-append (next_of m e) events more)
      ∙ append_assoc (entries_of (run_of (next_of m e) events) more) (entries_of (next_of m e) events) (accepted_by m e)

  -- the history of a list of events is an earlier state of that of each longer list
  pub histories_grow : HistoriesGrow B o count parts_of whole_of
  histories_grow m events more = record { later = entries_of (run_of m events) more; whole_is = accepted-append m events more }

  -- the state after one more event
  config-snoc : (m : MachineState B S) (events : List Event) (e : Event) → config_after o count parts_of whole_of m (events ++ e ∷ []) ≡ config_of (next_of (run_of m events) e) (accepted_by (run_of m events) e ++ entries_of m events)
  unfolding accepted_in
  config-snoc m events e =
      ap (λ n. config_of n (entries_of m (events ++ e ∷ []))) (ap (λ r. r.0) (run-snoc o count parts_of whole_of m events e))
      ∙ ap (config_of (next_of (run_of m events) e)) (accepted-append m events (e ∷ []))

  -- so each list of events leaves a machine in the state of its history
  run_sound : (seats : ℕ) (h : List Entry) (m : MachineState B S) (events : List Event) → Sound seats h m → Sound seats (entries_of m events ++ h) (run_of m events)
  unfolding machine_run accepted_in
  run_sound seats h m [] r = r
  run_sound seats h m (e ∷ events) r =
      let kept : (next_of m e).limits ≡ m.limits = ap (λ p. p.1) (step_keeps o count parts_of whole_of m e) in
      let after = subst (λ limits. StandsAt o count parts_of limits seats (config_of (next_of m e) (accepted_by m e ++ h)) (next_of m e).words (next_of m e).actors) (sym kept) (one_move seats h m r e).after in
      subst (λ entries. Sound seats entries (run_of (next_of m e) events)) (sym (append_assoc (entries_of (next_of m e) events) (accepted_by m e) h))
      (run_sound seats (accepted_by m e ++ h) (next_of m e) events after)

  start_is : (body : B) (limits : Bounds) (seats : ℕ) → config_of (first_state {B = B} {S = S} body limits seats) [] ≡ start (terms_of o count parts_of limits seats)
  start_is body limits seats = one_config (config_of (first_state {B = B} {S = S} body limits seats) []) (start (terms_of o count parts_of limits seats)) refl refl (λ a. idle_look (slice_get (replicate seats idle) a) (λ x is. replicate_same seats a idle x is))

  -- the machine after a list of events from the start is in the state of their history
  from_start : (body : B) (limits : Bounds) (seats : ℕ) (events : List Event) → AreTerms (terms_of o count parts_of limits seats) → Sound seats (entries_of (first_state body limits seats) events) (run_of (first_state body limits seats) events)
  from_start body limits seats events terms =
      let first : MachineState B S = first_state body limits seats in
      let begun : Sound seats [] (first_state body limits seats) = subst (λ c. StandsAt o count parts_of limits seats c first.words first.actors) (sym (start_is body limits seats)) (stands_start o within laws count some parts_of whole_of are has limits seats terms) in
      subst (λ entries. Sound seats entries (run_of (first_state body limits seats) events)) (append-nil (entries_of (first_state body limits seats) events)) (run_sound seats [] (first_state body limits seats) events begun)

  abbrev OneMove : (limits : Bounds) (seats : ℕ) (d : Config) (first : MachineState B S) (events : List Event) (e : Event) → Type 0
  OneMove limits seats d first events e =
      let m = run_of first events in
      IsOneMove o count parts_of limits seats (config_after o count parts_of whole_of first events) d m (next_of m e) e (move_made m e) (machine_step o count parts_of whole_of m e).1

  at_limits : (seats : ℕ) (first : MachineState B S) (events : List Event) (e : Event) (limits : Bounds) → (run_of first events).limits ≡ limits
      → OneMove (run_of first events).limits seats (config_of (next_of (run_of first events) e) (accepted_by (run_of first events) e ++ entries_of first events)) first events e
      → OneMove limits seats (config_after o count parts_of whole_of first (events ++ e ∷ [])) first events e
  at_limits seats first events e limits kept one =
      subst (λ d. OneMove limits seats d first events e) (sym (config-snoc first events e))
      (subst (λ l. OneMove l seats (config_of (next_of (run_of first events) e) (accepted_by (run_of first events) e ++ entries_of first events)) first events e) kept
      one)

  -- after any list of events from the start each further event is the move that belongs to it, or none, and returns what the history says
  pub every_event_moves : (body : B) → count ≤ 4 → EveryEventIsOneMove o count parts_of whole_of body
  every_event_moves body few limits actors events e allowed buckets seats =
      let sound = from_start body limits actors events (terms_are o count parts_of limits actors few are allowed buckets seats) in
      let kept : (run_of (first_state body limits actors) events).limits ≡ limits = ap (λ p. p.1) (run_keeps o count parts_of whole_of (first_state body limits actors) events) in
      let one = one_move actors (entries_of (first_state body limits actors) events) (run_of (first_state body limits actors) events) sound e in
      at_limits actors (first_state body limits actors) events e limits kept one
