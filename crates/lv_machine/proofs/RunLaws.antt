-- A run consists of its steps, one after another.
use Rattle.std.proofs.Common.{◌≡◌, ℕ, Option, Some, None, Result, Ok, Err, List, [], ◌∷◌, ◌++◌, slice_get, refl, sym, ap, ◌∙◌}
use Rattle.lv_geometry.specs.Bounds.{Bounds}
use Rattle.lv_bodies.specs.Body.{Operations}
use Rattle.lv_machine.specs.declared.events.Call.{Call}
use Rattle.lv_machine.specs.declared.events.Event.{Event}
use Rattle.lv_machine.specs.declared.events.Event.TheVariants as event
use Rattle.lv_machine.specs.declared.actors.Actor.{Actor}
use Rattle.lv_machine.specs.declared.outcomes.Outcome.{Outcome}
use Rattle.lv_machine.specs.declared.tasks.Goal.{Goal}
use Rattle.lv_machine.specs.declared.tasks.Task.{Task}
use Rattle.lv_machine.specs.Calls.{goal_of}
use Rattle.lv_machine.specs.Machine.{begins, called, called_of, gone_on, machine_run, machine_step, MachineState, stepped_on}
use Rattle.lv_geometry.specs.declared.refusals.Refusal.{Refusal}

-- what no event changes: the monoid instance and the limits
abbrev pub setting : {S B : Type 0} → MachineState B S → B × Bounds
setting m = (m.body, m.limits)

module _ {S B : Type 0} (o : Operations S) (count : ℕ) (parts_of : S → List ℕ) (whole_of : List ℕ → S) where
  begins_keeps : (m : MachineState B S) (a look : ℕ) (g : Result Goal Refusal) → setting ((begins o count parts_of whole_of m a look g).0) ≡ setting m
  begins_keeps m a look (Ok g) = refl
  begins_keeps m a look (Err refusal) = refl

  called_of_keeps : (m : MachineState B S) (a look : ℕ) (c : Call) (t : Option (Task S)) → setting ((called_of o count parts_of whole_of m a c look t).0) ≡ setting m
  called_of_keeps m a look c None = begins_keeps m a look (goal_of c)
  called_of_keeps m a look c (Some t) = refl

  called_keeps : (m : MachineState B S) (a : ℕ) (c : Call) (actor : Option (Actor S)) → setting ((called o count parts_of whole_of m a c actor).0) ≡ setting m
  called_keeps m a c None = refl
  called_keeps m a c (Some actor) = called_of_keeps m a actor.look c actor.task

  stepped_on_keeps : (m : MachineState B S) (a look : ℕ) (t : Option (Task S)) → setting ((stepped_on o count parts_of whole_of m a look t).0) ≡ setting m
  stepped_on_keeps m a look None = refl
  stepped_on_keeps m a look (Some t) = refl

  gone_on_keeps : (m : MachineState B S) (a : ℕ) (actor : Option (Actor S)) → setting ((gone_on o count parts_of whole_of m a actor).0) ≡ setting m
  gone_on_keeps m a None = refl
  gone_on_keeps m a (Some actor) = stepped_on_keeps m a actor.look actor.task

  -- no event changes them
  pub step_keeps : (m : MachineState B S) (e : Event) → setting ((machine_step o count parts_of whole_of m e).0) ≡ setting m
  unfolding machine_step
  step_keeps m (event.Call a c) = called_keeps m a c (slice_get m.actors a)
  step_keeps m (event.Step a) = gone_on_keeps m a (slice_get m.actors a)

  pub run_keeps : (m : MachineState B S) (events : List Event) → setting ((machine_run o count parts_of whole_of m events).0) ≡ setting m
  unfolding machine_run
  run_keeps m [] = refl
  run_keeps m (e ∷ events) = run_keeps (machine_step o count parts_of whole_of m e).0 events ∙ step_keeps m e

  pub run-nil : (m : MachineState B S) → machine_run o count parts_of whole_of m [] ≡ (m, [])
  unfolding machine_run
  run-nil m = refl

  -- one more event
  pub run-snoc : (m : MachineState B S) (events : List Event) (e : Event) → machine_run o count parts_of whole_of m (events ++ e ∷ []) ≡ ((machine_step o count parts_of whole_of (machine_run o count parts_of whole_of m events).0 e).0, (machine_run o count parts_of whole_of m events).1 ++ (machine_step o count parts_of whole_of (machine_run o count parts_of whole_of m events).0 e).1 ∷ [])
  unfolding machine_run
  run-snoc m [] e = refl
  run-snoc m (x ∷ events) e = ap (λ r. (r.0, (machine_step o count parts_of whole_of m x).1 ∷ r.1)) (run-snoc (machine_step o count parts_of whole_of m x).0 events e)

module _ {S B : Type 0} (op : B → Operations S) (count : ℕ) (parts_of : S → List ℕ) (whole_of : List ℕ → S) (m now : MachineState B S) (events more : List Event) (e : Event) (longer : more ≡ events ++ e ∷ []) (state : now ≡ (machine_run (op m.body) count parts_of whole_of m events).0) where
  body_kept : now.body ≡ m.body
  body_kept = ap (λ n. n.body) state ∙ ap (λ p. p.0) (run_keeps (op m.body) count parts_of whole_of m events)

  -- a run with one more event
  pub run_more : (new : MachineState B S) → new ≡ (machine_step (op now.body) count parts_of whole_of now e).0 → new ≡ (machine_run (op m.body) count parts_of whole_of m more).0
  run_more new is =
      is ∙ ap (λ b. (machine_step (op b) count parts_of whole_of now e).0) body_kept
      ∙ ap (λ n. (machine_step (op m.body) count parts_of whole_of n e).0) state
      ∙ ap (λ r. r.0) (sym (run-snoc (op m.body) count parts_of whole_of m events e))
      ∙ ap (λ es. (machine_run (op m.body) count parts_of whole_of m es).0) (sym longer)

  pub run_says_more : (said next : List (Outcome S)) (answer : Outcome S) → said ≡ (machine_run (op m.body) count parts_of whole_of m events).1 → answer ≡ (machine_step (op now.body) count parts_of whole_of now e).1 → next ≡ said ++ answer ∷ [] → next ≡ (machine_run (op m.body) count parts_of whole_of m more).1
  run_says_more said next answer before is grows =
      grows ∙ ap (λ xs. xs ++ answer ∷ []) before
      ∙ ap (λ x. (machine_run (op m.body) count parts_of whole_of m events).1 ++ x ∷ [])
      (is ∙ ap (λ b. (machine_step (op b) count parts_of whole_of now e).1) body_kept ∙ ap (λ n. (machine_step (op m.body) count parts_of whole_of n e).1) state)
      ∙ ap (λ r. r.1) (sym (run-snoc (op m.body) count parts_of whole_of m events e))
      ∙ ap (λ es. (machine_run (op m.body) count parts_of whole_of m es).1) (sym longer)
