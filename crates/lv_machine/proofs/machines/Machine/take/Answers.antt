-- Proof of `Machine::take`: does the next step of a call of an actor.
use Rattle.std.proofs.Common.{◌≡◌, ℕ, List, ap, ◌∙◌, slice_index, slice_set, take, drop, ◌++◌, length}
use Rattle.std.proofs.lemmas.Option.{slice_get_within}
use Rattle.std.specs.Prelude.{slice_get}
use Rattle.lv_bodies.specs.Parts.{HasParts}
use Rattle.lv_machine.specs.Calls.{advanced, outcome_of, place_of, sees_next, task_after}
use Rattle.lv_machine.specs.Machine.{MachineState, stepped}
use Rattle.lv_machine.specs.declared.actors.Actor.{Actor}
use Rattle.lv_machine.proofs.ListLaws.{lent_back}
use Rattle.lv_machine.proofs.MachineLaws.{actor_after, reached_next, take_advances, take_moves}
use Rattle.lv_machine.proofs.machines.Machine.take.Goals as goal

pub take_step-found-requires : goal.take_step-found-requires
take_step-found-requires g c =
    let there = ap (λ m. slice_get m.actors c.args.actor) c.self.view_is ∙ c.requires in
    let has : HasParts g.B.Parted.parts_of g.B.Parted.whole_of (g.B.Body.operations c.self.inside.body) = (g.met.B.Parted g.world.𝓛 g.world.𝓜 g.world.𝓡 ((λ s x. x), (λ p. p), (λ n s. n s), (λ p. p))).has_parts c.self.inside.body in
    rw c.deref_mut.ensures.value (take_moves (g.B.Body.operations c.self.inside.body) (g.B.Body.is_within c.self.inside.body) (g.B.Body.laws c.self.inside.body) g.B.Parted.PARTS g.B.Parted.some.0 g.B.Parted.parts_of g.B.Parted.whole_of g.B.Parted.are_parts has c.self.inside.limits c.self.inside.words.items c.self.inside.actors.items c.self.invariant c.args.actor c.args.before c.args.task there)

pub advance-next-requires-after_bounds : goal.advance-next-requires-after_bounds
advance-next-requires-after_bounds g c = λ _ _.
    let there = ap (λ m. slice_get m.actors c.args.actor) c.self.view_is ∙ c.requires in
    let has : HasParts g.B.Parted.parts_of g.B.Parted.whole_of (g.B.Body.operations c.self.inside.body) = (g.met.B.Parted g.world.𝓛 g.world.𝓜 g.world.𝓡 ((λ s x. x), (λ p. p), (λ n s. n s), (λ p. p))).has_parts c.self.inside.body in
    rw (c.take_step-found.ensures.found, c.deref_mut.ensures.value) (take_advances (g.B.Body.operations c.self.inside.body) (g.B.Body.is_within c.self.inside.body) (g.B.Body.laws c.self.inside.body) g.B.Parted.PARTS g.B.Parted.some.0 g.B.Parted.parts_of g.B.Parted.whole_of g.B.Parted.are_parts has c.self.inside.limits c.self.inside.words.items c.self.inside.actors.items c.self.invariant c.args.actor c.args.before c.args.task there)

pub set_actor-requires : goal.set_actor-requires
set_actor-requires g c =
    let there = ap (λ m. slice_get m.actors c.args.actor) c.self.view_is ∙ c.requires in
    rw c.deref_mut-2.ensures.value (slice_get_within c.self.inside.actors.items c.args.actor _ there)

pub invariant_of-self : goal.invariant_of-self
invariant_of-self g c =
    let there = ap (λ m. slice_get m.actors c.args.actor) c.self.view_is ∙ c.requires in
    let has : HasParts g.B.Parted.parts_of g.B.Parted.whole_of (g.B.Body.operations c.self.inside.body) = (g.met.B.Parted g.world.𝓛 g.world.𝓜 g.world.𝓡 ((λ s x. x), (λ p. p), (λ n s. n s), (λ p. p))).has_parts c.self.inside.body in
    let words : take c.self.inside.words.len (c.take_step-found.new.words ++ drop (length c.take_step-found.new.words) c.self.inside.words.items) ≡ (sees_next c.self.inside.words.items c.args.before c.args.task).words =
    lent_back c.take_step-found.new.words c.self.inside.words.items c.self.inside.words.len (c.take_step-found.auto.words ∙ c.deref_mut.ensures.len)
    ∙ c.take_step-found.ensures.words ∙ ap (λ ws. (sees_next ws c.args.before c.args.task).words) c.deref_mut.ensures.value in
    let look : c.take_step-found.new.look ≡ (sees_next c.self.inside.words.items c.args.before c.args.task).looks 0 =
    c.take_step-found.ensures.look ∙ ap (λ ws. (sees_next ws c.args.before c.args.task).looks 0) c.deref_mut.ensures.value in
    let next : c.advance-next.result ≡ advanced (g.B.Body.operations c.self.inside.body) g.B.Parted.PARTS g.B.Parted.parts_of g.B.Parted.whole_of c.self.inside.limits c.args.before c.args.task (slice_index c.self.inside.words.items (place_of c.args.before c.args.task)) =
    c.advance-next.ensures ∙ ap (advanced (g.B.Body.operations c.self.inside.body) g.B.Parted.PARTS g.B.Parted.parts_of g.B.Parted.whole_of c.self.inside.limits c.args.before c.args.task) (c.take_step-found.ensures.found ∙ ap (λ ws. slice_index ws (place_of c.args.before c.args.task)) c.deref_mut.ensures.value) in
    let actors : take c.self.inside.actors.len (c.set_actor.new.actors ++ drop (length c.set_actor.new.actors) c.self.inside.actors.items) ≡ slice_set c.self.inside.actors.items c.args.actor (actor_after (g.B.Body.operations c.self.inside.body) (g.B.Body.is_within c.self.inside.body) (g.B.Body.laws c.self.inside.body) g.B.Parted.PARTS g.B.Parted.some.0 g.B.Parted.parts_of g.B.Parted.whole_of g.B.Parted.are_parts has c.self.inside.limits c.self.inside.words.items c.args.before c.args.task) =
    lent_back c.set_actor.new.actors c.self.inside.actors.items c.self.inside.actors.len (c.set_actor.auto.actors ∙ c.deref_mut-2.ensures.len)
    ∙ c.set_actor.ensures ∙ ap (λ xs. slice_set xs c.args.actor record { look = c.take_step-found.new.look; task = c.task_left-left.result }) c.deref_mut-2.ensures.value
    ∙ ap (λ l. slice_set c.self.inside.actors.items c.args.actor record { look = l; task = c.task_left-left.result }) look
    ∙ ap (λ t. slice_set c.self.inside.actors.items c.args.actor record { look = (sees_next c.self.inside.words.items c.args.before c.args.task).looks 0; task = t }) (c.task_left-left.ensures ∙ ap task_after next) in
    let r = reached_next (g.B.Body.operations c.self.inside.body) (g.B.Body.is_within c.self.inside.body) (g.B.Body.laws c.self.inside.body) g.B.Parted.PARTS g.B.Parted.some.0 g.B.Parted.parts_of g.B.Parted.whole_of g.B.Parted.are_parts has c.self.inside.limits c.self.inside.words.items c.self.inside.actors.items c.self.invariant c.args.actor c.args.before c.args.task there in
    rw (words, actors) r

pub returns-clause-state : goal.returns-clause-state
returns-clause-state g c =
    let has : HasParts g.B.Parted.parts_of g.B.Parted.whole_of (g.B.Body.operations c.self.inside.body) = (g.met.B.Parted g.world.𝓛 g.world.𝓜 g.world.𝓡 ((λ s x. x), (λ p. p), (λ n s. n s), (λ p. p))).has_parts c.self.inside.body in
    let words : take c.self.inside.words.len (c.take_step-found.new.words ++ drop (length c.take_step-found.new.words) c.self.inside.words.items) ≡ (sees_next c.self.inside.words.items c.args.before c.args.task).words =
    lent_back c.take_step-found.new.words c.self.inside.words.items c.self.inside.words.len (c.take_step-found.auto.words ∙ c.deref_mut.ensures.len)
    ∙ c.take_step-found.ensures.words ∙ ap (λ ws. (sees_next ws c.args.before c.args.task).words) c.deref_mut.ensures.value in
    let look : c.take_step-found.new.look ≡ (sees_next c.self.inside.words.items c.args.before c.args.task).looks 0 =
    c.take_step-found.ensures.look ∙ ap (λ ws. (sees_next ws c.args.before c.args.task).looks 0) c.deref_mut.ensures.value in
    let next : c.advance-next.result ≡ advanced (g.B.Body.operations c.self.inside.body) g.B.Parted.PARTS g.B.Parted.parts_of g.B.Parted.whole_of c.self.inside.limits c.args.before c.args.task (slice_index c.self.inside.words.items (place_of c.args.before c.args.task)) =
    c.advance-next.ensures ∙ ap (advanced (g.B.Body.operations c.self.inside.body) g.B.Parted.PARTS g.B.Parted.parts_of g.B.Parted.whole_of c.self.inside.limits c.args.before c.args.task) (c.take_step-found.ensures.found ∙ ap (λ ws. slice_index ws (place_of c.args.before c.args.task)) c.deref_mut.ensures.value) in
    let actors : take c.self.inside.actors.len (c.set_actor.new.actors ++ drop (length c.set_actor.new.actors) c.self.inside.actors.items) ≡ slice_set c.self.inside.actors.items c.args.actor (actor_after (g.B.Body.operations c.self.inside.body) (g.B.Body.is_within c.self.inside.body) (g.B.Body.laws c.self.inside.body) g.B.Parted.PARTS g.B.Parted.some.0 g.B.Parted.parts_of g.B.Parted.whole_of g.B.Parted.are_parts has c.self.inside.limits c.self.inside.words.items c.args.before c.args.task) =
    lent_back c.set_actor.new.actors c.self.inside.actors.items c.self.inside.actors.len (c.set_actor.auto.actors ∙ c.deref_mut-2.ensures.len)
    ∙ c.set_actor.ensures ∙ ap (λ xs. slice_set xs c.args.actor record { look = c.take_step-found.new.look; task = c.task_left-left.result }) c.deref_mut-2.ensures.value
    ∙ ap (λ l. slice_set c.self.inside.actors.items c.args.actor record { look = l; task = c.task_left-left.result }) look
    ∙ ap (λ t. slice_set c.self.inside.actors.items c.args.actor record { look = (sees_next c.self.inside.words.items c.args.before c.args.task).looks 0; task = t }) (c.task_left-left.ensures ∙ ap task_after next) in
    let made : List ℕ → List (Actor g.row.B-S.Denot) → MachineState g.row.B.Denot g.row.B-S.Denot = λ ws xs. record { body = c.self.inside.body; limits = c.self.inside.limits; words = ws; actors = xs } in
    ap (λ ws. made ws (take c.self.inside.actors.len (c.set_actor.new.actors ++ drop (length c.set_actor.new.actors) c.self.inside.actors.items))) words ∙ ap (made (sees_next c.self.inside.words.items c.args.before c.args.task).words) actors
    ∙ ap (λ m. (stepped (g.B.Body.operations m.body) g.B.Parted.PARTS g.B.Parted.parts_of g.B.Parted.whole_of m c.args.actor c.args.before c.args.task).0) c.self.view_is

pub returns-clause-outcome : goal.returns-clause-outcome
returns-clause-outcome g c =
    let words : take c.self.inside.words.len (c.take_step-found.new.words ++ drop (length c.take_step-found.new.words) c.self.inside.words.items) ≡ (sees_next c.self.inside.words.items c.args.before c.args.task).words =
    lent_back c.take_step-found.new.words c.self.inside.words.items c.self.inside.words.len (c.take_step-found.auto.words ∙ c.deref_mut.ensures.len)
    ∙ c.take_step-found.ensures.words ∙ ap (λ ws. (sees_next ws c.args.before c.args.task).words) c.deref_mut.ensures.value in
    let look : c.take_step-found.new.look ≡ (sees_next c.self.inside.words.items c.args.before c.args.task).looks 0 =
    c.take_step-found.ensures.look ∙ ap (λ ws. (sees_next ws c.args.before c.args.task).looks 0) c.deref_mut.ensures.value in
    let next : c.advance-next.result ≡ advanced (g.B.Body.operations c.self.inside.body) g.B.Parted.PARTS g.B.Parted.parts_of g.B.Parted.whole_of c.self.inside.limits c.args.before c.args.task (slice_index c.self.inside.words.items (place_of c.args.before c.args.task)) =
    c.advance-next.ensures ∙ ap (advanced (g.B.Body.operations c.self.inside.body) g.B.Parted.PARTS g.B.Parted.parts_of g.B.Parted.whole_of c.self.inside.limits c.args.before c.args.task) (c.take_step-found.ensures.found ∙ ap (λ ws. slice_index ws (place_of c.args.before c.args.task)) c.deref_mut.ensures.value) in
    c.outcome.ensures ∙ ap outcome_of next
    ∙ ap (λ m. (stepped (g.B.Body.operations m.body) g.B.Parted.PARTS g.B.Parted.parts_of g.B.Parted.whole_of m c.args.actor c.args.before c.args.task).1) c.self.view_is
