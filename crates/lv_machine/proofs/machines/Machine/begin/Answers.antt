-- Proof of `Machine::begin`: starts a call of an actor, or returns why it ends before its first step.
use Rattle.std.proofs.Common.{◌≡◌, ap, ◌∙◌, subst, IfOk, slice_get, slice_set, take, drop, ◌++◌, length, Some}
use Rattle.std.proofs.lemmas.Option.{slice_get_within}
use Rattle.lv_bodies.specs.Parts.{HasParts}
use Rattle.lv_machine.specs.declared.tasks.Task.TheVariants as task
use Rattle.lv_machine.specs.Progress.{IsGoal}
use Rattle.lv_machine.proofs.ListLaws.{lent_back}
use Rattle.lv_machine.proofs.MachineLaws.{reached_call}
use Rattle.lv_machine.proofs.machines.Machine.begin.Goals as goal

pub set_actor-requires : goal.set_actor-requires
set_actor-requires g c =
    let there = ap (λ m. slice_get m.actors c.args.actor) c.self.view_is ∙ c.requires.idle in
    rw c.deref_mut.ensures.value (slice_get_within c.self.inside.actors.items c.args.actor _ there)

pub invariant_of-self : goal.invariant_of-self
invariant_of-self g c =
    let there = ap (λ m. slice_get m.actors c.args.actor) c.self.view_is ∙ c.requires.idle in
    let has : HasParts g.B.Parted.parts_of g.B.Parted.whole_of (g.B.Body.operations c.self.inside.body) = (g.met.B.Parted g.world.𝓛 g.world.𝓜 g.world.𝓡 ((λ s x. x), (λ p. p), (λ n s. n s), (λ p. p))).has_parts c.self.inside.body in
    let may : IsGoal c.in-Ok.goal = subst (λ r. IfOk r IsGoal) c.in-Ok.is c.requires.goal in
    let actors : take c.self.inside.actors.len (c.set_actor.new.actors ++ drop (length c.set_actor.new.actors) c.self.inside.actors.items) ≡ slice_set c.self.inside.actors.items c.args.actor record { look = c.args.look; task = Some (task.Look c.in-Ok.goal) } =
    lent_back c.set_actor.new.actors c.self.inside.actors.items c.self.inside.actors.len (c.set_actor.auto.actors ∙ c.deref_mut.ensures.len)
    ∙ c.set_actor.ensures ∙ ap (λ xs. slice_set xs c.args.actor record { look = c.args.look; task = Some (task.Look c.in-Ok.goal) }) c.deref_mut.ensures.value in
    rw actors (reached_call (g.B.Body.operations c.self.inside.body) (g.B.Body.is_within c.self.inside.body) (g.B.Body.laws c.self.inside.body) g.B.Parted.PARTS g.B.Parted.some.0 g.B.Parted.parts_of g.B.Parted.whole_of g.B.Parted.are_parts has c.self.inside.limits c.self.inside.words.items c.self.inside.actors.items c.self.invariant c.args.actor c.args.look c.in-Ok.goal there may)
