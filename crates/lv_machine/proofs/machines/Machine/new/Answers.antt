-- Proof of `Machine::new`: an empty vector, and this many idle actors.
use Rattle.std.proofs.Common.{◌≡◌, ◌*◌, [], ◌∷◌, replicate, refl, ap, ◌∙◌, arith}
use Rattle.lv_bodies.specs.Parts.{HasParts}
use Rattle.lv_machine.specs.History.{descriptor_of}
use Rattle.lv_machine.specs.Terms.{blocks_of}
use Rattle.lv_machine.proofs.MachineLaws.{reached_start, terms_are}
use Rattle.lv_machine.proofs.machines.Machine.new.Goals as goal

pub invariant_of-result : goal.invariant_of-result
invariant_of-result g c =
    let has : HasParts g.B.Parted.parts_of g.B.Parted.whole_of (g.B.Body.operations c.args.body) = (g.met.B.Parted g.world.𝓛 g.world.𝓜 g.world.𝓡 ((λ s x. x), (λ p. p), (λ n s. n s), (λ p. p))).has_parts c.args.body in
    let terms = terms_are (g.B.Body.operations c.args.body) g.B.Parted.PARTS g.B.Parted.parts_of c.args.limits c.args.actors g.B.Parted.some.1 g.B.Parted.are_parts c.buckets.ensures.allowed (omega (arith, c.buckets.ensures.value)) (omega arith) in
    let count : 2 * c.capacity.result ≡ 16 * blocks_of c.args.limits = omega (arith, c.capacity.ensures.value) in
    let words = c.in-Ok.ensures ∙ ap (λ n. descriptor_of [] ∷ replicate n 0) count in
    rw (words, c.in-Ok-idle_actors.ensures) (reached_start (g.B.Body.operations c.args.body) (g.B.Body.is_within c.args.body) (g.B.Body.laws c.args.body) g.B.Parted.PARTS g.B.Parted.some.0 g.B.Parted.parts_of g.B.Parted.whole_of g.B.Parted.are_parts has c.args.limits c.args.actors terms)

pub returns-clause-ok : goal.returns-clause-ok
returns-clause-ok g c =
    let count : 2 * c.capacity.result ≡ 16 * blocks_of c.args.limits = omega (arith, c.capacity.ensures.value) in
    let words = c.in-Ok.ensures ∙ ap (λ n. descriptor_of [] ∷ replicate n 0) count in
    rw (words, c.in-Ok-idle_actors.ensures) refl
