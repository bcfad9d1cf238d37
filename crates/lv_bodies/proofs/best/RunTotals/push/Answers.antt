-- Proof of `RunTotals::push`: the run of neighbours and of one element after them.
use Rattle.std.proofs.Common.{arith, refl, ◌∙◌, w64}
use Rattle.std.proofs.lemmas.Int.{ints, to_z-of_z}
use Rattle.lv_bodies.proofs.RunSums.{pushed_by_code}
use Rattle.lv_bodies.proofs.best.RunTotals.push.Goals as goal

pub returns : goal.returns
returns c =
    pushed_by_code c.args.self c.args.x c.from-x.result c.requires (omega (arith, ints, c.ranges.x)) (c.from-x.ensures ∙ to_z-of_z w64 c.args.x c.ranges.x)
    c.max.result c.max-2.result c.max-3.result _ _ c.max.ensures.value refl refl c.max-2.ensures.value c.max-3.ensures.value
