-- Proof of `fold_near`: the fold of the elements of a whole block.
use Rattle.std.proofs.Common.{ap, refl, ◌∙◌}
use Rattle.lv_bodies.specs.Body.{fold_of}
use Rattle.lv_refresh.proofs.SweepLaws.{near_elements}
use Rattle.lv_refresh.proofs.computing.fold_near.Goals as goal

pub returns-in-Some : goal.returns-in-Some
returns-in-Some g c =
    c.fold_slice.ensures.fold
    ∙ ap (fold_of (g.B.Body.operations c.args.body.now))
    (c.in-Some.ensures.lookup.0.2 ∙ near_elements c.args.history.now.journal c.args.block c.args.near.now c.requires.level c.requires.near _ refl c.in-Some.ensures.lookup.0.1)
