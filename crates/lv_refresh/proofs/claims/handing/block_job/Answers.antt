-- Proof of `block_job`: the job of a block.
use Rattle.std.proofs.Common.{[], refl}
use Rattle.lv_refresh.specs.declared.contents.Contents.TheVariants.{Elements}
use Rattle.lv_refresh.proofs.NextLaws.{can_fold_gathered}
use Rattle.lv_refresh.proofs.claims.handing.block_job.Goals as goal

pub new-requires-clause-contents : goal.new-requires-clause-contents
new-requires-clause-contents g c κs within =
    can_fold_gathered _ c.args.history.now.journal c.args.table.now c.requires.agrees record { levels = [] } _ (g.B.Body.laws c.args.body) c.args.history.now refl c.size-size.ensures.limits c.args.node (Elements c.block-elements.result)
    c.requires.whole (c.requires.level, rw c.requires.level c.block-elements.ensures.value)
