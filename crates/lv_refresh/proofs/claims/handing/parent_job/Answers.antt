-- Proof of `parent_job`: the job of a node above level 1; none if one of its children is not fresh.
use Rattle.std.proofs.Common.{[], refl}
use Rattle.lv_refresh.specs.declared.contents.Contents.TheVariants.{Children}
use Rattle.lv_refresh.proofs.NextLaws.{can_fold_gathered}
use Rattle.lv_refresh.proofs.claims.handing.parent_job.Goals as goal

pub new-requires-clause-contents : goal.new-requires-clause-contents
new-requires-clause-contents g c κs within =
    can_fold_gathered _ c.args.history.now.journal c.args.table.now c.requires.agrees record { levels = [] } _ (g.B.Body.laws c.args.body) c.args.history.now refl c.size-size.ensures.limits c.args.node (Children c.in_ok-summaries.summaries)
    c.requires.whole (c.requires.above, c.in_ok-summaries.ensures.some)

pub children_of-requires : goal.children_of-requires
children_of-requires g c = record { whole = c.requires.whole; above = c.requires.above }

pub returns-in_err-summaries : goal.returns-in_err-summaries
returns-in_err-summaries g c = rw c.from_residual.ensures record { job = tt; none = c.in_err-summaries.ensures.none }

pub returns : goal.returns
returns g c =
    rw c.new.ensures record {
      job = record { node_is = refl; version_is = refl; contents = (c.requires.above, c.in_ok-summaries.ensures.some); body_is = refl };
      none = tt;
    }
