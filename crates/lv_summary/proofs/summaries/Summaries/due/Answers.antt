-- Proof of `Summaries::due`: the number of the edit that touched a node last, if the node is whole and not fresh; else none.
use Rattle.lv_summary.specs.Inner.{table_of}
use Rattle.lv_summary.proofs.ChildLaws.{due_none, due_some}
use Rattle.lv_summary.proofs.summaries.Summaries.due.Goals as goal

pub returns-in-Some-clause-some : goal.returns-in-Some-clause-some
returns-in-Some-clause-some g c =
    rw (← c.self.view_is) (due_some (table_of c.self.inside.size c.self.inside.levels) c.args.node c.in-Some.level.now.rows c.in-Some.ensures.some c.due.result c.due.ensures.some)

pub returns-in-Some-clause-none : goal.returns-in-Some-clause-none
returns-in-Some-clause-none g c =
    rw (← c.self.view_is) (due_none (table_of c.self.inside.size c.self.inside.levels) c.args.node c.in-Some.level.now.rows c.in-Some.ensures.some c.due.result c.due.ensures.none)
