-- Proof of `RunTotals::join`: the run of neighbours and of those after them.
use Rattle.lv_bodies.proofs.RunSums.{joined_by_code, sum_fits}
use Rattle.lv_bodies.proofs.best.RunTotals.join.Goals as goal

pub overflow_add-next : goal.overflow_add-next
overflow_add-next c = sum_fits c.args.next.total c.args.self.suffix c.requires.right.total c.requires.left.suffix

pub overflow_add-self-2 : goal.overflow_add-self-2
overflow_add-self-2 c = sum_fits c.args.self.suffix c.args.next.prefix c.requires.left.suffix c.requires.right.prefix

pub returns : goal.returns
returns c =
    joined_by_code c.args.self c.args.next c.requires.left c.requires.right c.max.result c.max-2.result c.max-3.result c.max-4.result
    c.max.ensures.value c.max-2.ensures.value c.max-3.ensures.value c.max-4.ensures.value
