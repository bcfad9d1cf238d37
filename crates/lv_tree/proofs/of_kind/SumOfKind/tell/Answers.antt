-- Proof of `Sum::tell`: the fold of some elements is their summary.
use Rattle.lv_tree.proofs.ToldLaws.{sum_told}
use Rattle.lv_tree.proofs.of_kind.SumOfKind.tell.Goals as goal

pub returns : goal.returns
returns c body table xs fits elements some fold = sum_told table xs c.args.s fold
