-- Proof of `Affine::tell`: the fold of some elements is their summary.
use Rattle.lv_tree.proofs.ToldLaws.{affine_told}
use Rattle.lv_tree.proofs.of_kind.AffineOfKind.tell.Goals as goal

pub returns : goal.returns
returns c body table xs fits elements some fold = affine_told table xs c.args.s fold
