-- Proof of `Lowest::tell`: if there are elements, their fold is their summary.
use Rattle.std.proofs.Common.{ap, w64, ◌∙◌}
use Rattle.std.proofs.lemmas.Int.{to_z-of_z}
use Rattle.std.specs.Bool.{then_some}
use Rattle.lv_tree.specs.declared.kind_summaries.KindSummary.TheVariants.{Least}
use Rattle.lv_tree.proofs.ToldLaws.{least_told}
use Rattle.lv_tree.proofs.of_kind.LowestOfKind.tell.Goals as goal

pub returns : goal.returns
returns c body table xs fits elements some fold =
    ap Least (c.then_some.ensures ∙ ap (then_some c.args.some) (to_z-of_z w64 c.args.s c.ranges.s)) ∙ least_told table xs c.args.some c.args.s elements some fold
