-- Proof of `Highest::tell`: if there are elements, their fold is their summary.
use Rattle.std.proofs.Common.{ap, w64, ◌∙◌}
use Rattle.std.proofs.lemmas.Int.{to_z-of_z}
use Rattle.std.specs.Bool.{then_some}
use Rattle.lv_tree.specs.declared.kind_summaries.KindSummary.TheVariants.{Greatest}
use Rattle.lv_tree.proofs.ToldLaws.{greatest_told}
use Rattle.lv_tree.proofs.of_kind.HighestOfKind.tell.Goals as goal

pub returns : goal.returns
returns c body table xs fits elements some fold =
    ap Greatest (c.then_some.ensures ∙ ap (then_some c.args.some) (to_z-of_z w64 c.args.s c.ranges.s)) ∙ greatest_told table xs c.args.some c.args.s elements some fold
