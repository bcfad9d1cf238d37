-- Proof of `Runs::tell`: if there are elements, their fold is their summary.
use Rattle.std.proofs.Common.{ap, ◌∙◌}
use Rattle.lv_tree.specs.declared.kind_summaries.KindSummary.TheVariants.{Best}
use Rattle.lv_tree.proofs.ToldLaws.{best_told}
use Rattle.lv_tree.proofs.of_kind.RunsOfKind.tell.Goals as goal

pub returns : goal.returns
returns c body table xs fits elements some fold = ap Best c.then_some.ensures ∙ best_told table xs c.args.some c.args.s elements some fold
