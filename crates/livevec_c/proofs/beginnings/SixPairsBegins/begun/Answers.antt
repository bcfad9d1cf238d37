-- Proof of `SixPairsBegins::begun`.
use Rattle.std.proofs.Common.{sym, ◌∙◌}
use Rattle.lv_bodies.specs.Automata.{table_of}
use Rattle.lv_bodies.specs.Body.{fold_of}
use Rattle.lv_bodies.specs.Six.{six_operations_by}
use Rattle.lv_series.specs.Series.{slice_of}
use Rattle.lv_tree.specs.OfSixLaws.{affine-part, automaton-part, best-part, greatest-part, least-part, sum-part}
use Rattle.livevec_c.proofs.SeriesLaws.{same_six}
use Rattle.livevec_c.proofs.beginnings.SixPairsBegins.begun.Goals as goal

pub returns : goal.returns
returns c =
    let xs = slice_of c.args.series.now.held c.args.lo c.args.hi in
    let table = table_of c.args.self.now.second.second.second.second.second in
    same_six (fold_of (six_operations_by table) xs) c.begun-5.result c.begun-6.result c.begun-3.result c.begun-4.result c.begun.result c.begun-2.result (c.begun-5.ensures ∙ sym (sum-part table xs)) (c.begun-6.ensures ∙ sym (least-part table xs))
    (c.begun-3.ensures ∙ sym (greatest-part table xs)) (c.begun-4.ensures ∙ sym (best-part table xs)) (c.begun.ensures ∙ sym (affine-part table xs)) (c.begun-2.ensures ∙ sym (automaton-part table xs))
