-- Proof of `KindFolds::cut`: forgets the folds of the blocks that end after so many elements: what is left are those of the list that is cut there.
use Rattle.lv_bodies.specs.AffineMaps.{affine_operations}
use Rattle.lv_bodies.specs.Extremes.{greatest_operations, least_operations}
use Rattle.lv_bodies.specs.Plain.{program_table}
use Rattle.lv_bodies.specs.RunTotals.{best_operations}
use Rattle.lv_bodies.specs.Sums.{sum_operations}
use Rattle.lv_bodies.specs.Tables.{automaton_operations}
use Rattle.lv_transcript.proofs.BlockLaws.{folds-cut}
use Rattle.lv_transcript.proofs.kind_folds.KindFolds.cut.Goals as goal

pub returns : goal.returns
returns c xs kept = record {
  sum = rw c.cut.ensures (folds-cut sum_operations xs _ kept.sum c.args.count);
  least = rw c.cut-2.ensures (folds-cut least_operations xs _ kept.least c.args.count);
  greatest = rw c.cut-3.ensures (folds-cut greatest_operations xs _ kept.greatest c.args.count);
  best = rw c.cut-4.ensures (folds-cut best_operations xs _ kept.best c.args.count);
  affine = rw c.cut-5.ensures (folds-cut affine_operations xs _ kept.affine c.args.count);
  automaton = rw c.cut-6.ensures (folds-cut (automaton_operations program_table) xs _ kept.automaton c.args.count);
}
