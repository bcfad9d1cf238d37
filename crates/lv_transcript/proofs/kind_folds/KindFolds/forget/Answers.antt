-- Proof of `KindFolds::forget`: forgets the folds of the block that has an index. The others remain right for each list that differs only there.
use Rattle.lv_bodies.specs.AffineMaps.{affine_operations}
use Rattle.lv_bodies.specs.Extremes.{greatest_operations, least_operations}
use Rattle.lv_bodies.specs.Plain.{program_table}
use Rattle.lv_bodies.specs.RunTotals.{best_operations}
use Rattle.lv_bodies.specs.Sums.{sum_operations}
use Rattle.lv_bodies.specs.Tables.{automaton_operations}
use Rattle.lv_transcript.proofs.BlockLaws.{folds-set}
use Rattle.lv_transcript.proofs.kind_folds.KindFolds.forget.Goals as goal

pub returns : goal.returns
returns c xs x kept = record {
  sum = rw c.forget.ensures (folds-set sum_operations xs _ kept.sum c.args.index x);
  least = rw c.forget-2.ensures (folds-set least_operations xs _ kept.least c.args.index x);
  greatest = rw c.forget-3.ensures (folds-set greatest_operations xs _ kept.greatest c.args.index x);
  best = rw c.forget-4.ensures (folds-set best_operations xs _ kept.best c.args.index x);
  affine = rw c.forget-5.ensures (folds-set affine_operations xs _ kept.affine c.args.index x);
  automaton = rw c.forget-6.ensures (folds-set (automaton_operations program_table) xs _ kept.automaton c.args.index x);
}
