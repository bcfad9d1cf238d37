-- Folds that are kept by each kind, if one more element is put at the end of the list.
use Rattle.std.proofs.Common.{ℤ, List, [], ◌∷◌, ◌++◌}
use Rattle.lv_bodies.specs.AffineMaps.{affine_operations}
use Rattle.lv_bodies.specs.Extremes.{greatest_operations, least_operations}
use Rattle.lv_bodies.specs.Plain.{program_table}
use Rattle.lv_bodies.specs.RunTotals.{best_operations}
use Rattle.lv_bodies.specs.Sums.{sum_operations}
use Rattle.lv_bodies.specs.Tables.{automaton_operations}
use Rattle.lv_transcript.specs.declared.kind_folds.KindFolds.{KindFolds}
use Rattle.lv_transcript.specs.Blocks.{AreKept}
use Rattle.lv_transcript.proofs.BlockLaws.{folds-push}

pub kept-push : (folds : KindFolds) (xs : List ℤ) (x : ℤ) → AreKept folds xs → AreKept folds (xs ++ x ∷ [])
kept-push folds xs x kept = record {
  sum = folds-push sum_operations xs _ kept.sum x;
  least = folds-push least_operations xs _ kept.least x;
  greatest = folds-push greatest_operations xs _ kept.greatest x;
  best = folds-push best_operations xs _ kept.best x;
  affine = folds-push affine_operations xs _ kept.affine x;
  automaton = folds-push (automaton_operations program_table) xs _ kept.automaton x;
}
