-- That each part of the fold by all six bodies is the fold by its own.
use Rattle.std.specs.Prelude.{◌≡◌, ℕ, ℤ, List}
use Rattle.std.proofs.Common.{ap, ◌∙◌}
use Rattle.lv_bodies.specs.AffineMaps.{affine_operations}
use Rattle.lv_bodies.specs.Body.{Operations, fold_of}
use Rattle.lv_bodies.specs.Extremes.{greatest_operations, least_operations}
use Rattle.lv_bodies.specs.Pairs.{pair_operations}
use Rattle.lv_bodies.specs.RunTotals.{best_operations}
use Rattle.lv_bodies.specs.Six.{SixSummary, six_operations_by}
use Rattle.lv_bodies.specs.Sums.{sum_operations}
use Rattle.lv_bodies.specs.Tables.{automaton_operations}
use Rattle.lv_bodies.proofs.PairFolds.{fold_of-pair}

-- a pair's fold, if that of the second side is known
pair_fold : {S T : Type 0} (o : Operations S) (p : Operations T) (xs : List ℤ) (t : T) → fold_of p xs ≡ t → fold_of (pair_operations o p) xs ≡ (fold_of o xs, t)
pair_fold o p xs t e = fold_of-pair o p xs ∙ ap (λ u. (fold_of o xs, u)) e

-- the folds of the six
abbrev six_folds : List (List ℕ) → List ℤ → SixSummary
six_folds table xs = (
  fold_of sum_operations xs,
  (
    fold_of least_operations xs,
    (
      fold_of greatest_operations xs,
      (
        fold_of best_operations xs,
        (fold_of affine_operations xs, fold_of (automaton_operations table) xs),
      ),
    ),
  ),
)

module _ (table : List (List ℕ)) (xs : List ℤ) where
  -- the fold of the six is the six folds
  fold_of-six : fold_of (six_operations_by table) xs ≡ six_folds table xs
  fold_of-six =
      let automata = automaton_operations table in
      let from_affine = pair_operations affine_operations automata in
      let from_best = pair_operations best_operations from_affine in
      let from_greatest = pair_operations greatest_operations from_best in
      let from_least = pair_operations least_operations from_greatest in
      let affine = fold_of-pair affine_operations automata xs in
      let best = pair_fold best_operations from_affine xs _ affine in
      let greatest = pair_fold greatest_operations from_best xs _ best in
      let least = pair_fold least_operations from_greatest xs _ greatest in
      pair_fold sum_operations from_least xs _ least

  -- each of the six folds is a part of that fold
  pub sum-part : (fold_of (six_operations_by table) xs).0 ≡ fold_of sum_operations xs
  sum-part = ap (λ s. s.0) fold_of-six

  pub least-part : (fold_of (six_operations_by table) xs).1.0 ≡ fold_of least_operations xs
  least-part = ap (λ s. s.1.0) fold_of-six

  pub greatest-part : (fold_of (six_operations_by table) xs).1.1.0 ≡ fold_of greatest_operations xs
  greatest-part = ap (λ s. s.1.1.0) fold_of-six

  pub best-part : (fold_of (six_operations_by table) xs).1.1.1.0 ≡ fold_of best_operations xs
  best-part = ap (λ s. s.1.1.1.0) fold_of-six

  pub affine-part : (fold_of (six_operations_by table) xs).1.1.1.1.0 ≡ fold_of affine_operations xs
  affine-part = ap (λ s. s.1.1.1.1.0) fold_of-six

  pub automaton-part : (fold_of (six_operations_by table) xs).1.1.1.1.1 ≡ fold_of (automaton_operations table) xs
  automaton-part = ap (λ s. s.1.1.1.1.1) fold_of-six
