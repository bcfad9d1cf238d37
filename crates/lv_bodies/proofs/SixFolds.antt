-- That what is shown of the fold of the six is the plain value of each kind.
use Rattle.std.proofs.Common.{◌≡◌, ℕ, ℤ, List, ap, ◌∙◌}
use Rattle.lv_bodies.specs.Body.{Operations, CanFold, fold_of}
use Rattle.lv_bodies.specs.Plain.{plain_value_with}
use Rattle.lv_bodies.specs.Pairs.{pair_operations}
use Rattle.lv_bodies.proofs.PairFolds.{fold_of-pair}
use Rattle.lv_bodies.specs.Sums.{sum_operations}
use Rattle.lv_bodies.specs.SumLaws.{fold_of-sum}
use Rattle.lv_bodies.specs.Extremes.{least_operations, greatest_operations}
use Rattle.lv_bodies.specs.ExtremeLaws.{fold_of-least, fold_of-greatest}
use Rattle.lv_bodies.specs.RunTotals.{best_operations}
use Rattle.lv_bodies.specs.BestLaws.{fold_of-best}
use Rattle.lv_bodies.specs.AffineMaps.{affine_operations}
use Rattle.lv_bodies.specs.AffineLaws.{fold_of-affine, shown_alike}
use Rattle.lv_bodies.specs.Tables.{automaton_operations}
use Rattle.lv_bodies.specs.TableLaws.{fold_of-automaton}
use Rattle.lv_bodies.specs.Six.{SixSummary, six_operations_by, face_of}
use Rattle.lv_bodies.specs.declared.kinds.Kind.{Kind}
use Rattle.lv_bodies.specs.declared.kinds.Kind.TheVariants.{Sum, Least, Greatest, Best, Affine, Automaton}
use Rattle.lv_bodies.specs.declared.kinds.Shown.TheVariants as shown

-- a pair's fold, if that of the second side is known
pair_fold : {S T : Type 0} (o : Operations S) (p : Operations T) (xs : List ℤ) (t : T) → fold_of p xs ≡ t → fold_of (pair_operations o p) xs ≡ (fold_of o xs, t)
pair_fold o p xs t e = fold_of-pair o p xs ∙ ap (λ u. (fold_of o xs, u)) e

-- the folds of the six
abbrev six_folds : List (List ℕ) → List ℤ → SixSummary
six_folds table xs = (
  fold_of sum_operations xs,
  (
    fold_of least_operations xs,
    (
      fold_of greatest_operations xs,
      (
        fold_of best_operations xs,
        (fold_of affine_operations xs, fold_of (automaton_operations table) xs),
      ),
    ),
  ),
)

-- the fold of the six is the six folds
fold_of-six : (table : List (List ℕ)) (xs : List ℤ) → fold_of (six_operations_by table) xs ≡ six_folds table xs
fold_of-six table xs =
    let automata = automaton_operations table in
    let from_affine = pair_operations affine_operations automata in
    let from_best = pair_operations best_operations from_affine in
    let from_greatest = pair_operations greatest_operations from_best in
    let from_least = pair_operations least_operations from_greatest in
    let affine = fold_of-pair affine_operations automata xs in
    let best = pair_fold best_operations from_affine xs _ affine in
    let greatest = pair_fold greatest_operations from_best xs _ best in
    let least = pair_fold least_operations from_greatest xs _ greatest in
    pair_fold sum_operations from_least xs _ least

-- what is shown of the six folds is the plain value of each kind
shown_of_folds : (table : List (List ℕ)) (kind : Kind) (xs : List ℤ) → CanFold xs → face_of kind (six_folds table xs) ≡ plain_value_with table kind xs
shown_of_folds table Sum xs can = ap shown.Sum (fold_of-sum xs)
shown_of_folds table Least xs can = ap shown.Least (fold_of-least xs)
shown_of_folds table Greatest xs can = ap shown.Greatest (fold_of-greatest xs)
shown_of_folds table Best xs can = ap shown.Best (fold_of-best xs)
shown_of_folds table Affine xs can = let same = fold_of-affine xs can in shown_alike _ _ _ _ same.0 same.1
shown_of_folds table Automaton xs can = ap shown.Automaton (fold_of-automaton table xs)

-- what is shown of a summary that is the fold is the plain value
pub face_of-fold : (table : List (List ℕ)) (kind : Kind) (s : SixSummary) (xs : List ℤ) → CanFold xs → s ≡ fold_of (six_operations_by table) xs → face_of kind s ≡ plain_value_with table kind xs
face_of-fold table kind s xs can e = ap (face_of kind) (e ∙ fold_of-six table xs) ∙ shown_of_folds table kind xs can
