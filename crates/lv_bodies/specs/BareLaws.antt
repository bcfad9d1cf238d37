-- That the bare forms, whose summaries are never missing, are what is inside the forms that may be.
use Rattle.std.specs.Prelude.{◌≡◌, ℤ, ◌<◌, Some, List, [], ◌∷◌, length, fold, All}
use Rattle.std.proofs.Common.{arith, ap, ◌∙◌, refl}
use Rattle.std.proofs.lemmas.List.Elements.{All-head}
use Rattle.lv_geometry.specs.Elements.{IsElement}
use Rattle.lv_bodies.specs.Body.{fold_of}
use Rattle.lv_bodies.specs.Optional.{join_of_both, optional_operations}
use Rattle.lv_bodies.specs.Extremes.{OrderLaws, bare_operations, extreme_operations}
use Rattle.lv_bodies.specs.RunTotals.{totals_of, join_totals, best_operations, runs_operations}
use Rattle.lv_bodies.specs.RunLaws.{none_before, run_of_one}

-- what is inside of two that are there is the same where they are
pub same_inside : (x y : ℤ) → Some x ≡ Some y → x ≡ y
same_inside x y e = cc

module _ {T : Type 0} (lift : ℤ → T) (join : T → T → T) where
  -- a fold that goes on from a summary that is there is the fold of what is inside
  inside_along : (s : T) (xs : List ℤ) → Some (fold (λ t x. join t (lift x)) s xs) ≡ fold (λ t x. join_of_both join t (Some (lift x))) (Some s) xs
  inside_along s [] = refl
  inside_along s (x ∷ xs) = inside_along (join s (lift x)) xs

  -- if there are elements, a fold from an identity is what is inside the fold from none
  pub fold_of-inside : (identity : T) (xs : List ℤ) → 0 < length xs → All IsElement xs → ((x : ℤ) → IsElement x → join identity (lift x) ≡ lift x)
      → Some (fold_of record { identity = identity; lift = lift; join = join } xs) ≡ fold_of (optional_operations lift join) xs
  fold_of-inside identity [] some elements neutral = absurd (omega arith)
  fold_of-inside identity (x ∷ xs) some elements neutral =
      ap (λ s. Some (fold (λ t y. join t (lift y)) s xs)) (neutral x (All-head IsElement x xs elements)) ∙ inside_along (lift x) xs

-- the first of some elements by an order is the bare first
pub bare-is-extreme : (first : ℤ → ℤ → ℤ) (last : ℤ) → OrderLaws first last → (xs : List ℤ) → 0 < length xs → All IsElement xs
    → Some (fold_of (bare_operations first last) xs) ≡ fold_of (extreme_operations first) xs
bare-is-extreme first last order xs some elements = fold_of-inside (λ x. x) first last xs some elements order.after_any

-- the best run of some elements is that of the bare runs
pub runs-is-best : (xs : List ℤ) → 0 < length xs → All IsElement xs → Some (fold_of runs_operations xs) ≡ fold_of best_operations xs
runs-is-best xs some elements =
    fold_of-inside totals_of join_totals runs_operations.identity xs some elements (λ x h. none_before (totals_of x) 1 (run_of_one x h))
