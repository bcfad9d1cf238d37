-- That the folds by which the kinds are kept give their summaries.
use Rattle.std.proofs.Common.{◌≡◌, ℕ, ℤ, ◌-◌, ◌<◌, ◌⊎◌, Bool, Option, Some, None, List, [], ◌∷◌, length, nat_lt, All, refl, sym, ap, ◌∙◌, inl, inr, ◌≤◌, slice_range, arith}
use Rattle.std.specs.Bool.{then_some}
use Rattle.std.specs.Int.{int_min, int_max}
use Rattle.std.proofs.lemmas.Bool.{cases_lt, le-ltb, lt-ltb}
use Rattle.lv_geometry.specs.Elements.{IsElement}
use Rattle.lv_bodies.specs.AffineMaps.{affine_operations}
use Rattle.lv_bodies.specs.BareLaws.{bare-is-extreme, runs-is-best}
use Rattle.lv_bodies.specs.Body.{Operations, fold_of}
use Rattle.lv_bodies.specs.ExtremeLaws.{downward, upward}
use Rattle.lv_bodies.specs.Extremes.{greatest_operations, highest_operations, least_operations, lowest_operations}
use Rattle.lv_bodies.specs.RunTotals.{best_operations, runs_operations}
use Rattle.lv_bodies.specs.Sums.{sum_operations}
use Rattle.lv_bodies.specs.Tables.{automaton_operations}
use Rattle.lv_bodies.specs.declared.affine.AffineMap.{AffineMap}
use Rattle.lv_bodies.specs.declared.best.RunTotals.{RunTotals}
use Rattle.lv_bodies.specs.declared.kinds.Kind.TheVariants as kind
use Rattle.lv_edits.proofs.Slices.{length-slice_range}
use Rattle.lv_tree.specs.KindSummaries.{summary_by}
use Rattle.lv_tree.specs.OfSixLaws.{affine-part, automaton-part, best-part, greatest-part, least-part, sum-part}
use Rattle.lv_tree.specs.declared.kind_summaries.KindSummary.TheVariants.{Sum, Least, Greatest, Best, Affine, Automaton}

-- a bare fold if there are elements, and none if there are none, is the fold that may be missing
inside_if : {T : Type 0} (bare : Operations T) (may : Operations (Option T)) (xs : List ℤ) → may.identity ≡ None → (0 < length xs → Some (fold_of bare xs) ≡ fold_of may xs)
    → then_some (nat_lt 0 (length xs)) (fold_of bare xs) ≡ fold_of may xs
inside_if bare may [] none inside = sym none
inside_if bare may (x ∷ xs) none inside =
    let some : 0 < length (x ∷ xs) = omega arith in
    ap (λ any. then_some any (fold_of bare (x ∷ xs))) (lt-ltb 0 (length (x ∷ xs)) some) ∙ inside some

-- a value that is known to be such a fold, with a flag that is known to say whether there are elements, is the fold that may be missing
told_if : {T : Type 0} (bare : Operations T) (may : Operations (Option T)) (xs : List ℤ) (some : Bool) (s : T) → may.identity ≡ None → (0 < length xs → Some (fold_of bare xs) ≡ fold_of may xs)
    → some ≡ nat_lt 0 (length xs) → s ≡ fold_of bare xs → then_some some s ≡ fold_of may xs
told_if bare may xs some s none inside is fold =
    ap (λ any. then_some any s) is ∙ ap (then_some (nat_lt 0 (length xs))) fold ∙ inside_if bare may xs none inside

module _ (table : List (List ℕ)) (xs : List ℤ) where
  pub sum_told : (s : ℕ) → s ≡ fold_of sum_operations xs → Sum s ≡ summary_by table kind.Sum xs
  sum_told s fold = ap Sum (fold ∙ sym (sum-part table xs))

  pub least_told : (some : Bool) (s : ℤ) → All IsElement xs → some ≡ nat_lt 0 (length xs) → s ≡ fold_of lowest_operations xs → Least (then_some some s) ≡ summary_by table kind.Least xs
  least_told some s elements is fold =
      ap Least (told_if lowest_operations least_operations xs some s refl (λ any. bare-is-extreme int_min _ upward xs any elements) is fold ∙ sym (least-part table xs))

  pub greatest_told : (some : Bool) (s : ℤ) → All IsElement xs → some ≡ nat_lt 0 (length xs) → s ≡ fold_of highest_operations xs → Greatest (then_some some s) ≡ summary_by table kind.Greatest xs
  greatest_told some s elements is fold =
      ap Greatest (told_if highest_operations greatest_operations xs some s refl (λ any. bare-is-extreme int_max _ downward xs any elements) is fold ∙ sym (greatest-part table xs))

  pub best_told : (some : Bool) (s : RunTotals) → All IsElement xs → some ≡ nat_lt 0 (length xs) → s ≡ fold_of runs_operations xs → Best (then_some some s) ≡ summary_by table kind.Best xs
  best_told some s elements is fold =
      ap Best (told_if runs_operations best_operations xs some s refl (λ any. runs-is-best xs any elements) is fold ∙ sym (best-part table xs))

  pub affine_told : (s : AffineMap) → s ≡ fold_of affine_operations xs → Affine s ≡ summary_by table kind.Affine xs
  affine_told s fold = ap Affine (fold ∙ sym (affine-part table xs))

  pub automaton_told : (by : List (List ℕ)) (s : List ℕ) → table ≡ by → s ≡ fold_of (automaton_operations by) xs → Automaton s ≡ summary_by table kind.Automaton xs
  automaton_told by s is fold = ap Automaton (fold ∙ ap (λ t. fold_of (automaton_operations t) xs) (sym is) ∙ sym (automaton-part table xs))

-- a range has elements if it ends past its beginning
some_of : (n lo hi : ℕ) → n ≡ hi - lo → (lo < hi) ⊎ (hi ≤ lo) → nat_lt lo hi ≡ nat_lt 0 n
some_of n lo hi is (inl apart) = lt-ltb lo hi apart ∙ sym (lt-ltb 0 n (omega (arith, is)))
some_of n lo hi is (inr none) = le-ltb lo hi none ∙ sym (le-ltb 0 n (omega (arith, is)))

pub some_in_range : (xs : List ℤ) (lo hi : ℕ) → lo ≤ hi → hi ≤ length xs → nat_lt lo hi ≡ nat_lt 0 (length (slice_range xs lo hi))
some_in_range xs lo hi order inside = some_of _ lo hi (length-slice_range xs lo hi order inside) (cases_lt lo hi)
