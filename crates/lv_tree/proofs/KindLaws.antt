-- What is kept of one kind: a part of the fold of all six.
use Rattle.std.proofs.Common.{◌≡◌, ℕ, ℤ, List, [], ◌∷◌, ◌++◌, length, refl, ap, sym, subst, ◌∙◌, arith, length-append, All}
use Rattle.std.proofs.lemmas.List.Sums.{fold-append}
use Rattle.std.proofs.Math.Seq.{drop-append_seam, take-append_seam}
use Rattle.std.proofs.lemmas.List.Elements.{All-drop, All-head, All-take}
use Rattle.lv_geometry.specs.Elements.{IsElement}
use Rattle.lv_bodies.specs.Body.{CanFold, CanJoin, fold_of}
use Rattle.lv_bodies.specs.FoldLaws.{fold_of-within}
use Rattle.lv_bodies.specs.Sums.{IsSum, sum_operations}
use Rattle.lv_bodies.specs.Extremes.{IsExtreme, least_operations, greatest_operations}
use Rattle.lv_bodies.specs.RunTotals.{IsBest, best_operations}
use Rattle.lv_bodies.specs.AffineMaps.{IsAffineMap, affine_operations}
use Rattle.lv_bodies.specs.Tables.{IsStateMap, automaton_operations}
use Rattle.lv_bodies.specs.Plain.{plain_value, program_table}
use Rattle.lv_bodies.specs.Six.{SixSummary, face_of, six_operations, six_within}
use Rattle.lv_bodies.specs.SixLaws.{six_laws}
use Rattle.lv_bodies.specs.declared.kinds.Kind.{Kind}
use Rattle.lv_bodies.specs.declared.kinds.Kind.TheVariants.{Sum, Least, Greatest, Best, Affine, Automaton}
use Rattle.lv_bodies.proofs.SixFolds.{face_of-fold}
use Rattle.lv_tree.specs.declared.kind_summaries.KindSummary.{KindSummary}
use Rattle.lv_tree.specs.declared.kind_summaries.KindSummary.TheVariants as kept
use Rattle.lv_tree.specs.KindSummaries.{kind_of, part_of, shown_of, summary_of}

-- a part is of its kind
pub kind_of_part : (k : Kind) (s : SixSummary) → kind_of (part_of k s) ≡ k
kind_of_part Sum s = refl
kind_of_part Least s = refl
kind_of_part Greatest s = refl
kind_of_part Best s = refl
kind_of_part Affine s = refl
kind_of_part Automaton s = refl

-- what is shown of a part is what is shown of the six by its kind
shown_of_part : (k : Kind) (s : SixSummary) → shown_of (part_of k s) ≡ face_of k s
shown_of_part Sum s = refl
shown_of_part Least s = refl
shown_of_part Greatest s = refl
shown_of_part Best s = refl
shown_of_part Affine s = refl
shown_of_part Automaton s = refl

-- what is shown of the summary of some elements is their plain value
pub shown_is_plain : (k : Kind) (xs : List ℤ) → CanFold xs → shown_of (summary_of k xs) ≡ plain_value k xs
shown_is_plain k xs can =
    let s = fold_of six_operations xs in
    shown_of_part k s ∙ face_of-fold program_table k s xs can refl

-- the fold of some elements and one more is theirs, joined with what that one lifts to
pub six_more : (xs : List ℤ) (x : ℤ) → fold_of six_operations (xs ++ x ∷ []) ≡ six_operations.join (fold_of six_operations xs) (six_operations.lift x)
six_more xs x =
    let o = six_operations in
    fold-append (λ s y. o.join s (o.lift y)) o.identity xs (x ∷ [])

-- what can be folded with one more can be folded without it
pub can_fold_front : (xs : List ℤ) (x : ℤ) → CanFold (xs ++ x ∷ []) → CanFold xs
can_fold_front xs x can = record {
  few = omega (arith, can.few, length-append xs (x ∷ []));
  elements = subst (All IsElement) (take-append_seam xs (x ∷ [])) (All-take IsElement (length xs) (xs ++ x ∷ []) can.elements);
}

-- the last of what can be folded is a number of 64 bits
pub last_is_element : (before : List ℤ) (x : ℤ) → CanFold (before ++ x ∷ []) → IsElement x
last_is_element before x can =
    All-head IsElement x [] (subst (All IsElement) (drop-append_seam before (x ∷ [])) (All-drop IsElement (length before) (before ++ x ∷ []) can.elements))

-- whether what is kept may be joined with the summary of one more element
abbrev pub CanGrow : KindSummary → ℤ → Type 0
CanGrow (kept.Sum s) x = CanJoin IsSum s (sum_operations.lift x)
CanGrow (kept.Least s) x = CanJoin IsExtreme s (least_operations.lift x)
CanGrow (kept.Greatest s) x = CanJoin IsExtreme s (greatest_operations.lift x)
CanGrow (kept.Best s) x = CanJoin IsBest s (best_operations.lift x)
CanGrow (kept.Affine s) x = CanJoin IsAffineMap s (affine_operations.lift x)
CanGrow (kept.Automaton s) x = CanJoin IsStateMap s ((automaton_operations program_table).lift x)

-- what is kept, with one more element
abbrev pub grown : KindSummary → ℤ → KindSummary
grown (kept.Sum s) x = kept.Sum (sum_operations.join s (sum_operations.lift x))
grown (kept.Least s) x = kept.Least (least_operations.join s (least_operations.lift x))
grown (kept.Greatest s) x = kept.Greatest (greatest_operations.join s (greatest_operations.lift x))
grown (kept.Best s) x = kept.Best (best_operations.join s (best_operations.lift x))
grown (kept.Affine s) x = kept.Affine (affine_operations.join s (affine_operations.lift x))
grown (kept.Automaton s) x = kept.Automaton ((automaton_operations program_table).join s ((automaton_operations program_table).lift x))

module _ (before : List ℤ) (x : ℤ) (can : CanFold (before ++ x ∷ [])) where
  -- the fold of all but the last keeps its bounds
  front_within : six_within (fold_of six_operations before) (length before)
  front_within = fold_of-within six_operations six_within six_laws before (can_fold_front before x can)

  -- and that one keeps them for one
  last_within : six_within (six_operations.lift x) 1
  last_within = six_laws.lift_within x (last_is_element before x can)

  -- so that what is kept of them may be joined with it
  can_join : {S : Type 0} (within : S → ℕ → Type 0) (s t lifted : S) → within t (length before) → within lifted 1 → s ≡ t → CanJoin within s lifted
  can_join within s t lifted front last e = record {
    left = length before;
    right = 1;
    left_within = subst (λ r. within r (length before)) (sym e) front;
    right_within = last;
    few = omega (arith, can.few, length-append before (x ∷ []));
  }

  can_grow : (k : KindSummary) → k ≡ summary_of (kind_of k) before → CanGrow k x
  can_grow (kept.Sum s) from = can_join IsSum s (fold_of six_operations before).0 (sum_operations.lift x) front_within.0 last_within.0 cc
  can_grow (kept.Least s) from = can_join IsExtreme s (fold_of six_operations before).1.0 (least_operations.lift x) front_within.1.0 last_within.1.0 cc
  can_grow (kept.Greatest s) from = can_join IsExtreme s (fold_of six_operations before).1.1.0 (greatest_operations.lift x) front_within.1.1.0 last_within.1.1.0 cc
  can_grow (kept.Best s) from = can_join IsBest s (fold_of six_operations before).1.1.1.0 (best_operations.lift x) front_within.1.1.1.0 last_within.1.1.1.0 cc
  can_grow (kept.Affine s) from = can_join IsAffineMap s (fold_of six_operations before).1.1.1.1.0 (affine_operations.lift x) front_within.1.1.1.1.0 last_within.1.1.1.1.0 cc
  can_grow (kept.Automaton s) from = can_join IsStateMap s (fold_of six_operations before).1.1.1.1.1 ((automaton_operations program_table).lift x) front_within.1.1.1.1.1 last_within.1.1.1.1.1 cc

  pub kept_can_grow : (k v : KindSummary) → k ≡ v → k ≡ summary_of (kind_of k) before → CanGrow v x
  kept_can_grow k v is from = subst (λ j. CanGrow j x) is (can_grow k from)

-- a part of six summaries with one more element is that part of them, with it
grown_part : (k : Kind) (s : SixSummary) (x : ℤ) → grown (part_of k s) x ≡ part_of k (six_operations.join s (six_operations.lift x))
grown_part Sum s x = refl
grown_part Least s x = refl
grown_part Greatest s x = refl
grown_part Best s x = refl
grown_part Affine s x = refl
grown_part Automaton s x = refl

-- what is kept of some elements, with one more, is what is kept of them and that one
pub kept_more : (k v : KindSummary) (before : List ℤ) (x : ℤ) → k ≡ v → k ≡ summary_of (kind_of k) before → grown v x ≡ summary_of (kind_of k) (before ++ x ∷ [])
kept_more k v before x is from =
    ap (λ j. grown j x) (sym is ∙ from) ∙ grown_part (kind_of k) (fold_of six_operations before) x ∙ ap (part_of (kind_of k)) (sym (six_more before x))

-- a part of the fold of some elements is their summary by its kind
pub part_is_current : (k : Kind) (xs : List ℤ) (six : SixSummary) (s : KindSummary) → s ≡ part_of k six → six ≡ fold_of six_operations xs → s ≡ summary_of (kind_of s) xs
part_is_current k xs six s part fold =
    let e : s ≡ summary_of k xs = part ∙ ap (part_of k) fold in
    e ∙ ap (λ j. summary_of j xs) (sym (ap kind_of e ∙ kind_of_part k (fold_of six_operations xs)))

-- a summary by a kind is one by the kind that it is of
pub summary_is_current : (k : Kind) (xs : List ℤ) → summary_of k xs ≡ summary_of (kind_of (summary_of k xs)) xs
summary_is_current k xs = part_is_current k xs (fold_of six_operations xs) (summary_of k xs) refl refl
