-- The folds of the elements before each piece of a list, from the folds of the pieces.
use Rattle.std.proofs.Common.{◌≡◌, ℕ, ℤ, ◌+◌, ◌*◌, ◌<◌, ◌≤◌, List, ◌++◌, length, map, take, drop, sym, ap, subst, ◌∙◌, arith, length-append}
use Rattle.std.specs.List.{range_with_len, slice_index_or}
use Rattle.std.proofs.Math.Nat.{lt_of_mul-lt-mul_right, suc-mul}
use Rattle.std.proofs.Math.Seq.{take-add}
use Rattle.std.proofs.lemmas.List.FromFn.{get_or-map-range_with_len, length-map-range_with_len}
use Rattle.lv_bodies.specs.Body.{BodyLaws, CanFold, CanJoin, Operations, fold_of}
use Rattle.lv_bodies.specs.FoldLaws.{fold_of-append, fold_of-within}
use Rattle.lv_summary.proofs.FoldableLaws.{part_can_fold}
use Rattle.lv_reduce.specs.Running.{AreBefore}

module _ {S : Type 0} (o : Operations S) (within : S → ℕ → Type 0) (laws : BodyLaws o within) (xs : List ℤ) (can : CanFold xs) (size : ℕ) where
  -- the elements before the next piece
  pieces_next : (k : ℕ) → take ((k + 1) * size) xs ≡ take (k * size) xs ++ take size (drop (k * size) xs)
  pieces_next k =
      let next : (k + 1) * size ≡ k * size + size = omega (arith, suc-mul k size) in
      ap (λ n. take n xs) next ∙ take-add (k * size) size xs

  -- can be folded
  both : (k : ℕ) → CanFold (take (k * size) xs ++ take size (drop (k * size) xs))
  both k = subst CanFold (pieces_next k) (part_can_fold ((k + 1) * size) 0 xs can)

  -- the fold of a piece may be joined to that of the elements before it
  pub can_join_piece : (k : ℕ) (s t : S) → s ≡ fold_of o (take (k * size) xs) → t ≡ fold_of o (take size (drop (k * size) xs)) → CanJoin within s t
  can_join_piece k s t before fold = record {
    left = length (take (k * size) xs);
    right = length (take size (drop (k * size) xs));
    left_within =
        subst (λ u. within u (length (take (k * size) xs))) (sym before) (fold_of-within o within laws (take (k * size) xs) (part_can_fold (k * size) 0 xs can));
    right_within =
        subst (λ u. within u (length (take size (drop (k * size) xs)))) (sym fold)
        (fold_of-within o within laws (take size (drop (k * size) xs)) (part_can_fold size (k * size) xs can));
    few = omega (arith, (both k).few, length-append (take (k * size) xs) (take size (drop (k * size) xs)));
  }

  -- which makes the fold of the elements before the next piece
  pub before_next : (k : ℕ) (s t r : S) → s ≡ fold_of o (take (k * size) xs) → t ≡ fold_of o (take size (drop (k * size) xs)) → r ≡ o.join s t → r ≡ fold_of o (take ((k + 1) * size) xs)
  before_next k s t r before fold is =
      is
      ∙ ap (λ u. o.join u t) before
      ∙ ap (o.join (fold_of o (take (k * size) xs))) fold
      ∙ sym (fold_of-append o within laws (take (k * size) xs) (take size (drop (k * size) xs)) (both k))
      ∙ ap (fold_of o) (sym (pieces_next k))

-- the folds of the elements before each of so many pieces are those for the whole list, if the pieces cover it
pub before_all : {S : Type 0} (o : Operations S) (xs : List ℤ) (size count : ℕ) (befores : List S) → befores ≡ map (λ n. fold_of o (take (n * size) xs)) (range_with_len 0 count) → length xs ≤ count * size → AreBefore o size xs befores
before_all o xs size count befores is covered =
    let f = λ (n : ℕ). fold_of o (take (n * size) xs) in
    let many : length befores ≡ count = ap length is ∙ length-map-range_with_len f 0 count in
    record {
      count = λ n inside. let below : n < count = lt_of_mul-lt-mul_right size (omega (arith, inside, covered)) in omega (arith, below, many);
      folds = λ n d small. ap (λ l. slice_index_or l n d) is ∙ get_or-map-range_with_len f 0 count n n d (omega (arith, small, many)) (omega arith);
    }
