-- Leaves over the blocks of a list: what they come to, and what they are after the list has changed.
use Rattle.std.proofs.Common.{◌≡◌, ◌≢◌, ℕ, zero, suc, ℤ, ◌+◌, ◌-◌, ◌*◌, ◌/◌, ◌^◌, ◌<◌, ◌≤◌, List, [], ◌∷◌, ◌++◌, length, map, take, drop, slice_index_or, slice_range, slice_set, refl, sym, ap, ◌∙◌, subst, arith, inl, inr, All, drop-drop, length-append, length-drop}
use Rattle.std.proofs.Math.Seq.{take-add}
use Rattle.std.proofs.lemmas.Bool.{cases_eq, cases_lt}
use Rattle.std.proofs.lemmas.List.{drop-append-le, ext_get_or, get_or-drop, get_or-map, get_or-set_other, get_or-set_same, get_or-take, get_or_append_left, length-map, length-set, length-take, length_push, take-append-le}
use Rattle.std.proofs.lemmas.List.Elements.{All-take}
use Rattle.lv_geometry.specs.Elements.{IsElement}
use Rattle.lv_bodies.specs.Body.{Operations, fold_of}
use Rattle.lv_bodies.specs.Long.{CanFoldLong}
use Rattle.lv_edits.proofs.Slices.{part_of_set}
use Rattle.lv_tree.specs.Blocks.{AreLeaves, block_of}
use Rattle.lv_tree.specs.Folds.{AreFolds, AreFoldsOf, end_to_end}

-- a write at an index outside of a block
pub block_of_set : (b i : ℕ) (x : ℤ) (xs : List ℤ) → i / 8 ≢ b → block_of b (slice_set xs i x) ≡ block_of b xs
block_of_set b i x xs other =
    elim (cases_lt i (b * 8)) [
      | inl before ↦ part_of_set xs i x (b * 8) 8 (inl before)
      | inr behind ↦ part_of_set xs i x (b * 8) 8 (inr (omega (arith, behind, other)))
    ]

-- the last entry of a list
pub get_or_last : {T : Type 0} (l : List T) (x d : T) → slice_index_or (l ++ x ∷ []) (length l) d ≡ x
get_or_last [] x d = refl
get_or_last (y ∷ l) x d = get_or_last l x d

-- the first so many blocks of a list
abbrev pub blocks_of : ℕ → List ℤ → List (List ℤ)
blocks_of zero xs = []
blocks_of (suc n) xs = take 8 xs ∷ blocks_of n (drop 8 xs)

pub blocks_of-length : (n : ℕ) (xs : List ℤ) → length (blocks_of n xs) ≡ n
blocks_of-length zero xs = refl
blocks_of-length (suc n) xs = ap suc (blocks_of-length n (drop 8 xs))

-- one of them
pub blocks_of-at : (n k : ℕ) (xs : List ℤ) → k < n → slice_index_or (blocks_of n xs) k [] ≡ block_of k xs
blocks_of-at zero k xs h = absurd (omega arith)
blocks_of-at (suc n) zero xs h = refl
blocks_of-at (suc n) (suc k) xs h =
    let far : 8 + k * 8 ≡ suc k * 8 = omega arith in
    blocks_of-at n k (drop 8 xs) (omega arith) ∙ ap (take 8) (drop-drop (k * 8) 8 xs ∙ ap (λ j. drop j xs) far)

-- the first ones, and those from one on
blocks_of-front : (m n : ℕ) (xs : List ℤ) → m ≤ n → take m (blocks_of n xs) ≡ blocks_of m xs
blocks_of-front zero n xs h = refl
blocks_of-front (suc m) zero xs h = absurd (omega arith)
blocks_of-front (suc m) (suc n) xs h = ap (λ l. take 8 xs ∷ l) (blocks_of-front m n (drop 8 xs) (omega arith))

blocks_of-back : (m n : ℕ) (xs : List ℤ) → drop m (blocks_of n xs) ≡ blocks_of (n - m) (drop (8 * m) xs)
blocks_of-back zero n xs = let none : n ≡ n - 0 = omega arith in ap (λ k. blocks_of k xs) none
blocks_of-back (suc m) zero xs = let none : zero - suc m ≡ zero = omega arith in ap (λ k. blocks_of k (drop (8 * suc m) xs)) (sym none)
blocks_of-back (suc m) (suc n) xs =
    let far : 8 + 8 * m ≡ 8 * suc m = omega arith in
    let less : n - m ≡ suc n - suc m = omega arith in
    blocks_of-back m n (drop 8 xs) ∙ ap (blocks_of (n - m)) (drop-drop (8 * m) 8 xs ∙ ap (λ k. drop k xs) far) ∙ ap (λ k. blocks_of k (drop (8 * suc m) xs)) less

-- end to end
blocks_of-end_to_end : (n : ℕ) (xs : List ℤ) → end_to_end (blocks_of n xs) ≡ take (8 * n) xs
blocks_of-end_to_end zero xs = refl
blocks_of-end_to_end (suc n) xs =
    let far : 8 + 8 * n ≡ 8 * suc n = omega arith in
    ap (λ l. take 8 xs ++ l) (blocks_of-end_to_end n (drop 8 xs)) ∙ sym (take-add 8 (8 * n) xs) ∙ ap (λ k. take k xs) far

-- the blocks from one up to another, end to end
pub range_of_blocks : (n a b : ℕ) (xs : List ℤ) → a ≤ b → b ≤ n → end_to_end (slice_range (blocks_of n xs) a b) ≡ slice_range xs (8 * a) (8 * b)
range_of_blocks n a b xs order inside =
    let all : 8 * (b - a) ≡ 8 * b - 8 * a = omega arith in
    ap end_to_end (ap (take (b - a)) (blocks_of-back a n xs) ∙ blocks_of-front (b - a) (n - a) (drop (8 * a) xs) (omega arith))
    ∙ blocks_of-end_to_end (b - a) (drop (8 * a) xs)
    ∙ ap (λ k. take k (drop (8 * a) xs)) all

-- leaves over the blocks of a list
module _ {S : Type 0} (o : Operations S) (xs : List ℤ) (sums : List S) (h : AreLeaves o xs sums) where
  -- are the folds of its first blocks
  pub leaves_are : sums ≡ map (fold_of o) (blocks_of (length sums) xs)
  leaves_are =
      let n = length sums in
      let blocks = blocks_of n xs in
      let count : length sums ≡ length (map (fold_of o) blocks) = sym (length-map blocks (fold_of o) ∙ blocks_of-length n xs) in
      ext_get_or o.identity sums (map (fold_of o) blocks) count (λ k inside.
      h.sums_are k inside
      ∙ sym (ap (fold_of o) (blocks_of-at n k xs inside))
      ∙ sym (get_or-map (fold_of o) blocks k [] o.identity (omega (arith, inside, blocks_of-length n xs))))

  module _ (all : All IsElement xs) (few : length xs ≤ 2 ^ 61) where
    -- and may be joined
    leaves_folds : AreFoldsOf o (blocks_of (length sums) xs) sums
    leaves_folds =
        let n = length sums in
        let can : CanFoldLong (take (8 * n) xs) = record { few = omega (arith, length-take (8 * n) xs, few); elements = All-take IsElement (8 * n) xs all } in
        record { sums_are = leaves_are; can = subst CanFoldLong (sym (blocks_of-end_to_end n xs)) can }

    pub leaves_join : AreFolds o sums
    leaves_join = record { lists = blocks_of (length sums) xs; of_lists = leaves_folds }

    -- the fold of some of them is that of their elements
    pub middle_is : (s : S) (a b : ℕ) → a ≤ b → b ≤ length sums → ((lists : List (List ℤ)) → AreFoldsOf o lists sums → s ≡ fold_of o (end_to_end (slice_range lists a b))) → s ≡ fold_of o (slice_range xs (8 * a) (8 * b))
    middle_is s a b order inside is = is (blocks_of (length sums) xs) leaves_folds ∙ ap (fold_of o) (range_of_blocks (length sums) a b xs order inside)

-- a block of a list stays what it is when more elements are added
block_of-longer : (b : ℕ) (xs ys : List ℤ) → 8 * b + 8 ≤ length xs → block_of b (xs ++ ys) ≡ block_of b xs
block_of-longer b xs ys inside =
    ap (take 8) (drop-append-le (b * 8) xs ys (omega (arith, inside)))
    ∙ take-append-le 8 (drop (b * 8) xs) ys (omega (arith, inside, length-drop (b * 8) xs))

-- a block of what is left, if whole blocks in front are dropped, is a later block of the list
block_of-dropped : (k b : ℕ) (xs : List ℤ) → block_of b (drop (8 * k) xs) ≡ block_of (k + b) xs
block_of-dropped k b xs =
    let far : 8 * k + b * 8 ≡ (k + b) * 8 = omega arith in
    ap (take 8) (drop-drop (b * 8) (8 * k) xs ∙ ap (λ n. drop n xs) far)

module _ {S : Type 0} (o : Operations S) where
  -- a list with no leaf
  pub no_leaves : (xs : List ℤ) → AreLeaves o xs []
  no_leaves xs = record { within = omega arith; sums_are = λ b inside. absurd (omega (arith, inside)) }

  -- leaves after elements were added behind
  pub leaves_longer : (xs ys : List ℤ) (sums : List S) → AreLeaves o xs sums → AreLeaves o (xs ++ ys) sums
  leaves_longer xs ys sums h = record {
    within = omega (arith, h.within, length-append xs ys);
    sums_are = λ b inside. h.sums_are b inside ∙ ap (fold_of o) (sym (block_of-longer b xs ys (omega (arith, h.within, inside))));
  }

  -- with that of the next block
  pub leaves_more : (xs : List ℤ) (sums : List S) (s : S) → 8 * length sums + 8 ≤ length xs → s ≡ fold_of o (block_of (length sums) xs) → AreLeaves o xs sums → AreLeaves o xs (sums ++ s ∷ [])
  leaves_more xs sums s room is h =
      let long = length_push sums s in
      record {
        within = omega (arith, long, room);
        sums_are = λ b inside.
            elim (cases_eq b (length sums)) [
              | inl here ↦ ap (λ i. slice_index_or (sums ++ s ∷ []) i o.identity) here ∙ get_or_last sums s o.identity ∙ is ∙ ap (λ i. fold_of o (block_of i xs)) (sym here)
              | inr other ↦
                  let before : b < length sums = omega (arith, inside, long, other) in
                  get_or_append_left sums (s ∷ []) o.identity b before ∙ h.sums_are b before
            ];
      }

  -- the first of them
  pub leaves_fewer : (xs : List ℤ) (sums : List S) (n : ℕ) → AreLeaves o xs sums → AreLeaves o xs (take n sums)
  leaves_fewer xs sums n h =
      let long = length-take n sums in
      record {
        within = omega (arith, h.within, long);
        sums_are = λ b inside. get_or-take n sums b o.identity (omega (arith, inside, long)) ∙ h.sums_are b (omega (arith, inside, long));
      }

  -- after whole blocks were dropped at the front
  pub leaves_dropped : (xs : List ℤ) (sums : List S) (k : ℕ) → k ≤ length sums → AreLeaves o xs sums → AreLeaves o (drop (8 * k) xs) (drop k sums)
  leaves_dropped xs sums k few h =
      let long = length-drop k sums in
      record {
        within = omega (arith, h.within, long, length-drop (8 * k) xs, few);
        sums_are = λ b inside. get_or-drop k sums b o.identity ∙ h.sums_are (k + b) (omega (arith, inside, long, few)) ∙ ap (fold_of o) (sym (block_of-dropped k b xs));
      }

  -- after an element was replaced, and the leaf of its block folded anew if it has one
  pub leaves_set : (xs : List ℤ) (sums : List S) (i : ℕ) (x : ℤ) (s : S) → s ≡ fold_of o (block_of (i / 8) (slice_set xs i x)) → AreLeaves o xs sums → AreLeaves o (slice_set xs i x) (slice_set sums (i / 8) s)
  leaves_set xs sums i x s is h =
      let long = length-set sums (i / 8) s in
      record {
        within = omega (arith, h.within, long, length-set xs i x);
        sums_are = λ b inside.
            elim (cases_eq b (i / 8)) [
              | inl here ↦
                  let place : i / 8 < length sums = omega (arith, inside, here, long) in
                  ap (λ j. slice_index_or (slice_set sums (i / 8) s) j o.identity) here ∙ get_or-set_same sums (i / 8) s o.identity place ∙ is ∙ ap (λ j. fold_of o (block_of j (slice_set xs i x))) (sym here)
              | inr other ↦
                  get_or-set_other sums (i / 8) b s o.identity other
                  ∙ h.sums_are b (omega (arith, inside, long))
                  ∙ ap (fold_of o) (sym (block_of_set b i x xs (λ e. other (sym e))))
            ];
      }
