-- Parts of lists.
use Rattle.std.proofs.Common.{◌≡◌, ℕ, suc, ◌+◌, ◌-◌, ◌<◌, ◌≤◌, List, ◌∷◌, ◌++◌, length, take, drop, slice_index_or, slice_set, map, sym, ap, ◌∙◌, arith, inl, inr, drop-drop}
use Rattle.std.proofs.Math.Seq.{take-add}
use Rattle.std.proofs.lemmas.Bool.{cases_lt}
use Rattle.std.proofs.lemmas.List.{take-map, drop-map, drop_more, drop-set-lt, drop-set-add, take-set-le, drop-take, take-take}
use Rattle.lv_tree.specs.Parts.{run_of}

-- a longer run is a run, and another behind it
pub run_split : {T : Type 0} (xs : List T) (from n m : ℕ) → run_of xs from (n + m) ≡ run_of xs from n ++ run_of xs (from + n) m
run_split xs from n m = take-add n m (drop from xs) ∙ ap (λ l. take n (drop from xs) ++ take m l) (drop-drop n from xs)

-- up to a place, and from there on
pub run_cut : {T : Type 0} (xs : List T) (a b c : ℕ) → a ≤ b → b ≤ c → run_of xs a (c - a) ≡ run_of xs a (b - a) ++ run_of xs b (c - b)
run_cut xs a b c low high =
    let whole : c - a ≡ (b - a) + (c - b) = omega arith in
    let seam : a + (b - a) ≡ b = omega arith in
    ap (run_of xs a) whole ∙ run_split xs a (b - a) (c - b) ∙ ap (λ k. run_of xs a (b - a) ++ run_of xs k (c - b)) seam

-- one entry, and those behind it
pub run_more : {T : Type 0} (xs : List T) (from n : ℕ) (d : T) → from < length xs → run_of xs from (n + 1) ≡ slice_index_or xs from d ∷ run_of xs (from + 1) n
run_more xs from n d h =
    let one : n + 1 ≡ suc n = omega arith in
    ap (λ k. take k (drop from xs)) one ∙ ap (take (suc n)) (drop_more xs from d h)

-- a run of a list without its first entries
pub run_past : {T : Type 0} (xs : List T) (gone from n : ℕ) → gone ≤ from → run_of xs from n ≡ run_of (drop gone xs) (from - gone) n
run_past xs gone from n h =
    let whole : gone + (from - gone) ≡ from = omega arith in
    ap (take n) (sym (drop-drop (from - gone) gone xs ∙ ap (λ k. drop k xs) whole))

pub run_of-map : {T U : Type 0} (f : T → U) (xs : List T) (from n : ℕ) → run_of (map f xs) from n ≡ map f (run_of xs from n)
run_of-map f xs from n = ap (take n) (drop-map f from xs) ∙ take-map f n (drop from xs)

-- a write before a run, or behind it
pub run_behind_write : {T : Type 0} (xs : List T) (at from n : ℕ) (y : T) → at < from → run_of (slice_set xs at y) from n ≡ run_of xs from n
run_behind_write xs at from n y h = ap (take n) (drop-set-lt from xs at y h)

pub run_before_write : {T : Type 0} (xs : List T) (at from n : ℕ) (y : T) → from + n ≤ at → run_of (slice_set xs at y) from n ≡ run_of xs from n
run_before_write xs at from n y h =
    let place : at ≡ from + (at - from) = omega arith in
    ap (λ k. run_of (slice_set xs k y) from n) place ∙ ap (take n) (drop-set-add from xs (at - from) y) ∙ take-set-le n (drop from xs) (at - from) y (omega arith)

-- a run of what was cut behind it
pub run_of_shorter : {T : Type 0} (xs : List T) (count from n : ℕ) → from + n ≤ count → run_of (take count xs) from n ≡ run_of xs from n
run_of_shorter xs count from n h =
    let whole : count ≡ from + (count - from) = omega arith in
    ap (λ k. run_of (take k xs) from n) whole ∙ ap (take n) (drop-take from (count - from) xs) ∙ take-take n (count - from) (drop from xs) (omega arith)

-- a run of a run
pub run_inside : {T : Type 0} (xs : List T) (lo hi a b : ℕ) → lo ≤ a → b ≤ hi → run_of (run_of xs lo (hi - lo)) (a - lo) (b - a) ≡ run_of xs a (b - a)
run_inside xs lo hi a b low high =
    elim (cases_lt b a) [
      | inr order ↦
          let count : (a - lo) + (b - a) ≤ hi - lo = omega (arith, low, high, order) in
          run_of_shorter (drop lo xs) (hi - lo) (a - lo) (b - a) count ∙ sym (run_past xs lo a (b - a) low)
      | inl behind ↦
          let none : b - a ≡ 0 = omega (arith, behind) in
          ap (λ k. run_of (run_of xs lo (hi - lo)) (a - lo) k) none ∙ ap (run_of xs a) (sym none)
    ]
