-- Slices of a slice, and those of one element or none.
use Rattle.std.proofs.Common.{◌≡◌, ℕ, ◌+◌, ◌-◌, ◌<◌, ◌≤◌, List, [], ◌∷◌, ◌++◌, length, drop, drop-drop, take, slice_index_or, slice_range, ap, ◌∙◌, arith}
use Rattle.std.proofs.Math.Seq.{take-add}
use Rattle.std.proofs.lemmas.List.{drop-take, take-take}
use Rattle.lv_edits.proofs.Slices.{part_of_take, slice_range-more}

-- a range that ends where it starts is empty
pub nothing_here : {A : Type 0} (xs : List A) (at : ℕ) → slice_range xs at at ≡ []
nothing_here xs at = let none : at - at ≡ 0 = omega arith in ap (λ n. take n (drop at xs)) none

-- a slice of one element
pub slice_of_one : {A : Type 0} (xs : List A) (at : ℕ) (x : A) → at < length xs → x ≡ slice_index_or xs at x → slice_range xs at (at + 1) ≡ x ∷ []
slice_of_one xs at x small is = slice_range-more xs at at x (omega arith) small is ∙ ap (λ ys. ys ++ x ∷ []) (nothing_here xs at)

-- a slice of a slice is one of the list
pub slice_of_slice : {A : Type 0} (xs : List A) (lo hi a b : ℕ) → a ≤ b → b ≤ hi - lo → slice_range (slice_range xs lo hi) a b ≡ slice_range xs (lo + a) (lo + b)
slice_of_slice xs lo hi a b order inside =
    let wide : b - a ≡ lo + b - (lo + a) = omega arith in
    part_of_take (drop lo xs) (hi - lo) a (b - a) (omega arith) ∙ ap (take (b - a)) (drop-drop a lo xs) ∙ ap (λ n. take n (drop (lo + a) xs)) wide

-- the front of a slice is one
pub front_of_slice : {A : Type 0} (xs : List A) (lo hi n : ℕ) → n ≤ hi - lo → take n (slice_range xs lo hi) ≡ slice_range xs lo (lo + n)
front_of_slice xs lo hi n inside =
    let wide : n ≡ lo + n - lo = omega arith in
    take-take n (hi - lo) (drop lo xs) inside ∙ ap (λ m. take m (drop lo xs)) wide

-- the back of a slice is a slice of the list
pub back_of_slice : {A : Type 0} (xs : List A) (lo hi n : ℕ) → n ≤ hi - lo → drop n (slice_range xs lo hi) ≡ slice_range xs (lo + n) hi
back_of_slice xs lo hi n inside =
    let whole : hi - lo ≡ n + (hi - lo - n) = omega arith in
    let wide : hi - lo - n ≡ hi - (lo + n) = omega arith in
    ap (λ m. drop n (take m (drop lo xs))) whole
    ∙ drop-take n (hi - lo - n) (drop lo xs)
    ∙ ap (take (hi - lo - n)) (drop-drop n lo xs)
    ∙ ap (λ m. take m (drop (lo + n) xs)) wide

-- a range is its part up to a place, and that from there on
pub range_cut : {A : Type 0} (xs : List A) (a b c : ℕ) → a ≤ b → b ≤ c → slice_range xs a c ≡ slice_range xs a b ++ slice_range xs b c
range_cut xs a b c low high =
    let whole : c - a ≡ (b - a) + (c - b) = omega arith in
    let seam : a + (b - a) ≡ b = omega arith in
    ap (λ k. take k (drop a xs)) whole
    ∙ take-add (b - a) (c - b) (drop a xs)
    ∙ ap (λ l. take (b - a) (drop a xs) ++ take (c - b) l) (drop-drop (b - a) a xs ∙ ap (λ k. drop k xs) seam)
