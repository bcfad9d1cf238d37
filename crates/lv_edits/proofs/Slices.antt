-- Slices and parts of a list: which grow by one element, and which stay when the list changes elsewhere.
use Rattle.std.proofs.Common.{◌≡◌, ℕ, ◌+◌, ◌-◌, ◌⊎◌, ◌<◌, ◌≤◌, List, [], ◌∷◌, ◌++◌, length, take, drop, slice_set, slice_range, slice_index_or, arith, sym, ap, ◌∙◌, inl, inr, length-drop}
use Rattle.std.proofs.lemmas.List.{drop-append-le, drop-set-add, drop-set-lt, drop-take, get_or-drop, length-take-le, take_more, take-append-le, take-set-le, take-take}

-- a slice that ends one place later has the element there at its end
pub slice_range-more : {A : Type 0} (xs : List A) (lo i : ℕ) (x : A) → lo ≤ i → i < length xs → x ≡ slice_index_or xs i x → slice_range xs lo (i + 1) ≡ slice_range xs lo i ++ x ∷ []
slice_range-more xs lo i x low small at =
    let place : lo + (i - lo) ≡ i = omega arith in
    let next : i + 1 - lo ≡ i - lo + 1 = omega arith in
    let inside : i - lo < length (drop lo xs) = omega (arith, length-drop lo xs) in
    ap (λ n. take n (drop lo xs)) next
    ∙ take_more (drop lo xs) (i - lo) x inside
    ∙ ap (λ y. take (i - lo) (drop lo xs) ++ y ∷ []) (get_or-drop lo xs (i - lo) x ∙ ap (λ n. slice_index_or xs n x) place ∙ sym at)

-- a slice inside a list is as long as its bounds are apart
pub length-slice_range : {A : Type 0} (xs : List A) (lo hi : ℕ) → lo ≤ hi → hi ≤ length xs → length (slice_range xs lo hi) ≡ hi - lo
length-slice_range xs lo hi low high = length-take-le (hi - lo) (drop lo xs) (omega (arith, length-drop lo xs))

-- the elements of a part of a list stay if one more element is put at the list's end
pub part_of_push : {A : Type 0} (xs : List A) (x : A) (from size : ℕ) → from + size ≤ length xs → take size (drop from (xs ++ x ∷ [])) ≡ take size (drop from xs)
part_of_push xs x from size within =
    ap (take size) (drop-append-le from xs (x ∷ []) (omega arith)) ∙ take-append-le size (drop from xs) (x ∷ []) (omega (arith, length-drop from xs))

-- the elements of a part of a list stay if the list is cut behind the part
pub part_of_take : {A : Type 0} (xs : List A) (k from size : ℕ) → from + size ≤ k → take size (drop from (take k xs)) ≡ take size (drop from xs)
part_of_take xs k from size within =
    let rest : from + (k - from) ≡ k = omega arith in
    ap (λ j. take size (drop from (take j xs))) (sym rest) ∙ ap (take size) (drop-take from (k - from) xs) ∙ take-take size (k - from) (drop from xs) (omega arith)

-- the elements of a part of a list stay if an element outside of the part is overwritten
pub part_of_set : {A : Type 0} (xs : List A) (i : ℕ) (x : A) (from size : ℕ) → (i < from) ⊎ (from + size ≤ i) → take size (drop from (slice_set xs i x)) ≡ take size (drop from xs)
part_of_set xs i x from size (inl before) = ap (take size) (drop-set-lt from xs i x before)
part_of_set xs i x from size (inr after) =
    let there : from + (i - from) ≡ i = omega arith in
    ap (λ j. take size (drop from (slice_set xs j x))) (sym there) ∙ ap (take size) (drop-set-add from xs (i - from) x) ∙ take-set-le size (drop from xs) (i - from) x (omega arith)
