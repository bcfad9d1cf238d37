-- The fold of a list by halves.
use Rattle.std.proofs.Common.{◌≡◌, ℕ, ℤ, ◌^◌, ◌≤◌, Some, List, ◌++◌, length, take, drop, All, ap, sym, subst, ◌∙◌}
use Rattle.std.proofs.lemmas.List.{take-append-drop}
use Rattle.std.proofs.lemmas.List.Elements.{All-append}
use Rattle.lv_geometry.specs.Elements.{IsElement}
use Rattle.lv_bodies.specs.Body.{Operations, BodyLaws, fold_of}
use Rattle.lv_bodies.specs.FoldLaws.{fold_of-append}
use Rattle.lv_bodies.specs.Extremes.{OrderLaws, IsExtreme, extreme_operations}
use Rattle.lv_bodies.specs.ExtremeLaws.{extreme_laws}

-- what holds of each element of a list up to some place, and of each after it, holds of each
pub all_of-halves : (n : ℕ) (xs front back : List ℤ) → front ≡ take n xs → back ≡ drop n xs → All IsElement front → All IsElement back → All IsElement xs
all_of-halves n xs front back is_front is_back p q =
    subst (All IsElement) (ap (λ ys. ys ++ back) is_front ∙ ap (λ ys. take n xs ++ ys) is_back ∙ take-append-drop n xs) (All-append IsElement front back p q)

-- the fold of a list is that of its first n elements joined with that of the rest
pub fold_of-halves : {S : Type 0} (o : Operations S) (within : S → ℕ → Type 0) → BodyLaws o within → (n : ℕ) (xs front back : List ℤ) (s t u : S)
    → length xs ≤ 2 ^ 20 → front ≡ take n xs → back ≡ drop n xs → All IsElement front → All IsElement back → s ≡ fold_of o front → t ≡ fold_of o back → u ≡ o.join s t → u ≡ fold_of o xs
fold_of-halves o within laws n xs front back s t u few is_front is_back p q e f g =
    let whole : front ++ back ≡ xs = ap (λ ys. ys ++ back) is_front ∙ ap (λ ys. take n xs ++ ys) is_back ∙ take-append-drop n xs in
    let all : All IsElement (front ++ back) = All-append IsElement front back p q in
    let short : length (front ++ back) ≤ 2 ^ 20 = subst (λ ys. length ys ≤ 2 ^ 20) (sym whole) few in
    g ∙ ap (λ r. o.join r t) e ∙ ap (o.join (fold_of o front)) f
    ∙ sym (fold_of-append o within laws front back record { few = short; elements = all }) ∙ ap (fold_of o) whole

-- the first of a list by an order is the first of those of its halves, which the code reads as v and w
pub first_of-halves : (first : ℤ → ℤ → ℤ) (last : ℤ) → OrderLaws first last → (n : ℕ) (xs front back : List ℤ) (a b c v w : ℤ)
    → length xs ≤ 2 ^ 20 → front ≡ take n xs → back ≡ drop n xs → All IsElement front → All IsElement back
    → Some a ≡ fold_of (extreme_operations first) front → Some b ≡ fold_of (extreme_operations first) back → v ≡ a → w ≡ b → c ≡ first v w → Some c ≡ fold_of (extreme_operations first) xs
first_of-halves first last order n xs front back a b c v w few is_front is_back p q e f g h k =
    fold_of-halves (extreme_operations first) IsExtreme (extreme_laws first last order) n xs front back (Some a) (Some b) (Some c)
    few is_front is_back p q e f (ap Some (k ∙ ap (λ z. first z w) g ∙ ap (first a) h))
