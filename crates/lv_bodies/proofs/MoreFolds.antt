-- Folds with one element more, and their bound.
use Rattle.std.proofs.Common.{◌≡◌, ℕ, ℤ, pos, ◌+◌, ◌<◌, List, length, take, slice_index_or, ap, sym, subst, ◌∙◌}
use Rattle.std.proofs.lemmas.List.Sums.{fold_more}
use Rattle.lv_bodies.specs.Body.{Operations, fold_of}

-- the fold of one element more
pub one_more : {S : Type 0} (o : Operations S) (xs : List ℤ) (i : ℕ) (s t : S) (x : ℤ) → i < length xs → s ≡ fold_of o (take i xs) → x ≡ slice_index_or xs i (pos 0) → t ≡ o.join s (o.lift x) → t ≡ fold_of o (take (i + 1) xs)
one_more o xs i s t x within so_far is joined =
    rw (joined, so_far, is) (sym (fold_more (λ r y. o.join r (o.lift y)) o.identity xs i (pos 0) within))

-- a summary with one element more, which the code reads as y, keeps the bound that it keeps with the element itself
pub more_within : {S : Type 0} (o : Operations S) (within : S → ℕ → Type 0) (s t : S) (x y : ℤ) (n : ℕ) → y ≡ x → t ≡ o.join s (o.lift y) → within (o.join s (o.lift x)) n → within t n
more_within o within s t x y n e f = subst (λ u. within u n) (sym (f ∙ ap (λ z. o.join s (o.lift z)) e))
