-- That the fold of two bodies side by side is the pair of their folds.
use Rattle.std.proofs.Common.{◌≡◌, ℤ, List, [], ◌∷◌, fold, refl}
use Rattle.lv_bodies.specs.Body.{Operations, fold_of}
use Rattle.lv_bodies.specs.Pairs.{pair_operations}

-- two folds that go on side by side are a fold that goes on
pairs_along : {S T : Type 0} (o : Operations S) (p : Operations T) (s : S) (t : T) (xs : List ℤ)
    → fold (λ r x. (pair_operations o p).join r ((pair_operations o p).lift x)) (s, t) xs ≡ (fold (λ r x. o.join r (o.lift x)) s xs, fold (λ r x. p.join r (p.lift x)) t xs)
pairs_along o p s t [] = refl
pairs_along o p s t (x ∷ xs) = pairs_along o p (o.join s (o.lift x)) (p.join t (p.lift x)) xs

-- two folds side by side are the fold of both
pub fold_of-pair : {S T : Type 0} (o : Operations S) (p : Operations T) (xs : List ℤ) → fold_of (pair_operations o p) xs ≡ (fold_of o xs, fold_of p xs)
fold_of-pair o p xs = pairs_along o p o.identity p.identity xs
