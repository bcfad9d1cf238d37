-- What holds of the elements of lists that are made of others, and which these are.
use Rattle.std.specs.Prelude.{◌≡◌, ◌⊎◌, ℕ, ◌<◌, List, [], ◌∷◌, map, All, Contains, refl}
use Rattle.std.specs.List.{flat_map, range_with_len}
use Rattle.std.proofs.Common.{arith, zero, suc, ap, sym, ◌∙◌, subst, inl, inr}
use Rattle.std.proofs.lemmas.List.{get_or-map, length-map}
use Rattle.std.proofs.lemmas.List.Elements.{All-nil, All-head, All-tail, All-append, Contains-append_left, Contains-append_right}
use Rattle.std.proofs.lemmas.List.FromFn.{length-range_with_len, get_or-range_with_len}

-- one map after another is a map
pub map-map : {X Y Z : Type 0} (f : X → Y) (g : Y → Z) (xs : List X) → map g (map f xs) ≡ map (λ x. g (f x)) xs
map-map f g [] = refl
map-map f g (x ∷ xs) = ap (λ ys. g (f x) ∷ ys) (map-map f g xs)

-- maps that agree at each element of a list map it alike
pub map_alike : {X Y : Type 0} (f g : X → Y) (xs : List X) → All (λ x. f x ≡ g x) xs → map f xs ≡ map g xs
map_alike f g [] h = refl
map_alike f g (x ∷ xs) h =
    ap (λ y. y ∷ map f xs) (All-head (λ z. f z ≡ g z) x xs h) ∙ ap (λ ys. g x ∷ ys) (map_alike f g xs (All-tail (λ z. f z ≡ g z) x xs h))

-- the first element is an element
pub Contains-head : {X : Type 0} (x : X) (xs : List X) → Contains (x ∷ xs) x
Contains-head x xs = (0, omega arith, refl)

-- what a list contains it contains behind one more
pub Contains-cons : {X : Type 0} (y x : X) (xs : List X) → Contains xs x → Contains (y ∷ xs) x
Contains-cons y x xs h = Contains-append_right (y ∷ []) xs x h

-- the first of a list, or an element of the rest, is an element
pub Contains-first : {X : Type 0} (x y : X) (xs : List X) → (y ≡ x) ⊎ Contains xs y → Contains (x ∷ xs) y
Contains-first x y xs (inl e) = subst (λ z. Contains (x ∷ xs) z) (sym e) (Contains-head x xs)
Contains-first x y xs (inr h) = Contains-cons x y xs h

-- what an element is mapped to is an element
pub Contains-map : {X Y : Type 0} (f : X → Y) (xs : List X) (x : X) → Contains xs x → Contains (map f xs) (f x)
Contains-map f xs x h = (h.0, omega (arith, h.1, length-map xs f), get_or-map f xs h.0 x (f x) h.1 ∙ ap f h.2)

-- an element of a piece is an element of the pieces joined
pub Contains-flat_map : {X Y : Type 0} (f : X → List Y) (xs : List X) (x : X) (y : Y) → Contains xs x → Contains (f x) y → Contains (flat_map f xs) y
Contains-flat_map f [] x y h k = absurd (omega (arith, h.1))
Contains-flat_map f (z ∷ xs) x y (zero, within, is) k = Contains-append_left (f z) (flat_map f xs) y (subst (λ w. Contains (f w) y) (sym is) k)
Contains-flat_map f (z ∷ xs) x y (suc n, within, is) k =
    Contains-append_right (f z) (flat_map f xs) y (Contains-flat_map f xs x y (n, omega arith, is) k)

-- a number below n is among the first n numbers
pub Contains-range : (i n : ℕ) → i < n → Contains (range_with_len 0 n) i
Contains-range i n h = (i, omega (arith, length-range_with_len 0 n), get_or-range_with_len 0 n i i h ∙ omega arith)

-- what holds of each element of each piece holds of the pieces joined
pub All-flat_map : {X Y : Type 0} (P : Y → Type 0) (f : X → List Y) (xs : List X) → All (λ x. All P (f x)) xs → All P (flat_map f xs)
All-flat_map P f [] h = All-nil P
All-flat_map P f (x ∷ xs) h =
    All-append P (f x) (flat_map f xs) (All-head (λ y. All P (f y)) x xs h) (All-flat_map P f xs (All-tail (λ y. All P (f y)) x xs h))

-- what holds of each number below n holds of the first n numbers
pub All-range : (P : ℕ → Type 0) (n : ℕ) → ((i : ℕ) → i < n → P i) → All P (range_with_len 0 n)
All-range P n h k d within =
    let below : k < n = omega (arith, length-range_with_len 0 n) in
    subst P (sym (get_or-range_with_len 0 n k d below ∙ omega arith)) (h k below)
