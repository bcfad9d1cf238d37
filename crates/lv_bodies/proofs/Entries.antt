-- When a table has an entry above 7, and when it has none.
use Rattle.std.proofs.Common.{◌≡◌, ℕ, suc, ◌<◌, ◌≤◌, Bool, true, false, ◌&&◌, nat_lt, List, [], ◌∷◌, All, refl, arith, subst}
use Rattle.std.specs.Prelude.{Any}
use Rattle.std.specs.List.{list_all}
use Rattle.std.proofs.lemmas.Bool.{ltb-false}
use Rattle.lv_bodies.specs.Tables.{has_states}

-- what holds of the first element holds of some
Any-head : {X : Type 0} (P : X → Type 0) (x : X) (xs : List X) → P x → Any P (x ∷ xs)
Any-head P x xs h = (0, x, omega arith, refl, h)

-- what holds of some element holds of some behind one more
Any-cons : {X : Type 0} (P : X → Type 0) (x : X) (xs : List X) → Any P xs → Any P (x ∷ xs)
Any-cons P x xs h = (suc h.0, h.1, omega (arith, h.2), h.3, h.4)

-- what follows of each follows of some
Any-weaker : {X : Type 0} (P Q : X → Type 0) → ((x : X) → P x → Q x) → (xs : List X) → Any P xs → Any Q xs
Any-weaker P Q f xs h = (h.0, h.1, h.2, h.3, f h.1 h.4)

-- if not all elements pass a test, the first or some later one fails it
first_or_later : {X : Type 0} (p : X → Bool) (x : X) (xs : List X) (b c : Bool) → p x ≡ b → (c ≡ false → Any (λ y. p y ≡ false) xs) → (b && c) ≡ false → Any (λ y. p y ≡ false) (x ∷ xs)
first_or_later p x xs true c d later e = Any-cons (λ y. p y ≡ false) x xs (later e)
first_or_later p x xs false c d later e = Any-head (λ y. p y ≡ false) x xs d

-- if not all elements pass a test, some element fails it
some_fails : {X : Type 0} (p : X → Bool) (xs : List X) → list_all p xs ≡ false → Any (λ x. p x ≡ false) xs
some_fails p [] e = absurd (cc)
some_fails p (x ∷ xs) e = first_or_later p x xs (p x) (list_all p xs) refl (some_fails p xs) e

-- a table that has more than states in its rows has an entry above 7
pub some_above : (table : List (List ℕ)) → has_states table ≡ false → Any (Any (λ q. 7 < q)) table
some_above table e =
    Any-weaker (λ row. list_all (λ q. nat_lt q 8) row ≡ false) (Any (λ q. 7 < q))
    (λ row d. Any-weaker (λ q. nat_lt q 8 ≡ false) (λ q. 7 < q) (λ q h. ltb-false q 8 h) row (some_fails (λ q. nat_lt q 8) row d))
    table (some_fails (λ row. list_all (λ q. nat_lt q 8) row) table e)

-- no table has an entry above 7 if each is at most 7
pub none_above : (table : List (List ℕ)) → All (All (λ q. q ≤ 7)) table → Any (Any (λ q. 7 < q)) table → ⊥
none_above table h a =
    let (q, s, within, is, above) = a.4 in
    let small = subst (All (λ r. r ≤ 7)) a.3 (h a.0 a.1 a.2) q s within in
    omega (arith, small, is, above)
