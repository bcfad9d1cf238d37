-- Seats of a new board, taken one by one from the end.
use Rattle.std.proofs.Common.{◌≡◌, ℕ, zero, suc, ◌<◌, List, [], ◌∷◌, ◌++◌, length, IfSome, slice_get, get_or, arith, refl}
use Rattle.std.proofs.lemmas.Option.{slice_get-get_or}

module _ {X : Type 0} where
  -- the last of a list with one element behind it, and those before it
  inside : (xs : List X) (x : X) → length xs < length (xs ++ x ∷ [])
  inside [] x = omega arith
  inside (y ∷ xs) x = let less = inside xs x in omega arith

  last_of : (xs : List X) (x d : X) → get_or (xs ++ x ∷ []) (length xs) d ≡ x
  last_of [] x d = refl
  last_of (y ∷ xs) x d = last_of xs x d

  front_of : (xs ys : List X) (k : ℕ) (d : X) → k < length xs → get_or (xs ++ ys) k d ≡ get_or xs k d
  front_of [] ys k d less = absurd (omega arith)
  front_of (y ∷ xs) ys zero d less = refl
  front_of (y ∷ xs) ys (suc k) d less = front_of xs ys k d (omega arith)

  -- what holds at each index holds of the last element, and at each index of the others
  pub each_popped : (P : X → Type 0) (old new : List X) (x : X) → old ≡ new ++ x ∷ [] → ((k : ℕ) (d : X) → k < length old → P (get_or old k d))
      → P x × ((k : ℕ) (d : X) → k < length new → P (get_or new k d))
  each_popped P old new x is each =
      let all : (k : ℕ) (d : X) → k < length (new ++ x ∷ []) → P (get_or (new ++ x ∷ []) k d) = rw is at each in
      let less = inside new x in (
        rw (last_of new x x) at (all (length new) x less),
        λ k d within. rw (front_of new (x ∷ []) k d within) at (all k d (omega arith)),
      )

  -- what holds of the element that is found at each index
  pub each_found : (P : X → Type 0) (Q : ℕ → X → Type 0) → ((k : ℕ) (x : X) → Q k x → P x) → (xs : List X) → ((k : ℕ) → k < length xs → IfSome (slice_get xs k) (Q k))
      → (k : ℕ) (d : X) → k < length xs → P (get_or xs k d)
  each_found P Q then xs each k d within = then k (get_or xs k d) (rw (slice_get-get_or xs k d within) at (each k within))
