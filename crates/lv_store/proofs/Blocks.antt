-- The cells of a block: its elements, with what is pending among them.
use Rattle.std.proofs.Common.{◌≡◌, ℕ, ℤ, pos, ◌+◌, ◌*◌, ◌/◌, ◌%◌, ◌<◌, ◌≤◌, ◌≢◌, if◌then◌else◌, Some, List, length, map, take, drop, get_or, set, nat_eq, refl, sym, ap, ◌∙◌, arith, inl, inr}
use Rattle.std.specs.List.{range_with_len}
use Rattle.std.proofs.lemmas.Bool.{cases_eq, cond-false, cond-true, eq-eqb, ne_eqb}
use Rattle.std.proofs.lemmas.List.{ext_get_or, get_or-drop, get_or-set_other, get_or-set_same, get_or-take, length-drop, length-set, length-take-le}
use Rattle.std.proofs.lemmas.List.FromFn.{get_or-map-range_with_len, length-map-range_with_len}
use Rattle.lv_store.specs.State.{indices_of, written}

-- neighbours in a list are what it has at their indices
pub part_is : {T : Type 0} (xs : List T) (a n : ℕ) (d : T) → a + n ≤ length xs → take n (drop a xs) ≡ map (λ i. get_or xs i d) (range_with_len a n)
part_is xs a n d inside =
    let long : length (take n (drop a xs)) ≡ n = length-take-le n (drop a xs) (omega (arith, length-drop a xs)) in
    ext_get_or d _ _ (long ∙ sym (length-map-range_with_len (λ i. get_or xs i d) a n)) (λ k below.
    let small : k < n = omega (arith, long) in
    get_or-take n (drop a xs) k d small ∙ get_or-drop a xs k d ∙ sym (get_or-map-range_with_len (λ i. get_or xs i d) a n k (a + k) d small refl))

-- functions that agree at some numbers have the same values there
pub same_at : {T : Type 0} (f g : ℕ → T) (a n : ℕ) (d : T) → ((i : ℕ) → a ≤ i → i < a + n → f i ≡ g i) → map f (range_with_len a n) ≡ map g (range_with_len a n)
same_at f g a n d same =
    ext_get_or d _ _ (length-map-range_with_len f a n ∙ sym (length-map-range_with_len g a n)) (λ k below.
    let small : k < n = omega (arith, length-map-range_with_len f a n) in
    get_or-map-range_with_len f a n k (a + k) d small refl ∙ same (a + k) (omega arith) (omega arith) ∙ sym (get_or-map-range_with_len g a n k (a + k) d small refl))

-- a value that is put among those of a function is that of the function that has it there
pub put_among : {T : Type 0} (f : ℕ → T) (a n j k : ℕ) (x d : T) → j < n → a + j ≡ k → set (map f (range_with_len a n)) j x ≡ map (λ i. if nat_eq k i then x else f i) (range_with_len a n)
put_among f a n j k x d inside at =
    let g = λ (i : ℕ). if nat_eq k i then x else f i in
    let long : length (set (map f (range_with_len a n)) j x) ≡ n = length-set (map f (range_with_len a n)) j x ∙ length-map-range_with_len f a n in
    ext_get_or d _ _ (long ∙ sym (length-map-range_with_len g a n)) (λ m below.
    let small : m < n = omega (arith, long) in
    elim (cases_eq m j) [
      | inl same ↦
          let there : k ≡ a + m = omega arith in
          ap (λ q. get_or (set (map f (range_with_len a n)) j x) q d) same
          ∙ get_or-set_same (map f (range_with_len a n)) j x d (omega (arith, length-map-range_with_len f a n))
          ∙ sym (get_or-map-range_with_len g a n m (a + m) d small refl ∙ cond-true _ _ _ (eq-eqb k (a + m) there))
      | inr other ↦
          get_or-set_other (map f (range_with_len a n)) j m x d other
          ∙ get_or-map-range_with_len f a n m (a + m) d small refl
          ∙ sym (get_or-map-range_with_len g a n m (a + m) d small refl ∙ cond-false _ _ _ (ne_eqb k (a + m) (λ same. other (omega arith))))
    ])

-- the elements of a block after a write that is in the block
pub written_among : (f : ℕ → ℤ) (w : ℕ × ℤ) (block : ℕ) → w.0 / 8 ≡ block → set (map f (indices_of block)) (w.0 % 8) w.1 ≡ map (λ i. written (Some w) i (f i)) (indices_of block)
written_among f w block there =
    put_among f (8 * block) 8 (w.0 % 8) w.0 w.1 (pos 0) (omega arith) (omega arith)

-- the elements of a block stay if a write isn't in the block
pub unwritten_among : (f : ℕ → ℤ) (w : ℕ × ℤ) (block : ℕ) → w.0 / 8 ≢ block → map f (indices_of block) ≡ map (λ i. written (Some w) i (f i)) (indices_of block)
unwritten_among f w block elsewhere =
    same_at f (λ i. written (Some w) i (f i)) (8 * block) 8 (pos 0) (λ i from below. sym (cond-false _ _ _ (ne_eqb w.0 i (λ same. elsewhere (omega arith)))))
