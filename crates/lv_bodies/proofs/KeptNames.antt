-- The name that 16 bytes keep.
use Rattle.std.proofs.Common.{◌≡◌, ℕ, zero, suc, ◌-◌, ◌≤◌, true, false, not, cond, List, [], ◌∷◌, ◌++◌, length, take, drop, replicate, Option, Some, None, ltb, unwrap_or, refl, ap, ◌∙◌, arith, inl, inr, nat_eq}
use Rattle.std.specs.List.{list_all, position_or_len}
use Rattle.std.specs.Str.{bytes_eq}
use Rattle.std.proofs.lemmas.Bool.{and_parts, leb-true, cases_eq, ne_eqb, false≢true, cond-true, cases_lt, lt-ltb, le-ltb}
use Rattle.std.proofs.lemmas.List.{drop-replicate}
use Rattle.std.proofs.lemmas.List.Sums.{take_while-cons, prefix_len-le-length}
use Rattle.std.proofs.lemmas.Slice.Eq.{bytes_eq-Decides}
use Rattle.lv_bodies.specs.Names.{is_name_byte, IsName, kept_name, padded}

-- zero is no byte of a name
pub name_byte_not_zero : (b : ℕ) → is_name_byte b ≡ true → nat_eq b 0 ≡ false
name_byte_not_zero b h =
    elim (cases_eq b 0) [
      | inl none ↦ absurd (false≢true (rw none at h))
      | inr other ↦ ne_eqb b 0 other
    ]

-- zeros after the bytes of a name are left out
pub kept_before_zeros : (bytes : List ℕ) (n : ℕ) → list_all is_name_byte bytes ≡ true → kept_name (bytes ++ replicate n 0) ≡ bytes
kept_before_zeros [] zero h = refl
kept_before_zeros [] (suc n) h = refl
kept_before_zeros (b ∷ bytes) n h =
    let parts = and_parts (is_name_byte b) (list_all is_name_byte bytes) h in
    let some : not (nat_eq b 0) ≡ true = ap not (name_byte_not_zero b parts.0) in
    take_while-cons (λ x. not (nat_eq x 0)) b (bytes ++ replicate n 0)
    ∙ cond-true _ _ _ some
    ∙ ap (λ xs. b ∷ xs) (kept_before_zeros bytes n parts.1)

-- each byte of a name is one that a name may have
pub bytes_of_name : (name : List ℕ) → IsName name → list_all is_name_byte name ≡ true
bytes_of_name name h = (and_parts _ _ h).1

-- a name has at most 16 bytes
pub length_of_name : (name : List ℕ) → IsName name → length name ≤ 16
length_of_name name h = leb-true _ _ (and_parts _ _ (and_parts _ _ h).0).1

-- what a name is kept as keeps that name
pub kept-padded : (name : List ℕ) → IsName name → kept_name (padded name) ≡ name
kept-padded name h = kept_before_zeros name (16 - length name) (bytes_of_name name h)

-- bytes written over the front of 16 zeros are the name padded
pub padded_by_copy : (name copied : List ℕ) → copied ≡ name → copied ++ drop (length name) (replicate 16 0) ≡ padded name
padded_by_copy name copied same =
    ap (λ xs. xs ++ drop (length name) (replicate 16 0)) same ∙ ap (λ xs. name ++ xs) (drop-replicate (length name) 16 0)

-- names with equal bytes are equal, and others aren't
pub same_name : (name other : List ℕ) → (bytes_eq name other ≡ true → name ≡ other) × (name ≡ other → bytes_eq name other ≡ true)
same_name name other = bytes_eq-Decides name other

-- if there is no zero, all 16 bytes are the name's
pub kept_front : (bytes : List ℕ) (end : Option ℕ) → length bytes ≡ 16 → end ≡ cond (ltb (position_or_len (λ b. nat_eq b 0) bytes) (length bytes)) (Some (position_or_len (λ b. nat_eq b 0) bytes)) None → take (unwrap_or end 16) bytes ≡ kept_name bytes
kept_front bytes end long at =
    let first = position_or_len (λ b. nat_eq b 0) bytes in
    rw at (elim (cases_lt first (length bytes)) [
      | inl below ↦ ap (λ b. take (unwrap_or (cond b (Some first) None) 16) bytes) (lt-ltb _ _ below)
      | inr past ↦
          ap (λ b. take (unwrap_or (cond b (Some first) None) 16) bytes) (le-ltb _ _ past)
          ∙ (let same : 16 ≡ first = omega (arith, prefix_len-le-length (λ b. not (nat_eq b 0)) bytes) in ap (λ n. take n bytes) same)
    ])
