-- Queries found by an index of their names.
use Rattle.std.proofs.Common.{◌≡◌, ℕ, Bool, false, cond, ◌||◌, not, Some, None, List, [], ◌∷◌, ◌++◌, length, map, position, remove, refl, sym, ap, ap₂, ◌∙◌, ◌≤◌, ◌+◌, inl, inr, arith}
use Rattle.std.specs.Prelude.{nat_lt}
use Rattle.std.specs.List.{list_any, position_or_len}
use Rattle.std.specs.Str.{bytes_eq}
use Rattle.std.proofs.lemmas.Bool.{cases_Bool, cond-false, cond-true, cases_lt, lt-ltb}
use Rattle.std.proofs.lemmas.List.{length-map, map-append}
use Rattle.std.proofs.lemmas.Option.{none-some}
use Rattle.std.proofs.lemmas.Slice.Eq.{bytes_eq-Decides}
use Rattle.indexmap.proofs.SetLemmas.{map-remove}
use Rattle.indexmap.specs.IndexSet.{insert_key}
use Rattle.lv_standing.specs.declared.questions.Terms.{Terms}
use Rattle.lv_standing.specs.QuerySets.{name_of, place_of}

-- texts are compared in either order
either_order : (a b : List ℕ) → bytes_eq a b ≡ bytes_eq b a
either_order a b =
    elim (cases_Bool (bytes_eq b a)) [
      | inl same ↦ (bytes_eq-Decides a b).1 (sym ((bytes_eq-Decides b a).0 same)) ∙ sym same
      | inr other ↦ elim (cases_Bool (bytes_eq a b)) [
        | inl same ↦ same ∙ sym ((bytes_eq-Decides b a).1 (sym ((bytes_eq-Decides a b).0 same)))
        | inr differs ↦ differs ∙ sym other
      ]
    ]

module _ {Q : Type 0} (terms_of : Q → Terms) (name : List ℕ) where
  same_length : (qs : List Q) → position_or_len (bytes_eq name) (map (name_of terms_of) qs) ≡ position_or_len (λ q. bytes_eq (name_of terms_of q) name) qs
  same_length [] = refl
  same_length (q ∷ qs) = ap₂ (λ b n. cond (not b) (1 + n) 0) (either_order name (name_of terms_of q)) (same_length qs)

  -- a name is at the place of the query that has it
  pub at_its_place : (qs : List Q) (keys : List (List ℕ)) → keys ≡ map (name_of terms_of) qs → position (bytes_eq name) keys ≡ place_of terms_of qs name
  at_its_place qs keys are =
      ap (position (bytes_eq name)) are
      ∙ ap₂ (λ at many. cond (nat_lt at many) (Some at) None) (same_length qs) (length-map qs (name_of terms_of))

module _ {X : Type 0} (p : X → Bool) where
  none_here : (xs : List X) → length xs ≤ position_or_len p xs → list_any p xs ≡ false
  none_here [] past = refl
  none_here (x ∷ xs) past =
      elim (cases_Bool (p x)) [
        | inl here ↦
            let first : position_or_len p (x ∷ xs) ≡ 0 = ap (λ b. cond (not b) (1 + position_or_len p xs) 0) here in
            absurd (omega (arith, first, past))
        | inr other ↦
            let later : position_or_len p (x ∷ xs) ≡ 1 + position_or_len p xs = ap (λ b. cond (not b) (1 + position_or_len p xs) 0) other in
            ap (λ b. b || list_any p xs) other ∙ none_here xs (omega (arith, later, past))
      ]

  -- what has no place is not there
  pub not_there : (xs : List X) → position p xs ≡ None → list_any p xs ≡ false
  not_there xs none =
      elim (cases_lt (position_or_len p xs) (length xs)) [
        | inl some ↦ absurd (none-some (position_or_len p xs) (sym none ∙ cond-true _ _ _ (lt-ltb (position_or_len p xs) (length xs) some)))
        | inr past ↦ none_here xs (omega (arith, past))
      ]

module _ {Q : Type 0} (terms_of : Q → Terms) (qs : List Q) (keys : List (List ℕ)) where
  -- a name without a place goes behind the others
  pub name_added : (q : Q) (name : List ℕ) (more : List (List ℕ)) → keys ≡ map (name_of terms_of) qs → name ≡ name_of terms_of q → place_of terms_of qs (name_of terms_of q) ≡ None
      → more ≡ insert_key bytes_eq keys name → more ≡ map (name_of terms_of) (qs ++ q ∷ [])
  name_added q name more are is free added =
      let new : list_any (bytes_eq (name_of terms_of q)) keys ≡ false = not_there (bytes_eq (name_of terms_of q)) keys (at_its_place terms_of (name_of terms_of q) qs keys are ∙ free) in
      added ∙ ap (insert_key bytes_eq keys) is ∙ cond-false _ _ _ new ∙ ap (λ ks. ks ++ name_of terms_of q ∷ []) are ∙ sym (map-append (name_of terms_of) qs (q ∷ []))

  -- the name at a place goes with its query
  pub name_removed : (i : ℕ) (fewer : List (List ℕ)) → keys ≡ map (name_of terms_of) qs → fewer ≡ remove keys i → fewer ≡ map (name_of terms_of) (remove qs i)
  name_removed i fewer are removed = removed ∙ ap (λ ks. remove ks i) are ∙ sym (map-remove (name_of terms_of) qs i)
