-- Queries by name: at most one has it. And when no note of an answer is due.
use Rattle.std.proofs.Common.{◌≡◌, ◌≢◌, ℕ, zero, suc, ◌<◌, Bool, true, false, cond, Option, Some, None, List, [], ◌∷◌, ◌++◌, filter, length, map, not, ◌&&◌, ap₂, ℤ, position, is_some, remove, get_or, take, drop, refl, sym, ap, ◌∙◌, inl, inr, arith, true≢false}
use Rattle.std.specs.Bool.{beq}
use Rattle.std.specs.Option.{option_eq}
use Rattle.std.specs.Ordering.{int_eq}
use Rattle.std.specs.List.{position_or_len}
use Rattle.std.specs.Str.{bytes_eq}
use Rattle.std.proofs.lemmas.Bool.Decides.{Decides-eqb, Decides-int_eq}
use Rattle.std.proofs.lemmas.Bool.{cases_Bool, cases_lt, cond-false, cond-true, lt-ltb}
use Rattle.std.proofs.lemmas.List.{drop-map, get_or-map, map-append, take-map}
use Rattle.std.proofs.lemmas.List.Quantifiers.{all_pairs_push, position-Some}
use Rattle.std.proofs.lemmas.List.Sums.{fails_before_first}
use Rattle.std.proofs.lemmas.Option.{none-some}
use Rattle.std.proofs.lemmas.Slice.Eq.{bytes_eq-Decides}
use Rattle.lv_geometry.specs.declared.refusals.Refusal.{Refusal}
use Rattle.lv_geometry.specs.declared.refusals.Refusal.TheVariants.{BadRange, NameTaken}
use Rattle.lv_bodies.specs.declared.kinds.Shown.{Shown}
use Rattle.lv_bodies.specs.declared.kinds.Shown.TheVariants.{Sum, Least, Greatest, Best, Affine, Automaton}
use Rattle.lv_tree.specs.declared.places.Bound.{Bound}
use Rattle.lv_standing.specs.declared.queries.Query.{Query}
use Rattle.lv_standing.specs.declared.spans.Span.{Span}
use Rattle.lv_standing.specs.Queries.{holds, is_backwards, is_due, query_of, same_value, span_refusal, without_query}
use Rattle.lv_standing.specs.Standings.{HaveOwnNames}

-- ---- one element of a list

module _ {X : Type 0} (p : X → Bool) where
  -- if no element passes the test, the filter keeps all
  all_stay : (xs : List X) → ((k : ℕ) (d : X) → k < length xs → p (get_or xs k d) ≡ false) → filter (λ x. not (p x)) xs ≡ xs
  all_stay [] none = refl
  all_stay (x ∷ xs) none =
      let here : p x ≡ false = none 0 x (omega arith) in
      rw here (ap (λ ys. x ∷ ys) (all_stay xs (λ k d within. none (suc k) d (omega arith))))

  -- if only one place passes the test, the filter removes that one
  one_goes : (xs : List X) (i : ℕ) → i < length xs → ((d : X) → p (get_or xs i d) ≡ true) → ((k : ℕ) (d : X) → k < length xs → k ≢ i → p (get_or xs k d) ≡ false)
      → filter (λ x. not (p x)) xs ≡ remove xs i
  one_goes [] i within here others = absurd (omega arith)
  one_goes (x ∷ xs) zero within here others =
      let goes : p x ≡ true = here x in
      rw goes (all_stay xs (λ k d below. others (suc k) d (omega arith) (λ same. absurd (omega (arith, same)))))
  one_goes (x ∷ xs) (suc i) within here others =
      let stays : p x ≡ false = others 0 x (omega arith) (λ same. absurd (omega (arith, same))) in
      rw stays (ap (λ ys. x ∷ ys) (one_goes xs i (omega arith) here (λ k d below other. others (suc k) d (omega arith) (λ same. other (omega (arith, same))))))

  -- if there is no such place, no element passes the test
  none_passes : (xs : List X) → position p xs ≡ None → (k : ℕ) (d : X) → k < length xs → p (get_or xs k d) ≡ false
  none_passes xs none k d within =
      elim (cases_lt (position_or_len p xs) (length xs)) [
        | inl some ↦ absurd (none-some (position_or_len p xs) (sym none ∙ cond-true _ _ _ (lt-ltb (position_or_len p xs) (length xs) some)))
        | inr past ↦ fails_before_first p xs k d (omega (arith, within, past))
      ]

-- removing an element from the list of a function's values
pub map_remove : {X Y : Type 0} (f : X → Y) (xs : List X) (i : ℕ) → remove (map f xs) i ≡ map f (remove xs i)
map_remove f xs i = ap (λ ys. ys ++ drop (suc i) (map f xs)) (take-map f i xs) ∙ ap (λ ys. map f (take i xs) ++ ys) (drop-map f (suc i) xs) ∙ sym (map-append f (take i xs) (drop (suc i) xs))

-- ---- names

module _ (name : List ℕ) where
  -- whether a query has the name
  abbrev has : Query → Bool
  has q = bytes_eq q.name name

  -- no query is found if and only if none has the name
  absent : (qs : List Query) → query_of qs name ≡ None → (k : ℕ) (d : Query) → k < length qs → has (get_or qs k d) ≡ false
  absent [] none k d within = absurd (omega arith)
  absent (q ∷ qs) none zero d within =
      elim (cases_Bool (has q)) [
        | inl same ↦ absurd (none-some q (sym none ∙ cond-true _ _ _ same))
        | inr other ↦ other
      ]
  absent (q ∷ qs) none (suc k) d within =
      elim (cases_Bool (has q)) [
        | inl same ↦ absurd (none-some q (sym none ∙ cond-true _ _ _ same))
        | inr other ↦ absent qs (sym (cond-false _ _ _ other) ∙ none) k d (omega arith)
      ]

  not_found : (qs : List Query) → ((k : ℕ) (d : Query) → k < length qs → has (get_or qs k d) ≡ false) → query_of qs name ≡ None
  not_found [] others = refl
  not_found (q ∷ qs) others = cond-false _ _ _ (others 0 q (omega arith)) ∙ not_found qs (λ k d within. others (suc k) d (omega arith))

  -- the first that has it is found
  found : (qs : List Query) (i : ℕ) (d : Query) → i < length qs → has (get_or qs i d) ≡ true → ((k : ℕ) → k < i → has (get_or qs k d) ≡ false)
      → query_of qs name ≡ Some (get_or qs i d)
  found [] i d within here before = absurd (omega arith)
  found (q ∷ qs) zero d within here before = cond-true _ _ _ here
  found (q ∷ qs) (suc i) d within here before = cond-false _ _ _ (before 0 (omega arith)) ∙ found qs i d (omega arith) here (λ k below. before (suc k) (omega arith))

  -- a place is one of a query
  pub place_within : (qs : List Query) (i : ℕ) → position has qs ≡ Some i → i < length qs
  place_within [] i at = absurd (none-some i at)
  place_within (q ∷ qs) i at = (position-Some has (q ∷ qs) i q at).0

  -- the query at the place of the name is the one that is found, and what a function gives is there too
  pub placed : {Y : Type 0} (f : Query → Y) (qs : List Query) (i : ℕ) (e : Y) → position has qs ≡ Some i → (q : Query) × (query_of qs name ≡ Some q) × (get_or (map f qs) i e ≡ f q)
  placed f [] i e at = absurd (none-some i at)
  placed f (q ∷ qs) i e at =
      let first = position-Some has (q ∷ qs) i q at in
      (get_or (q ∷ qs) i q, found (q ∷ qs) i q first.0 first.1 first.2, get_or-map f (q ∷ qs) i q e first.0)

  pub not_placed : (qs : List Query) → position has qs ≡ None → query_of qs name ≡ None
  not_placed qs none = not_found qs (none_passes has qs none)

  -- the others have other names
  others : (qs : List Query) (i : ℕ) → HaveOwnNames qs → position has qs ≡ Some i → (k : ℕ) (d : Query) → k < length qs → k ≢ i → has (get_or qs k d) ≡ false
  others qs i apart at k d below other =
      let first = position-Some has qs i d at in
      let its : (get_or qs i d).name ≡ name = (bytes_eq-Decides (get_or qs i d).name name).0 first.1 in
      elim (cases_Bool (has (get_or qs k d))) [
        | inl same ↦
            let too : (get_or qs k d).name ≡ name = (bytes_eq-Decides (get_or qs k d).name name).0 same in
            elim (cases_lt k i) [
              | inl before ↦ absurd (apart k i d before first.0 (too ∙ sym its))
              | inr past ↦ elim (cases_lt i k) [
                | inl behind ↦ absurd (apart i k d behind below (its ∙ sym too))
                | inr reached ↦ absurd (other (omega (arith, past, reached)))
              ]
            ]
        | inr differs ↦ differs
      ]

  -- without the query at that place none of the name is left
  pub without_placed : (qs : List Query) (i : ℕ) → HaveOwnNames qs → position has qs ≡ Some i → remove qs i ≡ without_query qs name
  without_placed qs i apart at = sym (one_goes has qs i (place_within qs i at) (λ d. (position-Some has qs i d at).1) (others qs i apart at))

-- names stay distinct after a query with a new name is added
pub apart_more : (qs : List Query) (q : Query) → HaveOwnNames qs → query_of qs q.name ≡ None → HaveOwnNames (qs ++ q ∷ [])
apart_more qs q apart none =
    all_pairs_push (λ a b. a.name ≢ b.name) qs q apart
    (λ k d within same. true≢false (sym ((bytes_eq-Decides (get_or qs k d).name q.name).1 same) ∙ absent q.name qs none k d within))

-- ---- refusals

-- the name of a query that isn't rejected is new
free_name : (qs : List Query) (name : List ℕ) (o : Option ℕ) (rest : Option Refusal) → position (has name) qs ≡ o → cond (is_some o) (Some NameTaken) rest ≡ None → query_of qs name ≡ None
free_name qs name None rest at free = not_placed name qs at
free_name qs name (Some i) rest at free = absurd (none-some NameTaken (sym free))

pub new_name : (most : ℕ) (qs : List Query) (name : List ℕ) (span : Span) → span_refusal most qs name span ≡ None → query_of qs name ≡ None
new_name most qs name span free =
    elim (cases_Bool (is_backwards span)) [
      | inl backwards ↦ absurd (none-some BadRange (sym free ∙ cond-true _ _ _ backwards))
      | inr order ↦ free_name qs name (position (has name) qs) _ refl (sym (cond-false _ _ _ order) ∙ free)
    ]

-- ---- notes

-- an answer is the same as itself
same_number : (x : Option ℤ) → option_eq int_eq x x ≡ true
same_number None = refl
same_number (Some n) = (Decides-int_eq n n).1 refl

same_answer : (v : Shown) → same_value v v ≡ true
same_answer (Sum n) = (Decides-eqb n n).1 refl
same_answer (Least x) = same_number x
same_answer (Greatest x) = same_number x
same_answer (Best x) = same_number x
same_answer (Affine a b) = ap₂ (λ p q. p && q) ((Decides-eqb a a).1 refl) ((Decides-eqb b b).1 refl)
same_answer (Automaton states) = (bytes_eq-Decides states states).1 refl

same_bool : (b : Bool) → beq b b ≡ true
same_bool true = refl
same_bool false = refl

-- so that no note of it is due where it stays
pub never_due : (bound : Option Bound) (v : Shown) → is_due bound v v ≡ false
never_due None v = ap not (same_answer v)
never_due (Some bound) v = ap not (same_bool (holds bound v))
