-- Seats with distinct numbers: how many there can be, and what all of them made together.
use Rattle.std.proofs.Common.{◌≡◌, ◌≢◌, ℕ, zero, suc, ◌+◌, ◌<◌, ◌≤◌, ◌||◌, true, false, nat_eq, List, [], ◌∷◌, ◌++◌, length, map, get_or, refl, sym, ap, ◌∙◌, subst, inl, inr, arith}
use Rattle.std.specs.Prelude.{◌⊎◌, All, slice_index_or}
use Rattle.std.proofs.lemmas.Cmp.{nat_eq_equiv}
use Rattle.std.specs.List.{AllByRecursion, IsDistinct, list_any, range_with_len, remove, sum_by}
use Rattle.std.proofs.lemmas.Bool.{cases_Bool, eq-eqb, eqb-true, false≢true, ne_eqb}
use Rattle.std.proofs.lemmas.List.{get_or-map, length-append, length-map, map-append}
use Rattle.std.proofs.lemmas.List.Elements.{All-cons, All-head, All-nil, All-push, All-tail}
use Rattle.std.proofs.lemmas.List.Folds.{list_any_at}
use Rattle.std.proofs.lemmas.List.FromFn.{get_or-range_with_len, length-range_with_len}
use Rattle.std.proofs.lemmas.List.Sums.{sum_by-cons}
use Rattle.std.proofs.lemmas.Map.Keys.{IsDistinct-from_apart, IsDistinct-head, IsDistinct-push, IsDistinct-tail}
use Rattle.std.proofs.lemmas.Map.Made.{length-le_from_is_member}
use Rattle.std.proofs.lemmas.Map.Steps.{length-le_from_distinct_below}
use Rattle.lv_machine.specs.declared.entries.Entry.{Entry}
use Rattle.lv_machine.specs.History.{IsLegalHistory, own}
use Rattle.lv_machine.specs.Terms.{Terms}
use Rattle.lv_board.specs.declared.actors.Actor.{Actor}
use Rattle.lv_board.specs.declared.seats.Seat.{Seat}
use Rattle.lv_board.specs.Tells.{actor_of}
use Rattle.lv_board.proofs.Advancing.{own-nil, own-other, own-same}

-- some of the seats of a board, with distinct numbers
pub record AreSome {B : Type 0} (count : ℕ) (seats : List (Seat B)) : Type 0 where
  pub below : All (λ s. (actor_of s).number < count) seats
  pub apart : IsDistinct nat_eq (map (λ s. (actor_of s).number) seats)

-- a number among some that are all below n is below n
among_below : (xs : List ℕ) (n q : ℕ) → All (λ x. x < n) xs → list_any (nat_eq q) xs ≡ true → q < n
among_below [] n q all any = absurd (false≢true any)
among_below (x ∷ xs) n q all any = elim (cases_Bool (nat_eq q x)) [
  | inl same ↦ subst (λ m. m < n) (sym (eqb-true q x same)) (All-head (λ m. m < n) x xs all)
  | inr other ↦ among_below xs n q (All-tail (λ m. m < n) x xs all) (ap (λ b. b || list_any (nat_eq q) xs) (sym other) ∙ any)
]

-- distinct numbers below n are at most n
few_below : (xs : List ℕ) (n : ℕ) → IsDistinct nat_eq xs → All (λ x. x < n) xs → length xs ≤ n
few_below xs n apart all = length-le_from_distinct_below xs n apart (λ q any. among_below xs n q all any)

-- if they are n, each number below n is among them
full_has : (xs : List ℕ) (n a : ℕ) → IsDistinct nat_eq xs → All (λ x. x < n) xs → length xs ≡ n → a < n → list_any (nat_eq a) xs ≡ true
full_has xs n a apart all long less = elim (cases_Bool (list_any (nat_eq a) xs)) [
  | inl has ↦ has
  | inr lacks ↦ absurd (omega (arith, long, length-append xs (a ∷ []), few_below (xs ++ a ∷ []) n (IsDistinct-push nat_eq_equiv xs a apart lacks) (All-push (λ x. x < n) xs a all less)))
]

-- the numbers below k are distinct
range_apart : (k : ℕ) → IsDistinct nat_eq (range_with_len 0 k)
range_apart k = IsDistinct-from_apart nat_eq (range_with_len 0 k) (λ i j d less within.
    let inside : j < k = omega (arith, length-range_with_len 0 k, within) in
    let before : i < k = omega arith in
    let first = get_or-range_with_len 0 k i d before in
    let second = get_or-range_with_len 0 k j d inside in
    let apart : get_or (range_with_len 0 k) i d ≢ get_or (range_with_len 0 k) j d = omega (arith, first, second) in
    ne_eqb (get_or (range_with_len 0 k) i d) (get_or (range_with_len 0 k) j d) apart)

-- numbers that have each number below k, and k too, have each number below k + 1
has_more : (xs : List ℕ) (k : ℕ) → ((n : ℕ) → n < k → list_any (nat_eq n) xs ≡ true) → list_any (nat_eq k) xs ≡ true → (n : ℕ) → n < suc k → list_any (nat_eq n) xs ≡ true
has_more xs k has here n less = elim (cases_Bool (nat_eq n k)) [
  | inl same ↦ subst (λ m. list_any (nat_eq m) xs ≡ true) (sym (eqb-true n k same)) here
  | inr other ↦
      let apart : n ≢ k = λ same. false≢true (sym other ∙ eq-eqb n k same) in
      has n (omega (arith, less, apart))
]

-- either numbers have each number below k, or one of these isn't among them
has_or_lacks : (xs : List ℕ) (k : ℕ) → ((n : ℕ) → n < k → list_any (nat_eq n) xs ≡ true) ⊎ ((n : ℕ) × (n < k) × (list_any (nat_eq n) xs ≡ false))
has_or_lacks xs zero = inl (λ n less. absurd (omega (arith, less)))
has_or_lacks xs (suc k) = elim (has_or_lacks xs k) [
  | inr lacks ↦ inr (lacks.0, omega (arith, lacks.1), lacks.2)
  | inl has ↦ elim (cases_Bool (list_any (nat_eq k) xs)) [
    | inl here ↦ inl (has_more xs k has here)
    | inr lacks ↦ inr (k, omega arith, lacks)
  ]
]

-- if they are fewer than k, one isn't among them
lacks_one : (xs : List ℕ) (k : ℕ) → length xs < k → (n : ℕ) × (n < k) × (list_any (nat_eq n) xs ≡ false)
lacks_one xs k few = elim (has_or_lacks xs k) [
  | inr lacks ↦ lacks
  | inl has ↦
      let below : All (λ x. x < k) (range_with_len 0 k) = λ i d within. omega (arith, get_or-range_with_len 0 k i d (omega (arith, length-range_with_len 0 k, within)), length-range_with_len 0 k, within) in
      absurd (omega (arith, few, length-range_with_len 0 k, length-le_from_is_member nat_eq_equiv (range_with_len 0 k) xs (range_apart k) (λ q any. has q (among_below (range_with_len 0 k) k q below any))))
]

-- if actors are fewer than the seats of a board, there is a seat with none of their numbers
pub seat_out : (count : ℕ) (left : List Actor) → length left < count → (n : ℕ) × (n < count) × All (λ x. x.number ≢ n) left
seat_out count left few =
    let long = length-map left (λ (x : Actor). x.number) in
    let out = lacks_one (map (λ (x : Actor). x.number) left) count (omega (arith, few, long)) in (
      out.0,
      out.1,
      λ i x within same.
          let here = get_or-map (λ (u : Actor). u.number) left i x 0 within ∙ same in
          false≢true (sym out.2 ∙ list_any_at (nat_eq out.0) (map (λ (u : Actor). u.number) left) i 0 (omega (arith, within, long)) (eq-eqb out.0 (get_or (map (λ (u : Actor). u.number) left) i 0) (sym here))),
    )

-- a number that differs from some is not among them
lacks_by : (xs : List ℕ) (a : ℕ) → AllByRecursion (λ y. nat_eq a y ≡ false) xs → list_any (nat_eq a) xs ≡ false
lacks_by [] a apart = refl
lacks_by (x ∷ xs) a (first, rest) = ap (λ b. b || list_any (nat_eq a) xs) first ∙ lacks_by xs a rest

-- an entry counts only for its own actor, and once
not_counted : (e : Entry) (h : List Entry) (xs : List ℕ) → list_any (nat_eq e.actor) xs ≡ false → sum_by (λ n. length (own n (e ∷ h))) xs ≡ sum_by (λ n. length (own n h)) xs
not_counted e h [] lacks = refl
not_counted e h (x ∷ xs) lacks = elim (cases_Bool (nat_eq e.actor x)) [
  | inl same ↦ absurd (false≢true (sym lacks ∙ ap (λ b. b || list_any (nat_eq e.actor) xs) same))
  | inr other ↦
      let apart : e.actor ≢ x = λ same. false≢true (sym other ∙ eq-eqb e.actor x same) in
      omega (arith, sum_by-cons (λ n. length (own n (e ∷ h))) x xs, sum_by-cons (λ n. length (own n h)) x xs, ap length (own-other x e h apart), not_counted e h xs (ap (λ b. b || list_any (nat_eq e.actor) xs) (sym other) ∙ lacks))
]

counted_once : (e : Entry) (h : List Entry) (xs : List ℕ) → IsDistinct nat_eq xs → list_any (nat_eq e.actor) xs ≡ true → sum_by (λ n. length (own n (e ∷ h))) xs ≡ 1 + sum_by (λ n. length (own n h)) xs
counted_once e h [] apart has = absurd (false≢true has)
counted_once e h (x ∷ xs) apart has = elim (cases_Bool (nat_eq e.actor x)) [
  | inl same ↦
      let here : e.actor ≡ x = eqb-true e.actor x same in
      let lacks = subst (λ a. list_any (nat_eq a) xs ≡ false) (sym here) (lacks_by xs x (IsDistinct-head nat_eq x xs apart)) in
      omega (arith, sum_by-cons (λ n. length (own n (e ∷ h))) x xs, sum_by-cons (λ n. length (own n h)) x xs, ap length (own-same x e h here), not_counted e h xs lacks)
  | inr other ↦
      let differs : e.actor ≢ x = λ same. false≢true (sym other ∙ eq-eqb e.actor x same) in
      omega (arith, sum_by-cons (λ n. length (own n (e ∷ h))) x xs, sum_by-cons (λ n. length (own n h)) x xs, ap length (own-other x e h differs), counted_once e h xs (IsDistinct-tail nat_eq x xs apart) (ap (λ b. b || list_any (nat_eq e.actor) xs) (sym other) ∙ has))
]

none_made : (xs : List ℕ) → sum_by (λ n. length (own n [])) xs ≡ 0
none_made [] = refl
none_made (x ∷ xs) = omega (arith, sum_by-cons (λ n. length (own n [])) x xs, ap length (own-nil x), none_made xs)

-- each entry is one of an actor's own
pub all_made : (t : Terms) (h : List Entry) (xs : List ℕ) → IsDistinct nat_eq xs → All (λ x. x < t.seats) xs → length xs ≡ t.seats → IsLegalHistory t h → length h ≡ sum_by (λ n. length (own n h)) xs
all_made t [] xs apart below long legal = sym (none_made xs)
all_made t (e ∷ h) xs apart below long (legal, next) = omega (arith, all_made t h xs apart below long legal, counted_once e h xs apart (full_has xs t.seats e.actor apart below long next.actor))

module _ {B : Type 0} where
  numbers_below : (count : ℕ) (seats : List (Seat B)) → All (λ s. (actor_of s).number < count) seats → All (λ n. n < count) (map (λ s. (actor_of s).number) seats)
  numbers_below count [] all = All-nil (λ n. n < count)
  numbers_below count (s ∷ seats) all = All-cons (λ n. n < count) (actor_of s).number (map (λ u. (actor_of u).number) seats) (All-head (λ u. (actor_of u).number < count) s seats all) (numbers_below count seats (All-tail (λ u. (actor_of u).number < count) s seats all))

  -- the numbers of some seats
  pub some_below : (count : ℕ) (seats : List (Seat B)) → AreSome count seats → All (λ n. n < count) (map (λ s. (actor_of s).number) seats)
  some_below count seats some = numbers_below count seats some.below

  lacks_number : (seats : List (Seat B)) (n : ℕ) → All (λ u. (actor_of u).number ≢ n) seats → list_any (nat_eq n) (map (λ u. (actor_of u).number) seats) ≡ false
  lacks_number [] n all = refl
  lacks_number (s ∷ seats) n all =
      let first : n ≢ (actor_of s).number = λ same. All-head (λ u. (actor_of u).number ≢ n) s seats all (sym same) in
      ap (λ b. b || list_any (nat_eq n) (map (λ u. (actor_of u).number) seats)) (ne_eqb n (actor_of s).number first) ∙ lacks_number seats n (All-tail (λ u. (actor_of u).number ≢ n) s seats all)

  -- one more seat is there
  pub some_more : (count : ℕ) (seats : List (Seat B)) (s : Seat B) → AreSome count seats → (actor_of s).number < count → All (λ u. (actor_of u).number ≢ (actor_of s).number) seats → AreSome count (seats ++ s ∷ [])
  some_more count seats s some less apart = record {
    below = All-push (λ u. (actor_of u).number < count) seats s some.below less;
    apart = subst (IsDistinct nat_eq) (sym (map-append (λ u. (actor_of u).number) seats (s ∷ [])))
        (IsDistinct-push nat_eq_equiv (map (λ u. (actor_of u).number) seats) (actor_of s).number some.apart (lacks_number seats (actor_of s).number apart));
  }

  -- therefore there was room for it
  pub some_few : (count : ℕ) (seats : List (Seat B)) → AreSome count seats → length seats ≤ count
  some_few count seats some = omega (arith, few_below (map (λ u. (actor_of u).number) seats) count some.apart (some_below count seats some), length-map seats (λ u. (actor_of u).number))

  pub room_for : (count : ℕ) (seats : List (Seat B)) (s : Seat B) → AreSome count seats → (actor_of s).number < count → All (λ u. (actor_of u).number ≢ (actor_of s).number) seats → length seats < count
  room_for count seats s some less apart = omega (arith, some_few count (seats ++ s ∷ []) (some_more count seats s some less apart), length-append seats (s ∷ []))

  -- the first seat is taken
  pub first_of : (seats rest : List (Seat B)) (s : Seat B) → 0 < length seats → s ≡ slice_index_or seats 0 s → rest ≡ remove seats 0 → seats ≡ s ∷ rest
  first_of [] rest s some is are = absurd (omega arith)
  first_of (u ∷ seats) rest s some is are = ap (λ v. v ∷ seats) (sym is) ∙ ap (λ l. s ∷ l) (sym are)

  others_differ : (n : ℕ) (seats : List (Seat B)) → AllByRecursion (λ y. nat_eq n y ≡ false) (map (λ u. (actor_of u).number) seats) → All (λ u. (actor_of u).number ≢ n) seats
  others_differ n [] apart = All-nil (λ u. (actor_of u).number ≢ n)
  others_differ n (s ∷ seats) (first, rest) = All-cons (λ u. (actor_of u).number ≢ n) s seats (λ same. false≢true (sym first ∙ eq-eqb n (actor_of s).number (sym same))) (others_differ n seats rest)

  pub first_apart : (count : ℕ) (s : Seat B) (rest : List (Seat B)) → AreSome count (s ∷ rest) → All (λ u. (actor_of u).number ≢ (actor_of s).number) rest
  first_apart count s rest some = others_differ (actor_of s).number rest (IsDistinct-head nat_eq (actor_of s).number (map (λ u. (actor_of u).number) rest) some.apart)

  pub some_rest : (count : ℕ) (s : Seat B) (rest : List (Seat B)) → AreSome count (s ∷ rest) → AreSome count rest
  some_rest count s rest some = record { below = All-tail (λ u. (actor_of u).number < count) s rest some.below; apart = IsDistinct-tail nat_eq (actor_of s).number (map (λ u. (actor_of u).number) rest) some.apart }
