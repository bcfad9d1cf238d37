-- Seats in the order of their numbers: those of a new board, those after calls that keep each seat at its place, and what a close requires.
use Rattle.std.proofs.Common.{◌≡◌, ◌≢◌, ℕ, ◌<◌, nat_eq, List, [], ◌∷◌, length, map, IfSome, get_or, sym, ap, ◌∙◌, subst, arith}
use Rattle.std.specs.List.{IsDistinct, range_with_len}
use Rattle.std.proofs.lemmas.Bool.{ne_eqb}
use Rattle.std.proofs.lemmas.List.{get_or-map, length-map, map-id}
use Rattle.std.proofs.lemmas.List.Elements.{All-nil}
use Rattle.std.proofs.lemmas.List.FromFn.{fill_by_all}
use Rattle.std.proofs.lemmas.Map.Keys.{IsDistinct-from_apart}
use Rattle.std.proofs.lemmas.List.Sorted.{IsPermutation-refl}
use Rattle.std.specs.List.Sorted.{IsPermutation}
use Rattle.std.proofs.lemmas.Option.{slice_get-get_or}
use Rattle.atomic_table.specs.Seated.{TableId}
use Rattle.lv_board.specs.declared.actors.Actor.{Actor}
use Rattle.lv_board.specs.declared.actors.Basis.{Basis}
use Rattle.lv_board.specs.declared.seats.Seat.{Seat}
use Rattle.lv_board.specs.Closing.{AreAll, AreAt, IsStill}
use Rattle.lv_board.specs.Opening.{AreDealt}
use Rattle.lv_board.specs.Ordered.{AreInOrder}
use Rattle.lv_board.specs.Rule.{newcomer}
use Rattle.lv_board.specs.Tells.{actor_of, IsAt}
use Rattle.lv_board.proofs.Still.{still_at}
use Rattle.lv_board.proofs.Numbers.{AreSome}

module _ {B : Type 0} (table : TableId) (z : Basis B) where
  -- the seats of a new board
  pub dealt_order : (seats : List (Seat B)) → length seats ≡ z.seats → AreDealt table z seats → AreInOrder table z seats
  dealt_order seats count dealt = record {
    count = count;
    each = λ k s within.
        let found = subst (λ o. IfSome o (λ u. IsAt table z u × (actor_of u ≡ newcomer k))) (slice_get-get_or seats k s within) (dealt k within) in
        (found.0, ap (λ (a : Actor). a.number) found.1);
  }

  -- the seats after calls
  pub still_order : (seats after : List (Seat B)) → length after ≡ length seats → AreInOrder table z seats → ((k : ℕ) (s : Seat B) → k < length seats → IsStill (get_or seats k s) (get_or after k s)) → AreInOrder table z after
  still_order seats after same order still = record {
    count = same ∙ order.count;
    each = λ k s within.
        let inside = subst (λ n. k < n) same within in
        let was = order.each k s inside in
        let is = still k s inside in
        (still_at table z (get_or seats k s) (get_or after k s) was.0 is, is.number ∙ was.1);
  }

  -- what a close requires of them
  pub order_at : (seats : List (Seat B)) → AreInOrder table z seats → AreAt table z seats
  order_at seats order = λ k s within. (order.each k s within).0

  order_from : (seats : List (Seat B)) → Seat B → AreInOrder table z seats → AreAll z.seats seats
  order_from seats s order =
      let numbers : map (λ u. (actor_of u).number) seats ≡ map (λ (k : ℕ). k) (range_with_len 0 z.seats) =
      fill_by_all (λ (k : ℕ). k) (map (λ u. (actor_of u).number) seats) z.seats 0 (length-map seats (λ u. (actor_of u).number) ∙ order.count)
      (λ k within. let inside = subst (λ n. k < n) (sym order.count) within in get_or-map (λ u. (actor_of u).number) seats k s 0 inside ∙ (order.each k s inside).1) in
      subst (IsPermutation (range_with_len 0 z.seats)) (sym (numbers ∙ map-id (range_with_len 0 z.seats))) (IsPermutation-refl (range_with_len 0 z.seats))

  pub order_all : (seats : List (Seat B)) → AreInOrder table z seats → AreAll z.seats seats
  order_all [] order = subst (λ n. IsPermutation (range_with_len 0 n) []) order.count (IsPermutation-refl [])
  order_all (s ∷ rest) order = order_from (s ∷ rest) s order

  -- their numbers are distinct
  some_from : (seats : List (Seat B)) → Seat B → AreInOrder table z seats → IsDistinct nat_eq (map (λ u. (actor_of u).number) seats)
  some_from seats s order = IsDistinct-from_apart nat_eq (map (λ u. (actor_of u).number) seats) (λ i j d less within.
      let inside : j < length seats = subst (λ n. j < n) (length-map seats (λ u. (actor_of u).number)) within in
      let before : i < length seats = omega arith in
      let first = get_or-map (λ u. (actor_of u).number) seats i s d before ∙ (order.each i s before).1 in
      let second = get_or-map (λ u. (actor_of u).number) seats j s d inside ∙ (order.each j s inside).1 in
      let apart : get_or (map (λ u. (actor_of u).number) seats) i d ≢ get_or (map (λ u. (actor_of u).number) seats) j d = omega (arith, first, second) in
      ne_eqb (get_or (map (λ u. (actor_of u).number) seats) i d) (get_or (map (λ u. (actor_of u).number) seats) j d) apart)

  pub order_some : (seats : List (Seat B)) → AreInOrder table z seats → AreSome z.seats seats
  order_some [] order = record { below = All-nil (λ s. (actor_of s).number < z.seats); apart = IsDistinct-from_apart nat_eq [] (λ i j d less within. absurd (omega arith)) }
  order_some (s ∷ rest) order = record {
    below = λ k u within. omega (arith, (order.each k u within).1, order.count);
    apart = some_from (s ∷ rest) s order;
  }
