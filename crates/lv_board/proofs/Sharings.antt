-- A shared board: its opening and its close.
use Rattle.std.proofs.Common.{◌≡◌, ℕ, ℤ, List, [], ◌∷◌, ◌++◌, length, map, IfOk, IfErr, IfSome, Result, Ok, Err, inr, refl, sym, ap, ◌∙◌, subst, arith}
use Rattle.std.specs.Arc.{arc_value}
use Rattle.std.specs.List.{All, range_with_len, sum_by}
use Rattle.std.proofs.lemmas.List.{get_or-map, length-map, map-append}
use Rattle.std.proofs.lemmas.List.Elements.{All-map}
use Rattle.std.proofs.lemmas.List.FromFn.{fill_by_all}
use Rattle.std.proofs.lemmas.List.Sums.{sum_by-cons}
use Rattle.std.proofs.lemmas.Option.{slice_get-get_or}
use Rattle.atomic_table.specs.Seated.{TableId}
use Rattle.lv_geometry.specs.Bounds.{Bounds}
use Rattle.lv_geometry.specs.declared.refusals.Refusal.{Refusal}
use Rattle.lv_geometry.specs.declared.refusals.Refusal.TheVariants.{NoMemory}
use Rattle.lv_bodies.specs.declared.kinds.Kind.{Kind}
use Rattle.lv_bodies.specs.declared.kinds.Shown.{Shown}
use Rattle.lv_machine.specs.History.{own}
use Rattle.lv_machine.specs.Terms.{Folding, Terms}
use Rattle.lv_board.specs.declared.actors.Actor.{Actor}
use Rattle.lv_board.specs.declared.actors.Basis.{Basis}
use Rattle.lv_board.specs.declared.board.Board.{Board}
use Rattle.lv_board.specs.declared.remains.Closed.{Closed}
use Rattle.lv_board.specs.declared.opened.Opened.{Opened}
use Rattle.lv_board.specs.declared.seats.Seat.{Seat}
use Rattle.lv_board.specs.Closing.{IsKept}
use Rattle.lv_board.specs.Ended.{IsEnded}
use Rattle.lv_board.specs.Opening.{AreDealt, IsBasisOf, IsOpeningRefusal, MayOpen}
use Rattle.lv_board.specs.Rule.{newcomer, terms_of}
use Rattle.lv_board.specs.Sharing.{IsClosedShared, IsNewlyShared, Shared, shared_of}
use Rattle.lv_board.specs.Tells.{actor_of, IsAt}
use Rattle.lv_board.proofs.Closes.{known_total}
use Rattle.lv_board.proofs.Numbers.{AreSome, all_made, some_below}

sum_of_actors : {B : Type 0} (f : Actor → ℕ) (seats : List (Seat B)) → sum_by f (map actor_of seats) ≡ sum_by (λ s. f (actor_of s)) seats
sum_of_actors f [] = refl
sum_of_actors f (s ∷ seats) = omega (arith, sum_by-cons f (actor_of s) (map actor_of seats), sum_by-cons (λ u. f (actor_of u)) s seats, sum_of_actors f seats)

-- what is closed if all seats were there
pub closed_shared : {B : Type 0} (old : Shared) (t : Terms) (seats : List (Seat B)) (closed : Closed) → t ≡ old.terms → map actor_of seats ≡ old.left → AreSome old.terms.seats seats → length seats ≡ old.terms.seats → IsEnded t seats closed → IsClosedShared old closed
closed_shared old t seats closed same left some long ended =
    let e = subst (λ u. IsEnded u seats closed) same ended in
    record {
      history = e.history;
      legal = e.legal;
      edit = e.edit;
      elements = e.elements;
      few = e.few;
      all = ap length (sym left) ∙ length-map seats actor_of ∙ long;
      known = subst (λ l. All (IsKept e.history) l) left (All-map (IsKept e.history) actor_of seats e.known);
      total = e.edit
          ∙ all_made old.terms e.history (map (λ s. (actor_of s).number) seats) some.apart (some_below old.terms.seats seats some) (length-map seats (λ s. (actor_of s).number) ∙ long) e.legal
          ∙ sym (known_total e.history seats e.known)
          ∙ sym (sum_of_actors (λ x. length (own x.number x.known)) seats)
          ∙ ap (sum_by (λ x. length (own x.number x.known))) left;
    }

-- a seat that was given back comes after the others
pub left_more : {B : Type 0} (seats after : List (Seat B)) (s : Seat B) → after ≡ seats ++ s ∷ [] → map actor_of after ≡ map actor_of seats ++ actor_of s ∷ []
left_more seats after s are = ap (map actor_of) are ∙ map-append actor_of seats (s ∷ [])

module _ {B : Type 0} (table : TableId) (z : Basis B) where
  -- what the seats of a new board know
  dealt_from : (seats : List (Seat B)) (s : Seat B) → AreDealt table z seats → map actor_of seats ≡ map newcomer (range_with_len 0 (length seats))
  dealt_from seats s dealt = fill_by_all newcomer (map actor_of seats) (length seats) (newcomer 0) (length-map seats actor_of)
      (λ k within. get_or-map actor_of seats k s (newcomer 0) within ∙ (subst (λ o. IfSome o (λ u. IsAt table z u × (actor_of u ≡ newcomer k))) (slice_get-get_or seats k s within) (dealt k within)).1)

  pub dealt_new : (seats : List (Seat B)) → AreDealt table z seats → map actor_of seats ≡ map newcomer (range_with_len 0 (length seats))
  dealt_new [] dealt = refl
  dealt_new (s ∷ rest) dealt = dealt_from (s ∷ rest) s dealt

module _ {B S : Type 0} (folding : B → Folding) (kind : Kind) (plain : B → List ℤ → Shown) where
  -- a new board, as it is shared
  pub newly_shared : (limits : Bounds) (number stamp : ℕ) (body : B) (board : Board B S) (seats : List (Seat B)) (result : Result (Opened B S) Refusal) → MayOpen limits number → IsBasisOf limits number body board.terms → length seats ≡ number → AreDealt board.table.shared.table_id board.terms seats
      → IfOk result (λ o. (arc_value o.board ≡ board) × (o.seats.items ≡ seats) × (o.stamp ≡ stamp)) → IfOk result (λ o. IsNewlyShared limits number stamp (folding body) kind (plain body) (shared_of folding kind plain o))
  newly_shared limits number stamp body board seats (Err refusal) may basis long dealt shared = tt
  newly_shared limits number stamp body board seats (Ok o) may basis long dealt (same, left, stamped) = record {
    allowed = may;
    stamp_is = stamped;
    terms = ap (λ (b : Board B S). terms_of folding b.terms) same ∙ ap (terms_of folding) basis;
    kind_is = refl;
    plain_is = ap (λ (b : Board B S). plain b.terms.body) same ∙ ap (λ (z : Basis B). plain z.body) basis;
    left = ap (map actor_of) left ∙ dealt_new board.table.shared.table_id board.terms seats dealt ∙ ap (λ n. map newcomer (range_with_len 0 n)) long;
  }

-- if a board may be opened, it can fail to be shared only because memory ran out
pub lacks_memory : {X : Type 0} (limits : Bounds) (number : ℕ) (result : Result X Refusal) → MayOpen limits number → IfErr result (λ refusal. refusal ≡ NoMemory) → IfErr result (λ refusal. IsOpeningRefusal limits number refusal)
lacks_memory limits number (Err refusal) may same = inr (may, same)
lacks_memory limits number (Ok x) may same = tt
