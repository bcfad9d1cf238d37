-- The board at its start, and the seats that are dealt.
use Rattle.std.proofs.Common.{◌≡◌, ℕ, zero, suc, ◌^◌, ◌<◌, ◌≤◌, true, false, List, [], ◌∷◌, ◌++◌, length, slice_index, refl, sym, ap, ◌∙◌, subst, inl, inr, arith}
use Rattle.std.specs.Prelude.{All, IfSome, Some}
use Rattle.std.proofs.lemmas.Option.{slice_get-get_or}
use Rattle.atomic_table.specs.Seated.{TableId}
use Rattle.lv_board.specs.declared.seats.Seat.{Seat}
use Rattle.lv_board.specs.Opening.{AreDealt}
use Rattle.lv_board.specs.Tells.{actor_of, IsAt}
use Rattle.std.proofs.lemmas.Bool.{cases_lt, false≢true}
use Rattle.std.proofs.lemmas.List.{get_or_append_left, get_or_push, length_push}
use Rattle.std.proofs.lemmas.List.Elements.{All-get_or, All-nil}
use mathlib.Core.Option.{some, some-injective, some-ne-none}
use lib.ListN.{get_elem?}
use Rattle.atomic_table.specs.Table.{Joins, opening, Splits}
use Rattle.lv_bodies.specs.Body.{Operations, fold_of}
use Rattle.lv_bodies.specs.Parts.{AreParts}
use Rattle.lv_machine.specs.declared.entries.Entry.{Entry}
use Rattle.lv_machine.specs.History.{descriptor_of}
use Rattle.lv_machine.specs.declared.moves.Move.{Move}
use Rattle.lv_machine.specs.Moves.{mover, reached, start}
use Rattle.lv_machine.specs.Terms.{AreTerms, Folding}
use Rattle.lv_machine.proofs.HistoryLaws.{index_of-nil, no_elements}
use Rattle.lv_machine.proofs.WordLaws.{edit_of-descriptor, size_of-descriptor}
use Rattle.lv_board.specs.declared.actors.Basis.{Basis}
use Rattle.lv_board.specs.declared.actors.View.{View}
use Rattle.lv_board.specs.Rule.{ActorFits, folds, newcomer, terms_of}
use Rattle.lv_board.specs.TableRule.{dealer_from, dealt, fresh, HasMade, TableHolds, informed, IsSeat, note, spent, ViewFits}
use Rattle.lv_board.specs.Stands.{IsBasis, IsLook}
use Rattle.lv_board.proofs.Advancing.{made_by-nil, own-nil}
use Rattle.lv_board.proofs.Handing.{deals, Ends-none, informs, notes}

-- what is beyond a list reads as 0
nothing : (xs : List ℕ) (p : ℕ) → length xs ≤ p → slice_index xs p ≡ 0
nothing [] p past = refl
nothing (x ∷ xs) zero past = absurd (omega arith)
nothing (x ∷ xs) (suc p) past = nothing xs p (omega arith)

part_below : (xs : List ℕ) (p : ℕ) → All (λ x. x < 2 ^ 32) xs → slice_index xs p < 4294967296
part_below xs p below = elim (cases_lt p (length xs)) [
  | inl within ↦ All-get_or (λ x. x < 2 ^ 32) xs p 0 within below
  | inr past ↦ omega (arith, nothing xs p past)
]

-- a basis and the parts of a monoid instance make terms
parts_make_terms : {B S : Type 0} (count : ℕ) (parts : S → List ℕ) (operations : B → Operations S) (z : Basis B) → count ≤ 4 → AreParts count parts → IsBasis z → AreTerms (terms_of (folds count parts operations) z)
parts_make_terms count parts operations z few are basis = record {
  allowed = record { some_buckets = basis.some_buckets; few_buckets = omega (arith, basis.few_buckets); some_edits = basis.some_edits; few_edits = basis.few_edits };
  few_buckets = basis.few_buckets;
  few_seats = basis.few_seats;
  few_parts = few;
  short_parts = λ p xs. part_below (parts (fold_of (operations z.body) xs)) p (are.below (fold_of (operations z.body) xs));
}

-- a basis makes terms if a monoid instance's folds are stored in parts
pub are_terms : {B S : Type 0} (f : B → Folding) (count : ℕ) (parts : S → List ℕ) (operations : B → Operations S) (z : Basis B) → f ≡ folds count parts operations → count ≤ 4 → AreParts count parts → IsBasis z → AreTerms (terms_of f z)
are_terms f count parts operations z by_parts few are basis = subst (λ g. AreTerms (terms_of g z)) (sym by_parts) (parts_make_terms count parts operations z few are basis)

only_one : {A : Type 0} (a b : A) (j : ℕ) → get_elem? (a ∷ []) j ≡ some b → (j ≡ 0) × (a ≡ b)
only_one a b zero at = (refl, some-injective a b at)
only_one a b (suc j) at = absurd (some-ne-none b (sym at))

-- the rule holds of the words at the start
pub opens : (S : Type 0) {B : Type 0} (f : B → Folding) (z : Basis B) (words : List ℕ) → AreTerms (terms_of f z) → words ≡ (start (terms_of f z)).words → TableHolds f {S = S} z (opening words [] (dealer_from z 0))
unfolding reached
opens S f z words terms is = record {
  terms = terms;
  moves = [];
  allowed = tt;
  words_are = is;
  movers = All-nil (λ (m : Move). mover m < z.seats);
  owner = λ n. 0;
  views = λ j v at.
      let (first, same) = only_one (dealer_from z 0) v j at in
      subst (λ i. ViewFits f z (start (terms_of f z)) (λ n. 0) i v) (sym first) (subst (ViewFits f z (start (terms_of f z)) (λ n. 0) 0) same record {
        known = Ends-none [];
        based = λ wrong. absurd (false≢true wrong);
        sits = λ wrong. absurd (false≢true wrong);
        deals = λ _ n from below. record { owner_is = refl; look = refl; own_is = own-nil n };
        more = All-nil (ActorFits z.seats (start (terms_of f z)) (λ n. 0) 0);
      });
  made = λ j v at. subst (HasMade z.seats []) (only_one (dealer_from z 0) v j at).1 record {
    sits = λ wrong. absurd (false≢true wrong);
    deals = λ _ n from below. made_by-nil n;
  };
}

first_of : (buckets edits : ℕ) → IsLook buckets edits (descriptor_of []) []
unfolding descriptor_of
first_of buckets edits =
    let edit = edit_of-descriptor 0 0 4095 0 (omega arith) (omega arith) (omega arith) in
    let size = size_of-descriptor 0 0 4095 0 (omega arith) (omega arith) (omega arith) in
    record {
      shown = refl;
      edit = edit;
      size = size ∙ sym no_elements;
      few_edits = omega (arith, edit);
      few_cells = omega (arith, size);
      pending = λ has. absurd (omega (arith, index_of-nil));
    }

-- the look of no updates
pub first_look : (buckets edits look : ℕ) (seen : List Entry) → look ≡ descriptor_of [] → seen ≡ [] → IsLook buckets edits look seen
first_look buckets edits look seen is none = subst (λ w. IsLook buckets edits w seen) (sym is) (subst (IsLook buckets edits (descriptor_of [])) (sym none) (first_of buckets edits))

-- the dealer deals its next seat
pub deals_at_key : (S : Type 0) {B : Type 0} (f : B → Folding) (z key : Basis B) (id k : ℕ) (v : View B) → key ≡ z → v ≡ dealer_from z k → k < z.seats → Splits {S = S} (TableHolds f key) id v (dealt v) (fresh v)
deals_at_key S f z key id k v is_key is below = subst (λ w. Splits {S = S} (TableHolds f w) id v (dealt v) (fresh v)) (sym is_key) (subst (λ u. Splits {S = S} (TableHolds f z) id u (dealt u) (fresh u)) (sym is) (deals S f z id k below))

-- the view of a new seat
pub fresh_seat : {B : Type 0} (z : Basis B) (k : ℕ) (v w : View B) → v ≡ dealer_from z k → w ≡ fresh v → w ≡ record { actor = newcomer k; sits = true; deals = false; bases = z ∷ []; moves = []; more = [] }
fresh_seat z k v w is made = made ∙ ap fresh is

pub is_seat : {B : Type 0} (z : Basis B) (k : ℕ) (w : View B) → w ≡ record { actor = newcomer k; sits = true; deals = false; bases = z ∷ []; moves = []; more = [] } → IsSeat w
is_seat z k w is = record { sits = ap (λ u. u.sits) is; deals = ap (λ u. u.deals) is; more = ap (λ u. u.more) is }

-- one more seat is dealt
pub dealt_more : {B : Type 0} (table : TableId) (z : Basis B) (seats : List (Seat B)) (s : Seat B) → AreDealt table z seats → IsAt table z s → actor_of s ≡ newcomer (length seats) → AreDealt table z (seats ++ s ∷ [])
dealt_more table z seats s before at is k within = elim (cases_lt k (length seats)) [
  | inl old ↦ subst (λ o. IfSome o (λ s. IsAt table z s × (actor_of s ≡ newcomer k))) (slice_get-get_or seats k s old ∙ ap Some (sym (get_or_append_left seats (s ∷ []) s k old)) ∙ sym (slice_get-get_or (seats ++ s ∷ []) k s within)) (before k old)
  | inr new ↦
      let last : length seats ≡ k = omega (arith, length_push seats s) in
      subst (λ o. IfSome o (λ s. IsAt table z s × (actor_of s ≡ newcomer k))) (ap Some (sym (get_or_push seats s s k last)) ∙ sym (slice_get-get_or (seats ++ s ∷ []) k s within)) (at, is ∙ ap newcomer last)
]

-- passing on what a seat knows, at the table's key
pub notes_at_key : (S : Type 0) {B : Type 0} (f : B → Folding) (z key : Basis B) (id : ℕ) (v : View B) → key ≡ z → Splits {S = S} (TableHolds f key) id v v (note v)
notes_at_key S f z key id v is_key = subst (λ w. Splits {S = S} (TableHolds f w) id v v (note v)) (sym is_key) (notes S f z id v)

pub informs_at_key : (S : Type 0) {B : Type 0} (f : B → Folding) (z key : Basis B) (id : ℕ) (v : View B) (other : ℕ) (w : View B) → key ≡ z → IsSeat v → Joins {S = S} (TableHolds f key) id v other w (informed v w) spent
informs_at_key S f z key id v other w is_key seat = subst (λ k. Joins {S = S} (TableHolds f k) id v other w (informed v w) spent) (sym is_key) (informs S f z id v other w seat)
