-- The end of a board: what its last words show, and that each entry of the history is one of a seat's own.
use Rattle.std.proofs.Common.{◌≡◌, ◌≢◌, ℕ, zero, suc, ◌+◌, ◌*◌, ◌/◌, ◌%◌, ◌<◌, ◌≤◌, true, false, nat_eq, List, [], ◌∷◌, ◌++◌, length, map, slice_index, refl, sym, ap, ◌∙◌, subst, inl, inr, arith}
use Rattle.std.specs.Prelude.{All, pos}
use Rattle.std.specs.List.{range_with_len, slice_index_or, sum_by}
use Rattle.std.proofs.lemmas.Bool.{cases_Bool, cases_lt, cond-false, cond-true, eq-eqb, eqb-true, false≢true}
use Rattle.std.proofs.lemmas.Bool.Decides.{nat_tests}
use Rattle.std.proofs.lemmas.List.{append_assoc, append-nil, ext_get_or, map-append}
use Rattle.std.proofs.lemmas.List.Elements.{All-cons, All-head, All-nil, All-same, All-tail, All-weaker}
use Rattle.std.proofs.lemmas.List.FromFn.{get_or-map-range_with_len, length-map-range_with_len, map-range_with_len_more}
use Rattle.std.proofs.lemmas.List.Sorted.{sum_by-IsPermutation}
use Rattle.std.proofs.lemmas.List.Sums.{sum_by-cons}
use mathlib.Core.Option.{some, some-injective, some-ne-none}
use lib.ListN.{get_elem?}
use Rattle.atomic_table.specs.Table.{Final, Joins, Seen}
use Rattle.lv_geometry.specs.Cells.{capacity_of}
use Rattle.lv_machine.specs.declared.entries.Entry.{Entry}
use Rattle.lv_machine.specs.History.{cell_of, descriptor_of, elements_of, IsLegalHistory, own}
use Rattle.lv_machine.specs.Layout.{cell_place, count_of}
use Rattle.lv_machine.specs.Shows.{Fits, ShowsHistory}
use Rattle.lv_machine.specs.Terms.{AreTerms, Folding, Terms}
use Rattle.lv_machine.specs.Words.{edit_of, HasPending, index_of, signed, size_of, value_of}
use Rattle.lv_machine.proofs.HistoryLaws.{decoded, few_cells, legal_within, size_below}
use Rattle.lv_machine.proofs.ReadLaws.{cell_element}
use Rattle.lv_machine.proofs.ShowsLaws.{current_cell, pending, place_within}
use Rattle.lv_machine.proofs.WordLaws.{value_of-cell, value_of-short}
use Rattle.lv_board.specs.declared.actors.Actor.{Actor}
use Rattle.lv_board.specs.declared.actors.Basis.{Basis}
use Rattle.lv_board.specs.declared.actors.View.{View}
use Rattle.lv_board.specs.declared.remains.Closed.{Closed}
use Rattle.lv_board.specs.declared.seats.Seat.{Seat}
use Rattle.lv_board.specs.Closing.{AreAll, IsClosed, IsKept, made_by}
use Rattle.lv_board.specs.Ended.{IsEnded, IsSettled, shown_at}
use Rattle.lv_board.specs.Rule.{ActorFits, terms_of}
use Rattle.lv_board.specs.TableRule.{gathered, TableHolds, spent}
use Rattle.lv_board.specs.Tells.{actor_of}
use Rattle.lv_board.proofs.Advancing.{own-nil, own-other, own-same}
use Rattle.lv_board.proofs.Handing.{gathers}
use Rattle.lv_board.proofs.Keeping.{shows, state_of}

-- the value of a word that is there
pub word_read : (words : List ℕ) (i word : ℕ) → get_elem? words i ≡ some word → slice_index words i ≡ word
word_read [] i word is = absurd (some-ne-none word (sym is))
word_read (w ∷ words) zero word is = some-injective w word is
word_read (w ∷ words) (suc i) word is = word_read words i word is

-- one more element is appended
pub collected : {X : Type 0} (f : ℕ → X) (xs ys : List X) (i : ℕ) (x : X) → xs ≡ map f (range_with_len 0 i) → ys ≡ xs ++ x ∷ [] → x ≡ f i → ys ≡ map f (range_with_len 0 (i + 1))
collected f xs ys i x before more is = more ∙ ap (λ l. l ++ x ∷ []) before ∙ ap (λ y. map f (range_with_len 0 i) ++ y ∷ []) is ∙ sym (map-range_with_len_more f 0 i i (omega arith))

-- the bits at an index that the descriptor doesn't name
pub shown_elsewhere : (words : List ℕ) (i look word bits index at : ℕ) → look ≡ slice_index words 0 → index ≡ index_of look → index ≢ i → at ≡ cell_place i → get_elem? words at ≡ some word → bits ≡ value_of word → signed bits ≡ shown_at words i
shown_elsewhere words i look word bits index at first is apart place there value =
    let other : nat_eq index i ≡ false = grind (arith, nat_tests) in
    ap signed (value ∙ ap value_of (sym (word_read words at word there) ∙ ap (slice_index words) place))
    ∙ sym (cond-false _ _ _ (ap (λ n. nat_eq n i) (ap index_of (sym first) ∙ sym is) ∙ other))

-- one more seat is merged, in front of the others
pub gathered_more : {B : Type 0} (before after : List (Seat B)) (s : Seat B) (w u : View B) (all : List Actor) → before ≡ after ++ s ∷ [] → s.token.me.0.more ≡ [] → u ≡ gathered s.token.me.0 w → map actor_of before ++ w.actor ∷ w.more ≡ all → map actor_of after ++ u.actor ∷ u.more ≡ all
gathered_more {B = B} before after s w u all popped alone both actors =
    ap (λ (x : View B). map actor_of after ++ x.actor ∷ x.more) both
    ∙ ap (λ (l : List Actor). map actor_of after ++ actor_of s ∷ w.actor ∷ l) (ap (λ l. w.more ++ l) alone ∙ append-nil w.more)
    ∙ sym (append_assoc (map actor_of after) (actor_of s ∷ []) (w.actor ∷ w.more))
    ∙ ap (λ l. l ++ w.actor ∷ w.more) (sym (map-append actor_of after (s ∷ [])) ∙ ap (map actor_of) (sym popped))
    ∙ actors

-- no seats have no actors
pub none_gathered : {B : Type 0} (seats : List (Seat B)) → length seats ≡ 0 → map actor_of seats ≡ []
none_gathered [] none = refl
none_gathered (s ∷ seats) none = absurd (omega arith)

-- how many entries some actors made, from a number on
abbrev made_in : List Entry → ℕ → ℕ → ℕ
made_in h from count = sum_by (λ n. length (own n h)) (range_with_len from count)

made_in-cons : (h : List Entry) (from count : ℕ) → made_in h from (suc count) ≡ length (own from h) + made_in h (from + 1) count
made_in-cons h from count = sum_by-cons (λ n. length (own n h)) from (range_with_len (from + 1) count)

none_made : (from count : ℕ) → made_in [] from count ≡ 0
none_made from zero = refl
none_made from (suc count) = omega (arith, made_in-cons [] from count, ap length (own-nil from), none_made (from + 1) count)

-- an entry counts only for its own actor
made_after : (e : Entry) (h : List Entry) (from count : ℕ) → e.actor < from → made_in (e ∷ h) from count ≡ made_in h from count
made_after e h from zero before = refl
made_after e h from (suc count) before =
    let apart : e.actor ≢ from = omega arith in
    omega (arith, made_in-cons (e ∷ h) from count, made_in-cons h from count, ap length (own-other from e h apart), made_after e h (from + 1) count (omega arith))

made_among : (e : Entry) (h : List Entry) (from count : ℕ) → from ≤ e.actor → e.actor < from + count → made_in (e ∷ h) from count ≡ 1 + made_in h from count
made_among e h from zero least most = absurd (omega arith)
made_among e h from (suc count) least most = elim (cases_lt from e.actor) [
  | inl later ↦
      let apart : e.actor ≢ from = omega arith in
      omega (arith, made_in-cons (e ∷ h) from count, made_in-cons h from count, ap length (own-other from e h apart), made_among e h (from + 1) count (omega arith) (omega arith))
  | inr not_later ↦
      let here : e.actor ≡ from = omega arith in
      omega (arith, made_in-cons (e ∷ h) from count, made_in-cons h from count, ap length (own-same from e h here), made_after e h (from + 1) count (omega arith))
]

-- each entry is one of an actor's own
pub own_total : (t : Terms) (h : List Entry) → IsLegalHistory t h → length h ≡ made_in h 0 t.seats
own_total t [] legal = sym (none_made 0 t.seats)
own_total t (e ∷ h) (legal, next) = let actor = next.actor in omega (arith, own_total t h legal, made_among e h 0 t.seats (omega arith) (omega arith))

-- what seats know of their own entries is what they made
pub known_total : {B : Type 0} (h : List Entry) (seats : List (Seat B)) → All (λ s. IsKept h (actor_of s)) seats → sum_by made_by seats ≡ sum_by (λ n. length (own n h)) (map (λ s. (actor_of s).number) seats)
known_total h [] kept = refl
known_total h (s ∷ seats) kept =
    let first = All-head (λ s. IsKept h (actor_of s)) s seats kept in
    omega (arith, sum_by-cons made_by s seats, sum_by-cons (λ n. length (own n h)) (actor_of s).number (map (λ s. (actor_of s).number) seats), ap length first.own_is, known_total h seats (All-tail (λ s. IsKept h (actor_of s)) s seats kept))

All-unmap : {X Y : Type 0} (P : Y → Type 0) (f : X → Y) (xs : List X) → All P (map f xs) → All (λ x. P (f x)) xs
All-unmap P f [] all = All-nil (λ x. P (f x))
All-unmap P f (x ∷ xs) all = All-cons (λ x. P (f x)) x xs (All-head P (f x) (map f xs) all) (All-unmap P f xs (All-tail P (f x) (map f xs) all))

-- the element at an index is the one that the last words show
element_shown : (t : Terms) (words : List ℕ) (h : List Entry) (looks : ℕ → ℕ) (i : ℕ) → AreTerms t → ShowsHistory t words h looks → i < length (elements_of h) → shown_at words i ≡ slice_index_or (elements_of h) i (pos 0)
element_shown t words h looks i terms show within =
    let few = (legal_within t h terms show.legal).size in
    let cells = few_cells t terms in
    let index = ap index_of show.first in
    elim (cases_Bool (nat_eq (index_of (slice_index words 0)) i)) [
      | inl there ↦
          let is : index_of (descriptor_of h) ≡ i = sym index ∙ eqb-true _ _ there in
          let has : HasPending (descriptor_of h) = omega arith in
          let cell = (pending t h terms show.legal has).cell in
          cond-true _ _ _ there ∙ ap (λ w. signed (value_of w)) show.first
          ∙ ap signed (sym (value_of-cell (edit_of (descriptor_of h)) (value_of (descriptor_of h)) (value_of-short (descriptor_of h))) ∙ ap value_of cell ∙ ap (λ j. value_of (cell_of j h)) is)
          ∙ cell_element t i h terms show.legal within
      | inr elsewhere ↦
          let e : 8 * (i / 8) + i % 8 ≡ i = omega arith in
          let fits = subst (λ j. Fits (cell_of j) h (slice_index words (cell_place i))) e ((show.places (i / 8) (i % 8) (omega arith) (omega arith)).cell (omega arith)) in
          let word = current_cell t i h (slice_index words (cell_place i)) terms show.legal fits (λ is. absurd (false≢true (sym elsewhere ∙ eq-eqb _ _ (index ∙ is)))) in
          cond-false _ _ _ elsewhere ∙ ap (λ w. signed (value_of w)) word ∙ cell_element t i h terms show.legal within
    ]

-- all elements are shown
pub elements_shown : (t : Terms) (words : List ℕ) (h : List Entry) (looks : ℕ → ℕ) → AreTerms t → ShowsHistory t words h looks → map (shown_at words) (range_with_len 0 (size_of (slice_index words 0))) ≡ elements_of h
elements_shown t words h looks terms show =
    let size : size_of (slice_index words 0) ≡ length (elements_of h) = ap size_of show.first ∙ (decoded t h terms show.legal).size in
    let long = length-map-range_with_len (shown_at words) 0 (size_of (slice_index words 0)) in
    ext_get_or (pos 0) (map (shown_at words) (range_with_len 0 (size_of (slice_index words 0)))) (elements_of h) (long ∙ size)
    (λ i within. get_or-map-range_with_len (shown_at words) 0 (size_of (slice_index words 0)) i i (pos 0) (omega arith) (omega arith) ∙ element_shown t words h looks i terms show (omega arith))

-- how many elements there are, which all have their cells among the words
pub size_within : (t : Terms) (words : List ℕ) (h : List Entry) (looks : ℕ → ℕ) → AreTerms t → ShowsHistory t words h looks → size_of (slice_index words 0) ≤ capacity_of t.limits.buckets
size_within t words h looks terms show =
    let size : size_of (slice_index words 0) ≡ length (elements_of h) = ap size_of show.first ∙ (decoded t h terms show.legal).size in
    omega (arith, (legal_within t h terms show.legal).size)

pub cell_within : (t : Terms) (i : ℕ) → i < capacity_of t.limits.buckets → cell_place i < count_of t.limits
cell_within t i within = place_within t.limits (i / 8) (i % 8) (omega arith) (omega arith)

module _ {S B : Type 0} (f : B → Folding) (z key : Basis B) (is_key : key ≡ z) where
  -- the last state, in which one view has the actors of all seats
  pub settles : (id : ℕ) (v : View B) (actors : List Actor) (words : List ℕ) (slots : List S) → v.sits ≡ true → v.actor ∷ v.more ≡ actors → Final (Seen (TableHolds f key) id v) words slots → IsSettled (terms_of f z) actors words
  settles id v actors words slots sits are end =
      subst (λ k. Final (Seen (TableHolds f k) id v) words slots → IsSettled (terms_of f z) actors words) (sym is_key)
      (λ (last : Final (Seen (TableHolds f z) id v) words slots).
      let (s, (rule, at), is, homes, slots) = last in
      let fits = rule.views id v at in
      let kept : (x : Actor) → ActorFits z.seats (state_of f z s rule) rule.owner id x → IsKept (state_of f z s rule).history x = λ x true_of. record { known = true_of.known; own_is = true_of.own_is } in
      record {
        terms = rule.terms;
        history = (state_of f z s rule).history;
        looks = (state_of f z s rule).looks;
        shown = subst (λ ws. ShowsHistory (terms_of f z) ws (state_of f z s rule).history (state_of f z s rule).looks) (sym rule.words_are ∙ is) (shows f z s rule);
        kept = All-same (IsKept (state_of f z s rule).history) actors (v.actor ∷ v.more) (sym are)
            (All-cons (IsKept (state_of f z s rule).history) v.actor v.more (kept v.actor (fits.sits sits))
            (All-weaker (ActorFits z.seats (state_of f z s rule) rule.owner id) (IsKept (state_of f z s rule).history) kept v.more fits.more));
      }) end

  -- the last state of a board without seats
  pub settles_alone : (actors : List Actor) (words : List ℕ) (slots : List S) → actors ≡ [] → Final (TableHolds f key) words slots → IsSettled (terms_of f z) actors words
  settles_alone actors words slots none end =
      subst (λ k. Final (TableHolds f k) words slots → IsSettled (terms_of f z) actors words) (sym is_key)
      (λ (last : Final (TableHolds f z) words slots).
      let (s, rule, is, homes, slots) = last in
      record {
        terms = rule.terms;
        history = (state_of f z s rule).history;
        looks = (state_of f z s rule).looks;
        shown = subst (λ ws. ShowsHistory (terms_of f z) ws (state_of f z s rule).history (state_of f z s rule).looks) (sym rule.words_are ∙ is) (shows f z s rule);
        kept = All-same (IsKept (state_of f z s rule).history) actors [] none (All-nil (IsKept (state_of f z s rule).history));
      }) end

-- one seat is merged into another, at the table's key
pub gathers_at_key : (S : Type 0) {B : Type 0} (f : B → Folding) (z key : Basis B) (id : ℕ) (v : View B) (other : ℕ) (w : View B) → key ≡ z → w.sits ≡ true → Joins {S = S} (TableHolds f key) id v other w (gathered v w) spent
gathers_at_key S f z key id v other w is_key sits = subst (λ k. Joins {S = S} (TableHolds f k) id v other w (gathered v w) spent) (sym is_key) (gathers S f z id v other w sits)

-- the vector of a settled board
pub ended_of : {B : Type 0} (t : Terms) (seats : List (Seat B)) (words : List ℕ) (closed : Closed) → IsSettled t (map actor_of seats) words → closed.edit ≡ edit_of (slice_index words 0) → closed.elements ≡ map (shown_at words) (range_with_len 0 (size_of (slice_index words 0))) → IsEnded t seats closed
ended_of t seats words closed settled edit elements =
    let show = settled.shown in
    let are = elements ∙ elements_shown t words settled.history settled.looks settled.terms show in
    record {
      history = settled.history;
      legal = show.legal;
      edit = edit ∙ ap edit_of show.first ∙ (decoded t settled.history settled.terms show.legal).edit;
      elements = are;
      few = omega (arith, ap length are, size_below t settled.history settled.terms show.legal);
      known = All-unmap (IsKept settled.history) actor_of seats settled.kept;
    }

-- and the vector if all seats were handed in
pub closed_of : {B : Type 0} (t : Terms) (seats : List (Seat B)) (closed : Closed) → AreAll t.seats seats → IsEnded t seats closed → IsClosed t seats closed
closed_of t seats closed all ended = record {
  history = ended.history;
  legal = ended.legal;
  edit = ended.edit;
  elements = ended.elements;
  known = ended.known;
  total = ended.edit ∙ own_total t ended.history ended.legal
      ∙ sym (sum_by-IsPermutation (λ n. length (own n ended.history)) (range_with_len 0 t.seats) (map (λ s. (actor_of s).number) seats) all)
      ∙ sym (known_total ended.history seats ended.known);
}
