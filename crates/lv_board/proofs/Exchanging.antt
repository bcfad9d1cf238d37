-- A compare-and-swap of the descriptor keeps the rule, and says which update was accepted, or what was found.
use Rattle.std.proofs.Common.{◌≡◌, ◌≢◌, ℕ, ◌<◌, ◌≤◌, Bool, true, false, nat_eq, None, List, [], ◌∷◌, length, slice_index, slice_set, refl, sym, ap, ◌∙◌, subst, inl, inr, arith}
use Rattle.std.specs.Prelude.{MatchBool}
use Rattle.std.proofs.lemmas.Bool.{cases_lt, cond-false, cond-true, eqb-true, eqb-false, eq-eqb}
use Rattle.std.proofs.lemmas.Bool.Decides.{nat_tests}
use mathlib.Core.Option.{some, none}
use lib.ListN.{get_elem?}
use lib.Seq.{set-get_or}
use prog.Atomic.{either}
use Rattle.atomic_table.specs.Table.{State, Me, step, Act, keeps, stepped, Allows, Valid, carried_after}
use Rattle.lv_edits.specs.declared.edit.Edit.{Edit}
use Rattle.lv_machine.specs.declared.entries.Entry.{Entry}
use Rattle.lv_machine.specs.History.{descriptor_of, Ends, IsLegalHistory, IsShortEdit, MayFollow, own}
use Rattle.lv_machine.specs.declared.moves.Move.TheVariants.{Exchange}
use Rattle.lv_machine.specs.Moves.{accepted, IsComplete, looked, MayExchange, moved, verdict_at}
use Rattle.lv_machine.specs.Terms.{AreTerms, Folding, Terms}
use Rattle.lv_machine.specs.Words.{descriptor_after, edit_between, edit_of, HasPending}
use Rattle.lv_machine.proofs.EndsLaws.{Ends-length, Ends-same, Ends-trans, Ends-whole, legal_earlier}
use Rattle.lv_machine.proofs.HistoryLaws.{decoded}
use Rattle.lv_machine.proofs.MoveLaws.{accepted_shows, next_descriptor, verdict_at_descriptor}
use Rattle.lv_machine.proofs.ReadLaws.{between}
use Rattle.lv_board.specs.declared.actors.Actor.{Actor}
use Rattle.lv_board.specs.declared.actors.Basis.{Basis}
use Rattle.lv_board.specs.declared.actors.View.{View}
use Rattle.lv_board.specs.Plays.{Exchanges, IsAccepted, IsContended}
use Rattle.lv_board.specs.Rule.{ActorFits, terms_of}
use Rattle.lv_board.specs.TableRule.{TableHolds, IsSeat, ViewFits}
use Rattle.lv_board.specs.Stands.{IsLook, IsReady}
use Rattle.lv_board.proofs.Handing.{Ends-none}
use Rattle.lv_board.proofs.Advancing.{accepted_advances, installed_stays, own-same}
use Rattle.lv_board.proofs.Seating.{legal_look}
use Rattle.lv_board.proofs.Keeping.{rule_moved, shows, state_of}
use Rattle.lv_board.proofs.Seated.{same_basis, seat_fits}

ne-nat_eq : (m n : ℕ) → m ≢ n → nat_eq m n ≡ false
ne-nat_eq m n apart = grind (arith, nat_tests)

-- an earlier history that isn't the whole is shorter
later_by : (k h : List Entry) → Ends k h → k ≢ h → length k < length h
later_by k h ends other = elim (cases_lt (length k) (length h)) [
  | inl less ↦ less
  | inr long ↦ absurd (other (Ends-same k h ends long))
]

-- what a state knows of an actor that has seen its whole history
whole_seen : (t : Terms) (x : Actor) (h : List Entry) → AreTerms t → IsLegalHistory t h → Ends x.seen x.known → Ends x.known h → descriptor_of x.seen ≡ descriptor_of h → (x.seen ≡ h) × (x.known ≡ h)
whole_seen t x h terms legal seen known same =
    let ends = Ends-trans x.seen x.known h seen known in
    let first = (decoded t x.seen terms (legal_earlier t x.seen h ends legal)).edit in
    let last = (decoded t h terms legal).edit in
    let long : length h ≤ length x.seen = omega (arith, ap edit_of same) in
    (Ends-same x.seen h ends long, Ends-same x.known h known (omega (arith, Ends-length x.seen x.known seen)))

-- the update that the descriptors determine is the one that is made
pub told_by : (t : Terms) (seen : List Entry) (a look new : ℕ) (edit : Edit) → AreTerms t → IsLegalHistory t seen → a < t.seats → look ≡ descriptor_of seen → new ≡ descriptor_after look edit → IsShortEdit edit → verdict_at t.limits look edit ≡ None → edit_between look new ≡ edit
told_by t seen a look new edit terms legal seat is after short free =
    let may : MayFollow t seen record { actor = a; edit = edit } = record {
      actor = seat;
      short = short;
      verdict = sym (verdict_at_descriptor t seen edit terms legal) ∙ subst (λ w. verdict_at t.limits w edit ≡ None) is free;
    } in
    let word : new ≡ descriptor_of (record { actor = a; edit = edit } ∷ seen) = after ∙ ap (λ w. descriptor_after w edit) is ∙ next_descriptor t seen record { actor = a; edit = edit } terms legal may in
    ap (λ w. edit_between w new) is ∙ ap (edit_between (descriptor_of seen)) word ∙ between t seen record { actor = a; edit = edit } terms (legal, may)

module _ {S B : Type 0} (f : B → Folding) (z : Basis B) (slots id look new : ℕ) (edit : Edit) (me : Me S (View B)) (seat : IsSeat me.0) (is : look ≡ descriptor_of me.0.actor.seen) (after : new ≡ descriptor_after look edit) (short : IsShortEdit edit) (ready : IsReady me.0.actor look) (free : verdict_at record { buckets = z.buckets; edits = z.edits } look edit ≡ None) where
  abbrev entry : Entry
  entry = record { actor = me.0.actor.number; edit = edit }

  abbrev next : Actor
  next = record { number = me.0.actor.number; seen = entry ∷ me.0.actor.seen; known = entry ∷ me.0.actor.seen; own = entry ∷ me.0.actor.own; told = []; helped = false; marked = false; installed = me.0.actor.installed }

  -- what the compare-and-swap must satisfy, for the word that is found
  abbrev Ends' : State S (View B) → ℕ → Bool → Type 0
  Ends' s n found = (w : View B) × (a : Act S) × Valid s.homes me.1 a × TableHolds f z (stepped s 0 (either found new n) id me.1 w a)
      × ((carried_after me.1 a ≡ me.1) × (w ≡ record (me.0) { actor = w.actor; moves = Exchange me.0.actor.number (edit_between look new) ∷ me.0.moves }))
      × ((b : Basis B) → me.0.bases ≡ b ∷ []
      → MatchBool found
      (IsAccepted (terms_of f b) me.0.actor w.actor record { actor = me.0.actor.number; edit = edit_between look new })
      (IsContended (terms_of f b) me.0.actor w.actor n))

  may_exchange : (s : State S (View B)) (rule : TableHolds f z s) (owner : ℕ → ℕ) → ActorFits z.seats (state_of f z s rule) owner id me.0.actor → MayExchange (terms_of f z) (state_of f z s rule) me.0.actor.number edit
  may_exchange s rule owner x =
      let own_look : (state_of f z s rule).looks me.0.actor.number ≡ look = x.look ∙ sym is in
      record {
        actor = x.number;
        short = short;
        verdict = subst (λ w. verdict_at record { buckets = z.buckets; edits = z.edits } w edit ≡ None) (sym own_look) free;
        complete = subst (IsComplete (state_of f z s rule).words) (sym x.look) record {
          cell = λ has. x.helped (ready.helped (subst HasPending (sym is) has)) has;
          mark = λ has. x.marked (ready.marked (subst HasPending (sym is) has)) has;
        };
      }

  wins : (s : State S (View B)) (rule : TableHolds f z s) → get_elem? s.views id ≡ some me.0 → slice_index s.words 0 ≡ look → Ends' s (slice_index s.words 0) true
  wins s rule at found =
      let fits = rule.views id me.0 at in
      let based = fits.based seat.sits in
      let x = fits.sits seat.sits in
      let show = shows f z s rule in
      let own_look : (state_of f z s rule).looks me.0.actor.number ≡ look = x.look ∙ sym is in
      let first : slice_index (state_of f z s rule).words 0 ≡ look = ap (λ ws. slice_index ws 0) (sym rule.words_are) ∙ found in
      let all = whole_seen (terms_of f z) me.0.actor (state_of f z s rule).history rule.terms show.legal x.seen x.known (sym is ∙ sym first ∙ show.first) in
      let may = may_exchange s rule rule.owner x in
      let here : slice_index (state_of f z s rule).words 0 ≡ (state_of f z s rule).looks me.0.actor.number = first ∙ sym own_look in
      let is_moved : moved (state_of f z s rule) (Exchange me.0.actor.number edit) ≡ accepted (state_of f z s rule) me.0.actor.number edit = cond-true _ _ _ (eq-eqb _ _ here) in
      let legal : IsLegalHistory (terms_of f z) (entry ∷ (state_of f z s rule).history) = (accepted_shows (terms_of f z) (state_of f z s rule) me.0.actor.number edit rule.terms show may here).legal in
      let legal' : IsLegalHistory (terms_of f z) (entry ∷ me.0.actor.seen) = subst (λ h. IsLegalHistory (terms_of f z) (entry ∷ h)) (sym all.0) legal in
      let word : new ≡ descriptor_of (entry ∷ me.0.actor.seen) = after ∙ ap (λ w. descriptor_after w edit) is ∙ next_descriptor (terms_of f z) me.0.actor.seen entry rule.terms legal'.0 legal'.1 in
      let told : edit ≡ edit_between look new = sym (between (terms_of f z) me.0.actor.seen entry rule.terms legal') ∙ ap (λ w. edit_between w (descriptor_of (entry ∷ me.0.actor.seen))) (sym is) ∙ ap (edit_between look) (sym word) in (
        record (me.0) { actor = next; moves = Exchange me.0.actor.number edit ∷ me.0.moves },
        keeps,
        tt,
        rule_moved f z s rule id 0 new me.1 me.0 next (Exchange me.0.actor.number edit) seat at refl refl x.owner_is may
            (ap (λ c. c.words) is_moved ∙ ap (λ w. slice_set (state_of f z s rule).words 0 w) (ap (λ w. descriptor_after w edit) own_look ∙ sym after))
            (subst (λ c. ViewFits f z c rule.owner id (record (me.0) { actor = next; moves = Exchange me.0.actor.number edit ∷ me.0.moves })) (sym is_moved)
            (seat_fits f z (accepted (state_of f z s rule) me.0.actor.number edit) rule.owner id me.0 next (Exchange me.0.actor.number edit ∷ me.0.moves) seat based record {
              number = x.number;
              owner_is = x.owner_is;
              look = cond-true _ _ _ (eq-eqb me.0.actor.number me.0.actor.number refl) ∙ ap (λ w. descriptor_after w edit) own_look ∙ sym after ∙ word;
              seen = Ends-whole (entry ∷ me.0.actor.seen);
              known = subst (λ h. Ends (entry ∷ h) (entry ∷ (state_of f z s rule).history)) (sym all.0) (Ends-whole (entry ∷ (state_of f z s rule).history));
              own_is = ap (λ h. own me.0.actor.number (entry ∷ h)) (sym all.0);
              made = own-same me.0.actor.number entry (state_of f z s rule).history refl ∙ ap (λ l. entry ∷ l) x.made;
              told = Ends-none (entry ∷ (state_of f z s rule).history);
              helped = λ wrong. absurd (cc);
              marked = λ wrong. absurd (cc);
              installed = installed_stays me.0.actor.number (state_of f z s rule) (accepted (state_of f z s rule) me.0.actor.number edit) me.0.actor.installed (accepted_advances me.0.actor.number (state_of f z s rule) edit) x.installed;
            })),
        (refl, ap (λ (e : Edit). record (me.0) { actor = next; moves = Exchange me.0.actor.number e ∷ me.0.moves }) told),
        λ b other. subst (λ b. IsAccepted (terms_of f b) me.0.actor next record { actor = me.0.actor.number; edit = edit_between look new }) (same_basis f z me.0 b based other) record {
          terms = rule.terms;
          number = refl;
          current = all.1 ∙ sym all.0;
          seen = ap (λ (e : Edit). record { actor = me.0.actor.number; edit = e } ∷ me.0.actor.seen) told;
          known = ap (λ (e : Edit). record { actor = me.0.actor.number; edit = e } ∷ me.0.actor.seen) told;
          made = ap (λ (e : Edit). record { actor = me.0.actor.number; edit = e } ∷ me.0.actor.own) told;
          legal = subst (λ (e : Edit). IsLegalHistory (terms_of f z) (record { actor = me.0.actor.number; edit = e } ∷ me.0.actor.seen)) told legal';
        },
      )

  loses : (s : State S (View B)) (rule : TableHolds f z s) → get_elem? s.views id ≡ some me.0 → slice_index s.words 0 ≢ look → Ends' s (slice_index s.words 0) false
  loses s rule at other =
      let fits = rule.views id me.0 at in
      let based = fits.based seat.sits in
      let x = fits.sits seat.sits in
      let show = shows f z s rule in
      let h = (state_of f z s rule).history in
      let y : Actor = record { number = me.0.actor.number; seen = (state_of f z s rule).history; known = (state_of f z s rule).history; own = me.0.actor.own; told = []; helped = false; marked = false; installed = me.0.actor.installed } in
      let own_look : (state_of f z s rule).looks me.0.actor.number ≡ look = x.look ∙ sym is in
      let same : slice_index s.words 0 ≡ slice_index (state_of f z s rule).words 0 = ap (λ ws. slice_index ws 0) rule.words_are in
      let found : slice_index s.words 0 ≡ descriptor_of (state_of f z s rule).history = same ∙ show.first in
      let ends = Ends-trans me.0.actor.seen me.0.actor.known (state_of f z s rule).history x.seen x.known in
      let between_is : edit_between look new ≡ edit = told_by (terms_of f z) me.0.actor.seen me.0.actor.number look new edit rule.terms (legal_earlier (terms_of f z) me.0.actor.seen (state_of f z s rule).history ends show.legal) x.number is after short free in
      let apart : slice_index (state_of f z s rule).words 0 ≢ (state_of f z s rule).looks me.0.actor.number = λ e. other (same ∙ e ∙ own_look) in
      let test : nat_eq (slice_index (state_of f z s rule).words 0) ((state_of f z s rule).looks me.0.actor.number) ≡ false = ne-nat_eq _ _ apart in
      let is_moved : moved (state_of f z s rule) (Exchange me.0.actor.number edit) ≡ looked (state_of f z s rule) me.0.actor.number = cond-false _ _ _ test in (
        record (me.0) { actor = y; moves = Exchange me.0.actor.number edit ∷ me.0.moves },
        keeps,
        tt,
        rule_moved f z s rule id 0 (slice_index s.words 0) me.1 me.0 y (Exchange me.0.actor.number edit) seat at refl refl x.owner_is (may_exchange s rule rule.owner x)
            (ap (λ c. c.words) is_moved ∙ sym (ap (λ n. slice_set (state_of f z s rule).words 0 n) same ∙ set-get_or (state_of f z s rule).words 0 0))
            (subst (λ c. ViewFits f z c rule.owner id (record (me.0) { actor = y; moves = Exchange me.0.actor.number edit ∷ me.0.moves })) (sym is_moved)
            (seat_fits f z (looked (state_of f z s rule) me.0.actor.number) rule.owner id me.0 y (Exchange me.0.actor.number edit ∷ me.0.moves) seat based record {
              number = x.number;
              owner_is = x.owner_is;
              look = cond-true _ _ _ (eq-eqb me.0.actor.number me.0.actor.number refl) ∙ show.first;
              seen = Ends-whole (state_of f z s rule).history;
              known = Ends-whole (state_of f z s rule).history;
              own_is = refl;
              made = x.made;
              told = Ends-none (state_of f z s rule).history;
              helped = λ wrong. absurd (cc);
              marked = λ wrong. absurd (cc);
              installed = x.installed;
            })),
        (refl, ap (λ (e : Edit). record (me.0) { actor = y; moves = Exchange me.0.actor.number e ∷ me.0.moves }) (sym between_is)),
        λ b else'. subst (λ b. IsContended (terms_of f b) me.0.actor y (slice_index s.words 0)) (same_basis f z me.0 b based else') record {
          number = x.number;
          seen = ends;
          quiet = record { number = refl; known = x.known; own_is = x.own_is; made = refl };
          sees = record { terms = rule.terms; all = refl; found_is = found; legal = show.legal; made = x.made };
          later = later_by me.0.actor.seen (state_of f z s rule).history ends (λ e. other (found ∙ ap descriptor_of (sym e) ∙ sym is));
        },
      )

  by_found : (s : State S (View B)) (rule : TableHolds f z s) → get_elem? s.views id ≡ some me.0 → (found : Bool) → nat_eq (slice_index s.words 0) look ≡ found → Ends' s (slice_index s.words 0) found
  by_found s rule at true is = wins s rule at (eqb-true _ _ is)
  by_found s rule at false is = loses s rule at (eqb-false _ _ is)

  pub exchanges_allowed : Allows (TableHolds f z) slots id me 0 (λ n. either (nat_eq n look) new n) (Exchanges f (step slots 0 look new none) me)
  exchanges_allowed s rule homes at below =
      let (w, a, valid, holds, same, told) = by_found s rule at (nat_eq (slice_index s.words 0) look) refl in
      (w, a, valid, holds, (same, told))

-- the update that the descriptors determine is the one that was made
pub told_edit : (t : Terms) (x y : Actor) (look new : ℕ) (edit : Edit) → look ≡ descriptor_of x.seen → new ≡ descriptor_after look edit → IsShortEdit edit → verdict_at t.limits look edit ≡ None → IsAccepted t x y record { actor = x.number; edit = edit_between look new } → edit_between look new ≡ edit
told_edit t x y look new edit is after short free told = told_by t x.seen x.number look new edit told.terms told.legal.0 told.legal.1.actor is after short free

pub accepted_as : (t : Terms) (x y : Actor) (look new : ℕ) (edit : Edit) → look ≡ descriptor_of x.seen → new ≡ descriptor_after look edit → IsShortEdit edit → verdict_at t.limits look edit ≡ None → IsAccepted t x y record { actor = x.number; edit = edit_between look new } → IsAccepted t x y record { actor = x.number; edit = edit }
accepted_as t x y look new edit is after short free told = subst (λ (e : Edit). IsAccepted t x y record { actor = x.number; edit = e }) (told_edit t x y look new edit is after short free told) told

-- the descriptor that was written is a look of the history with the update
pub look_accepted : (t : Terms) (x y : Actor) (look new : ℕ) (edit : Edit) → look ≡ descriptor_of x.seen → new ≡ descriptor_after look edit → IsShortEdit edit → verdict_at t.limits look edit ≡ None → IsAccepted t x y record { actor = x.number; edit = edit } → IsLook t.limits.buckets t.limits.edits new y.seen
look_accepted t x y look new edit is after short free told =
    let word : new ≡ descriptor_of (record { actor = x.number; edit = edit } ∷ x.seen) = after ∙ ap (λ w. descriptor_after w edit) is ∙ next_descriptor t x.seen record { actor = x.number; edit = edit } told.terms told.legal.0 told.legal.1 in
    subst (λ w. IsLook t.limits.buckets t.limits.edits w y.seen) (sym word) (subst (λ h. IsLook t.limits.buckets t.limits.edits (descriptor_of (record { actor = x.number; edit = edit } ∷ x.seen)) h) (sym told.seen) (legal_look t (record { actor = x.number; edit = edit } ∷ x.seen) told.terms told.legal))

module _ {S B : Type 0} (f : B → Folding) (z key : Basis B) (is_key : key ≡ z) (slots id look new : ℕ) (edit : Edit) (me : Me S (View B)) (seat : IsSeat me.0) where
  pub exchanges_at_key : look ≡ descriptor_of me.0.actor.seen → new ≡ descriptor_after look edit → IsShortEdit edit → IsReady me.0.actor look → verdict_at record { buckets = z.buckets; edits = z.edits } look edit ≡ None → Allows (TableHolds f key) slots id me 0 (λ n. either (nat_eq n look) new n) (Exchanges f (step slots 0 look new none) me)
  exchanges_at_key is after short ready free = subst (λ k. Allows (TableHolds f k) slots id me 0 (λ n. either (nat_eq n look) new n) (Exchanges f (step slots 0 look new none) me)) (sym is_key) (exchanges_allowed f z slots id look new edit me seat is after short ready free)

-- what an actor made is its own after its update, too
pub made_accepted : (t : Terms) (x y : Actor) (e : Edit) → own x.number x.known ≡ x.own → IsAccepted t x y record { actor = x.number; edit = e } → own y.number y.known ≡ y.own
made_accepted t x y e was told =
    ap (λ n. own n y.known) told.number ∙ ap (own x.number) told.known ∙ own-same x.number record { actor = x.number; edit = e } x.seen refl
    ∙ ap (λ h. record { actor = x.number; edit = e } ∷ own x.number h) (sym told.current) ∙ ap (λ l. record { actor = x.number; edit = e } ∷ l) was ∙ sym told.made
