-- Each step of a seat keeps the rule, and guarantees what the specification of the step says.
use Rattle.std.proofs.Common.{◌≡◌, ◌≢◌, ℕ, ◌+◌, ◌-◌, ◌/◌, ◌%◌, ◌<◌, ◌≤◌, max, true, false, List, [], ◌∷◌, slice_index, slice_set, refl, sym, ap, ◌∙◌, subst, ⊎_elim, arith}
use Rattle.std.proofs.lemmas.Bool.{cond-true, eq-eqb}
use Rattle.std.proofs.lemmas.List.Elements.{All-cons}
use Rattle.std.proofs.lemmas.List.{get_or-set_same}
use mathlib.Core.Option.{some, none}
use lib.ListN.{get_elem?}
use lib.Seq.{set-get_or}
use Rattle.atomic_table.specs.Table.{State, Me, step, keeps, stepped, Allows}
use Rattle.atomic_table.proofs.Lists.{at_set}
use Rattle.lv_geometry.specs.Cells.{capacity_of}
use Rattle.lv_edits.specs.Touch.{elements_under, is_whole}
use Rattle.lv_machine.specs.History.{descriptor_of, edits_of}
use Rattle.lv_machine.specs.Layout.{cell_place, mark_place, part_place}
use Rattle.lv_machine.specs.declared.moves.Move.{Move}
use Rattle.lv_machine.specs.declared.moves.Move.TheVariants.{Look, HelpCell, HelpMark, Install, Read}
use Rattle.lv_machine.specs.Moves.{completing, Config, looked, MayMove, moved, mover, raised, reached, Shows}
use Rattle.lv_machine.specs.Shows.{block, FitsPart, mark_of}
use Rattle.lv_machine.specs.Terms.{blocks_of, Folding}
use Rattle.lv_machine.specs.Words.{cell_version, edit_of, HasPending, index_of, part_word, value_of}
use Rattle.lv_machine.proofs.EndsLaws.{Ends-trans, Ends-whole, legal_earlier}
use Rattle.lv_machine.proofs.MoveLaws.{reached_shows}
use Rattle.lv_machine.proofs.ReadLaws.{part_fits}
use Rattle.lv_machine.proofs.ShowsLaws.{pending, place_is}
use Rattle.lv_machine.proofs.WordLaws.{cell_version-grows, cell_version-word, value_of-short}
use Rattle.lv_board.specs.declared.actors.Actor.{Actor}
use Rattle.lv_board.specs.declared.actors.Basis.{Basis}
use Rattle.lv_board.specs.declared.actors.InstalledPart.{InstalledPart}
use Rattle.lv_board.specs.declared.actors.View.{View}
use Rattle.lv_board.specs.Plays.{HelpsCell, HelpsMark, Installs, IsRead, Looks, Reads, SeesAll}
use Rattle.lv_board.specs.Rule.{ActorFits, IsThere, terms_of}
use Rattle.lv_board.specs.TableRule.{HasMade, TableHolds, IsSeat, ViewFits}
use Rattle.lv_board.proofs.Handing.{Ends-none}
use Rattle.lv_board.proofs.Advancing.{installed_stays, moved_advances, one_made, others_made, raised_advances, view_stays}
use Rattle.lv_board.proofs.Seated.{install_at, read_told, same_basis, seat_fits}

module _ {S B : Type 0} (f : B → Folding) (z : Basis B) where
  -- the state that the rule knows of
  abbrev pub state_of : (s : State S (View B)) → TableHolds f z s → Config
  state_of s rule = reached (terms_of f z) rule.moves

  pub shows : (s : State S (View B)) (rule : TableHolds f z s) → Shows (terms_of f z) (state_of s rule)
  shows s rule = reached_shows (terms_of f z) rule.moves rule.terms rule.allowed

  -- a move of the seat `id` keeps the rule, if the seat's new view is true of the new state
  pub rule_moved : (s : State S (View B)) (rule : TableHolds f z s) (id i n : ℕ) (cs : List (ℕ × S)) (u : View B) (y : Actor) (m : Move) → IsSeat u → get_elem? s.views id ≡ some u → y.number ≡ u.actor.number → mover m ≡ u.actor.number → rule.owner u.actor.number ≡ id → MayMove (terms_of f z) (state_of s rule) m → (moved (state_of s rule) m).words ≡ slice_set (state_of s rule).words i n → ViewFits f z (moved (state_of s rule) m) rule.owner id (record u { actor = y; moves = m ∷ u.moves }) → TableHolds f z (stepped s i n id cs (record u { actor = y; moves = m ∷ u.moves }) keeps)
  unfolding reached
  rule_moved s rule id i n cs u y m seat here number of owned may words fits = record {
    terms = rule.terms;
    moves = m ∷ rule.moves;
    allowed = (rule.allowed, may);
    words_are = ap (λ ws. slice_set ws i n) rule.words_are ∙ sym words;
    movers = All-cons (λ l. mover l < z.seats) m rule.moves (subst (λ a. a < z.seats) (sym of) ((rule.views id u here).sits seat.sits).number) rule.movers;
    owner = rule.owner;
    views = λ j v at. ⊎_elim
        (λ (t : (j ≡ id) × (record u { actor = y; moves = m ∷ u.moves } ≡ v)). subst (λ k. ViewFits f z (moved (state_of s rule) m) rule.owner k v) (sym t.0) (subst (ViewFits f z (moved (state_of s rule) m) rule.owner id) t.1 fits))
        (λ (t : (j ≢ id) × (get_elem? s.views j ≡ some v)). view_stays f z u.actor.number (state_of s rule) (moved (state_of s rule) m) rule.owner j v (moved_advances u.actor.number (state_of s rule) m of) (λ same. t.0 (sym same ∙ owned)) (rule.views j v t.1))
        (at_set s.views id j (record u { actor = y; moves = m ∷ u.moves }) v at);
    made = λ j v at. ⊎_elim
        (λ (t : (j ≡ id) × (record u { actor = y; moves = m ∷ u.moves } ≡ v)). subst (HasMade z.seats (m ∷ rule.moves)) t.1 (one_made z.seats m rule.moves u y seat number of (rule.made id u here)))
        (λ (t : (j ≢ id) × (get_elem? s.views j ≡ some v)). others_made f z u.actor.number m rule.moves (state_of s rule) rule.owner j v of (λ same. t.0 (sym same ∙ owned)) (rule.views j v t.1) (rule.made j v t.1))
        (at_set s.views id j (record u { actor = y; moves = m ∷ u.moves }) v at);
  }

  -- a load of the descriptor
  pub looks_allowed : (slots id : ℕ) (me : Me S (View B)) → IsSeat me.0 → Allows (TableHolds f z) slots id me 0 (λ n. n) (Looks f (step slots 0 0 0 none) me)
  looks_allowed slots id me seat s rule homes at below =
      let fits = rule.views id me.0 at in
      let based = fits.based seat.sits in
      let x = fits.sits seat.sits in
      let y : Actor = record { number = me.0.actor.number; seen = (state_of s rule).history; known = (state_of s rule).history; own = me.0.actor.own; told = []; helped = false; marked = false; installed = me.0.actor.installed } in
      let show = shows s rule in
      let found : slice_index s.words 0 ≡ descriptor_of (state_of s rule).history = ap (λ ws. slice_index ws 0) rule.words_are ∙ show.first in (
        record (me.0) { actor = y; moves = Look me.0.actor.number ∷ me.0.moves },
        keeps,
        tt,
        rule_moved s rule id 0 (slice_index s.words 0) me.1 me.0 y (Look me.0.actor.number) seat at refl refl x.owner_is x.number
            (sym (ap (λ n. slice_set (state_of s rule).words 0 n) (ap (λ ws. slice_index ws 0) rule.words_are) ∙ set-get_or (state_of s rule).words 0 0))
            (seat_fits f z (looked (state_of s rule) me.0.actor.number) rule.owner id me.0 y (Look me.0.actor.number ∷ me.0.moves) seat based record {
              number = x.number;
              owner_is = x.owner_is;
              look = cond-true _ _ _ (eq-eqb me.0.actor.number me.0.actor.number refl) ∙ show.first;
              seen = Ends-whole (state_of s rule).history;
              known = Ends-whole (state_of s rule).history;
              own_is = refl;
              made = x.made;
              told = Ends-none (state_of s rule).history;
              helped = λ wrong. absurd (cc);
              marked = λ wrong. absurd (cc);
              installed = x.installed;
            }),
        (
          (refl, refl),
          record { number = refl; known = x.known; own_is = x.own_is; made = refl },
          λ b other. subst (λ b. SeesAll (terms_of f b) record { number = me.0.actor.number; seen = (state_of s rule).history; known = (state_of s rule).history; own = me.0.actor.own; told = []; helped = false; marked = false; installed = me.0.actor.installed } (slice_index s.words 0)) (same_basis f z me.0 b based other)
              record { terms = rule.terms; all = refl; found_is = found; legal = show.legal; made = x.made },
          x.told,
        ),
      )

  -- a load of another word
  pub reads_allowed : (slots id i : ℕ) (me : Me S (View B)) → IsSeat me.0 → Allows (TableHolds f z) slots id me i (λ n. n) (Reads f (step slots i 0 0 none) me)
  reads_allowed slots id i me seat s rule homes at below =
      let fits = rule.views id me.0 at in
      let based = fits.based seat.sits in
      let x = fits.sits seat.sits in
      let y : Actor = record (me.0.actor) { known = (state_of s rule).history } in
      let show = shows s rule in
      let same : slice_index s.words i ≡ slice_index (state_of s rule).words i = ap (λ ws. slice_index ws i) rule.words_are in (
        record (me.0) { actor = y; moves = Read me.0.actor.number ∷ me.0.moves },
        keeps,
        tt,
        rule_moved s rule id i (slice_index s.words i) me.1 me.0 y (Read me.0.actor.number) seat at refl refl x.owner_is tt
            (sym (ap (λ n. slice_set (state_of s rule).words i n) same ∙ set-get_or (state_of s rule).words i 0))
            (seat_fits f z (state_of s rule) rule.owner id me.0 y (Read me.0.actor.number ∷ me.0.moves) seat based record {
              number = x.number;
              owner_is = x.owner_is;
              look = x.look;
              seen = Ends-trans me.0.actor.seen me.0.actor.known (state_of s rule).history x.seen x.known;
              known = Ends-whole (state_of s rule).history;
              own_is = refl;
              made = x.made;
              told = x.told;
              helped = x.helped;
              marked = x.marked;
              installed = x.installed;
            }),
        (
          (refl, refl),
          λ b other. subst (λ b. IsRead (terms_of f b) me.0.actor (record (me.0.actor) { known = (state_of s rule).history }) i (slice_index s.words i)) (same_basis f z me.0 b based other)
              (subst (IsRead (terms_of f z) me.0.actor (record (me.0.actor) { known = (state_of s rule).history }) i) (sym same) (read_told f z (state_of s rule) rule.owner id me.0.actor i rule.terms show x)),
        ),
      )

  -- raising a word to complete a pending write, or to install a part
  raised_kept : (s : State S (View B)) (rule : TableHolds f z s) (id at n : ℕ) (me : Me S (View B)) (y : Actor) (m : Move) → IsSeat me.0 → get_elem? s.views id ≡ some me.0 → me.0.bases ≡ z ∷ [] → ActorFits z.seats (state_of s rule) rule.owner id me.0.actor → y.number ≡ me.0.actor.number → mover m ≡ me.0.actor.number → MayMove (terms_of f z) (state_of s rule) m → moved (state_of s rule) m ≡ raised (state_of s rule) at n → ActorFits z.seats (raised (state_of s rule) at n) rule.owner id y → TableHolds f z (stepped s at (max (slice_index s.words at) n) id me.1 (record (me.0) { actor = y; moves = m ∷ me.0.moves }) keeps)
  raised_kept s rule id at n me y m seat here based x number of may is fits =
      rule_moved s rule id at (max (slice_index s.words at) n) me.1 me.0 y m seat here number of x.owner_is may
      (ap (λ c. c.words) is ∙ ap (λ ws. slice_set (state_of s rule).words at (max (slice_index ws at) n)) (sym rule.words_are))
      (subst (λ c. ViewFits f z c rule.owner id (record (me.0) { actor = y; moves = m ∷ me.0.moves })) (sym is) (seat_fits f z (raised (state_of s rule) at n) rule.owner id me.0 y (m ∷ me.0.moves) seat based fits))

  -- the place of a pending write's cell, and of its block's mark, are among the words
  pending_within : (s : State S (View B)) (rule : TableHolds f z s) (x : Actor) (owner : ℕ → ℕ) (id : ℕ) → ActorFits z.seats (state_of s rule) owner id x → HasPending (descriptor_of x.seen) → index_of (descriptor_of x.seen) < capacity_of z.buckets
  pending_within s rule x owner id fits has =
      let c = state_of s rule in
      let show = shows s rule in
      (pending (terms_of f z) x.seen rule.terms (legal_earlier (terms_of f z) x.seen (state_of s rule).history (Ends-trans x.seen x.known (state_of s rule).history fits.seen fits.known) show.legal) has).within

  -- completing the cell of a pending write
  pub helps_cell_allowed : (slots id look : ℕ) (me : Me S (View B)) → IsSeat me.0 → look ≡ descriptor_of me.0.actor.seen → HasPending look → Allows (TableHolds f z) slots id me (cell_place (index_of look)) (λ n. max n (completing look)) (HelpsCell (step slots (cell_place (index_of look)) (completing look) 0 none) me)
  helps_cell_allowed slots id look me seat is has s rule homes at below =
      let fits = rule.views id me.0 at in
      let based = fits.based seat.sits in
      let x = fits.sits seat.sits in
      let show = shows s rule in
      let own_look : (state_of s rule).looks me.0.actor.number ≡ look = x.look ∙ sym is in
      let near = pending_within s rule me.0.actor rule.owner id x (subst HasPending is has) in
      let spot : ℕ = cell_place (index_of look) in
      let value : ℕ = max (slice_index (state_of s rule).words spot) (completing look) in
      let on = raised_advances me.0.actor.number (state_of s rule) spot (completing look) in
      let here : slice_index (raised (state_of s rule) spot (completing look)).words spot ≡ value = get_or-set_same (state_of s rule).words spot value 0 (let p = place_is (index_of look / 8) (index_of look % 8) in let q = ap index_of is in omega (arith, show.count)) in
      let dated : cell_version (completing look) ≡ edit_of look = cell_version-word (edit_of look) (value_of look) (value_of-short look) in (
        record (me.0) { actor = record (me.0.actor) { helped = true }; moves = HelpCell me.0.actor.number ∷ me.0.moves },
        keeps,
        tt,
        raised_kept s rule id spot (completing look) me (record (me.0.actor) { helped = true }) (HelpCell me.0.actor.number) seat at based x refl refl (subst HasPending (sym own_look) has)
            (ap (λ w. raised (state_of s rule) (cell_place (index_of w)) (completing w)) own_look)
            record {
              number = x.number;
              owner_is = x.owner_is;
              look = x.look;
              seen = x.seen;
              known = x.known;
              own_is = x.own_is;
              made = x.made;
              told = x.told;
              helped = λ _ _. subst (λ w. edit_of w ≤ cell_version (slice_index (raised (state_of s rule) spot (completing look)).words (cell_place (index_of w)))) is
                  (let more = cell_version-grows (completing look) value (omega arith) in omega (arith, ap cell_version here));
              marked = λ done pend. let was = x.marked done pend in let more = on.words (mark_place (index_of (descriptor_of me.0.actor.seen) / 8)) (λ zero. omega (arith, place_is (index_of (descriptor_of me.0.actor.seen) / 8) 8)) in omega arith;
              installed = installed_stays me.0.actor.number (state_of s rule) (raised (state_of s rule) spot (completing look)) me.0.actor.installed on x.installed;
            },
        (refl, refl),
      )

  -- completing the mark of the block of that cell
  pub helps_mark_allowed : (slots id look : ℕ) (me : Me S (View B)) → IsSeat me.0 → look ≡ descriptor_of me.0.actor.seen → HasPending look → Allows (TableHolds f z) slots id me (mark_place (index_of look / 8)) (λ n. max n (edit_of look)) (HelpsMark (step slots (mark_place (index_of look / 8)) (edit_of look) 0 none) me)
  helps_mark_allowed slots id look me seat is has s rule homes at below =
      let fits = rule.views id me.0 at in
      let based = fits.based seat.sits in
      let x = fits.sits seat.sits in
      let show = shows s rule in
      let own_look : (state_of s rule).looks me.0.actor.number ≡ look = x.look ∙ sym is in
      let near = pending_within s rule me.0.actor rule.owner id x (subst HasPending is has) in
      let spot : ℕ = mark_place (index_of look / 8) in
      let value : ℕ = max (slice_index (state_of s rule).words spot) (edit_of look) in
      let on = raised_advances me.0.actor.number (state_of s rule) spot (edit_of look) in
      let here : slice_index (raised (state_of s rule) spot (edit_of look)).words spot ≡ value = get_or-set_same (state_of s rule).words spot value 0 (let p = place_is (index_of look / 8) 8 in let q = ap index_of is in omega (arith, show.count)) in (
        record (me.0) { actor = record (me.0.actor) { marked = true }; moves = HelpMark me.0.actor.number ∷ me.0.moves },
        keeps,
        tt,
        raised_kept s rule id spot (edit_of look) me (record (me.0.actor) { marked = true }) (HelpMark me.0.actor.number) seat at based x refl refl (subst HasPending (sym own_look) has)
            (ap (λ w. raised (state_of s rule) (mark_place (index_of w / 8)) (edit_of w)) own_look)
            record {
              number = x.number;
              owner_is = x.owner_is;
              look = x.look;
              seen = x.seen;
              known = x.known;
              own_is = x.own_is;
              made = x.made;
              told = x.told;
              helped = λ done pend. let was = x.helped done pend in let more = cell_version-grows _ _ (on.words (cell_place (index_of (descriptor_of me.0.actor.seen))) (λ zero. omega (arith, place_is (index_of (descriptor_of me.0.actor.seen) / 8) (index_of (descriptor_of me.0.actor.seen) % 8)))) in omega arith;
              marked = λ _ _. subst (λ w. edit_of w ≤ slice_index (raised (state_of s rule) spot (edit_of look)).words (mark_place (index_of w / 8))) is (omega arith);
              installed = installed_stays me.0.actor.number (state_of s rule) (raised (state_of s rule) spot (edit_of look)) me.0.actor.installed on x.installed;
            },
        (refl, refl),
      )

  -- installing a part of a block that is full as the seat sees it
  pub installs_allowed : (slots id b p n : ℕ) (me : Me S (View B)) → IsSeat me.0 → b < blocks_of (terms_of f z).limits → p < (f z.body).parts → is_whole (edits_of me.0.actor.seen) (block b) ≡ true → n ≡ part_word (mark_of b me.0.actor.seen) ((f z.body).part p (elements_under (edits_of me.0.actor.seen) (block b))) → Allows (TableHolds f z) slots id me (part_place b p) (λ w. max w n) (Installs (step slots (part_place b p) n 0 none) me)
  installs_allowed slots id b p n me seat near few whole is s rule homes at below =
      let fits = rule.views id me.0 at in
      let based = fits.based seat.sits in
      let x = fits.sits seat.sits in
      let show = shows s rule in
      let seen = Ends-trans me.0.actor.seen me.0.actor.known (state_of s rule).history x.seen x.known in
      let on = raised_advances me.0.actor.number (state_of s rule) (part_place b p) n in
      let spot : ℕ = part_place b p in
      let value : ℕ = max (slice_index (state_of s rule).words spot) n in
      let here : slice_index (raised (state_of s rule) spot n).words spot ≡ value = get_or-set_same (state_of s rule).words spot value 0 (let q = place_is b (9 + p) in omega (arith, show.count, near, few, rule.terms.few_parts)) in
      let put : InstalledPart = record { place = part_place b p; word = n } in (
        record (me.0) { actor = record (me.0.actor) { installed = put ∷ me.0.actor.installed }; moves = Install me.0.actor.number b p n ∷ me.0.moves },
        keeps,
        tt,
        raised_kept s rule id (part_place b p) n me (record (me.0.actor) { installed = put ∷ me.0.actor.installed }) (Install me.0.actor.number b p n) seat at based x refl refl
            record { block = near; part = few; fits = subst (FitsPart (f z.body) (state_of s rule).history b p) (sym is) (part_fits (terms_of f z) b p me.0.actor.seen (state_of s rule).history rule.terms show.legal seen whole) }
            refl
            record {
              number = x.number;
              owner_is = x.owner_is;
              look = x.look;
              seen = x.seen;
              known = x.known;
              own_is = x.own_is;
              made = x.made;
              told = x.told;
              helped = λ done pend. let was = x.helped done pend in let more = cell_version-grows _ _ (on.words (cell_place (index_of (descriptor_of me.0.actor.seen))) (λ zero. omega (arith, place_is (index_of (descriptor_of me.0.actor.seen) / 8) (index_of (descriptor_of me.0.actor.seen) % 8)))) in omega arith;
              marked = λ done pend. let was = x.marked done pend in let more = on.words (mark_place (index_of (descriptor_of me.0.actor.seen) / 8)) (λ zero. omega (arith, place_is (index_of (descriptor_of me.0.actor.seen) / 8) 8)) in omega arith;
              installed = All-cons (IsThere (raised (state_of s rule) (part_place b p) n).words) put me.0.actor.installed
                  record { some = omega (arith, place_is b (9 + p)); word = omega (arith, here) }
                  (installed_stays me.0.actor.number (state_of s rule) (raised (state_of s rule) (part_place b p) n) me.0.actor.installed on x.installed);
            },
        (refl, ap (λ made. record (me.0) { actor = record (me.0.actor) { installed = put ∷ me.0.actor.installed }; moves = made ∷ me.0.moves }) (install_at me.0.actor.number b p n (omega (arith, few, rule.terms.few_parts)))),
      )

-- these steps at the table's key, and at the places and words that the code computes
module _ {S B : Type 0} (f : B → Folding) (z key : Basis B) (is_key : key ≡ z) (slots id : ℕ) (me : Me S (View B)) (seat : IsSeat me.0) where
  pub looks_at_key : Allows (TableHolds f key) slots id me 0 (λ n. n) (Looks f (step slots 0 0 0 none) me)
  looks_at_key = subst (λ k. Allows (TableHolds f k) slots id me 0 (λ n. n) (Looks f (step slots 0 0 0 none) me)) (sym is_key) (looks_allowed f z slots id me seat)

  pub reads_at_key : (i : ℕ) → Allows (TableHolds f key) slots id me i (λ n. n) (Reads f (step slots i 0 0 none) me)
  reads_at_key i = subst (λ k. Allows (TableHolds f k) slots id me i (λ n. n) (Reads f (step slots i 0 0 none) me)) (sym is_key) (reads_allowed f z slots id i me seat)

  pub helps_cell_at_key : (look i n : ℕ) → look ≡ descriptor_of me.0.actor.seen → HasPending look → i ≡ cell_place (index_of look) → n ≡ completing look → Allows (TableHolds f key) slots id me i (λ w. max w n) (HelpsCell (step slots i n 0 none) me)
  helps_cell_at_key look i n is has at word =
      subst (λ k. Allows (TableHolds f k) slots id me i (λ w. max w n) (HelpsCell (step slots i n 0 none) me)) (sym is_key)
      (subst (λ p. Allows (TableHolds f z) slots id me p (λ w. max w n) (HelpsCell (step slots p n 0 none) me)) (sym at)
      (subst (λ v. Allows (TableHolds f z) slots id me (cell_place (index_of look)) (λ w. max w v) (HelpsCell (step slots (cell_place (index_of look)) v 0 none) me)) (sym word)
      (helps_cell_allowed f z slots id look me seat is has)))

  pub helps_mark_at_key : (look i n : ℕ) → look ≡ descriptor_of me.0.actor.seen → HasPending look → i ≡ mark_place (index_of look / 8) → n ≡ edit_of look → Allows (TableHolds f key) slots id me i (λ w. max w n) (HelpsMark (step slots i n 0 none) me)
  helps_mark_at_key look i n is has at word =
      subst (λ k. Allows (TableHolds f k) slots id me i (λ w. max w n) (HelpsMark (step slots i n 0 none) me)) (sym is_key)
      (subst (λ p. Allows (TableHolds f z) slots id me p (λ w. max w n) (HelpsMark (step slots p n 0 none) me)) (sym at)
      (subst (λ v. Allows (TableHolds f z) slots id me (mark_place (index_of look / 8)) (λ w. max w v) (HelpsMark (step slots (mark_place (index_of look / 8)) v 0 none) me)) (sym word)
      (helps_mark_allowed f z slots id look me seat is has)))

  pub installs_at_key : (b p i n : ℕ) → b < blocks_of (terms_of f z).limits → p < (f z.body).parts → is_whole (edits_of me.0.actor.seen) (block b) ≡ true → n ≡ part_word (mark_of b me.0.actor.seen) ((f z.body).part p (elements_under (edits_of me.0.actor.seen) (block b))) → i ≡ part_place b p → Allows (TableHolds f key) slots id me i (λ w. max w n) (Installs (step slots i n 0 none) me)
  installs_at_key b p i n near few whole word at =
      subst (λ k. Allows (TableHolds f k) slots id me i (λ w. max w n) (Installs (step slots i n 0 none) me)) (sym is_key)
      (subst (λ q. Allows (TableHolds f z) slots id me q (λ w. max w n) (Installs (step slots q n 0 none) me)) (sym at)
      (installs_allowed f z slots id b p n me seat near few whole word))
