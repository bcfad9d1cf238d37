-- What holds of a seat in a state, and what a load guarantees to its actor.
use Rattle.std.proofs.Common.{◌≡◌, ◌≢◌, ℕ, ◌+◌, ◌-◌, ◌*◌, ◌/◌, ◌%◌, ◌<◌, true, false, List, [], ◌∷◌, slice_index, refl, sym, ap, ◌∙◌, subst, arith}
use Rattle.std.proofs.lemmas.Bool.{false≢true}
use Rattle.std.proofs.lemmas.List.Elements.{All-nil, All-same}
use Rattle.lv_machine.specs.History.{cell_of, descriptor_of}
use Rattle.lv_machine.specs.Layout.{block_at, cell_place, mark_place, part_place, row_at}
use Rattle.lv_machine.specs.declared.moves.Move.{Move}
use Rattle.lv_machine.specs.declared.moves.Move.TheVariants.{Install}
use Rattle.lv_machine.specs.Moves.{Config, Shows}
use Rattle.lv_machine.specs.Shows.{block, Fits, FitsPart, IsCellRead, IsMarkRead}
use Rattle.lv_machine.specs.Terms.{AreTerms, Folding}
use Rattle.lv_machine.specs.Words.{cell_version, HasPending}
use Rattle.lv_machine.proofs.EndsLaws.{Ends-trans, legal_earlier}
use Rattle.lv_machine.proofs.HistoryLaws.{decoded}
use Rattle.lv_machine.proofs.ReadLaws.{cell_read, mark_read}
use Rattle.lv_machine.proofs.ShowsLaws.{few_blocks, place_is}
use Rattle.lv_board.specs.declared.actors.Actor.{Actor}
use Rattle.lv_board.specs.declared.actors.Basis.{Basis}
use Rattle.lv_board.specs.declared.actors.View.{View}
use Rattle.lv_board.specs.Plays.{IsRead}
use Rattle.lv_board.specs.Rule.{ActorFits, terms_of}
use Rattle.lv_board.specs.TableRule.{IsSeat, ViewFits}

-- the block and the part of a part's place
pub install_at : (a b p n : ℕ) → p < 4 → Install a b p n ≡ Install a (block_at (part_place b p)) (row_at (part_place b p) - 9) n
install_at a b p n few =
    let spot = place_is b (9 + p) in
    let which : b ≡ block_at (part_place b p) = omega (arith, spot) in
    let row : p ≡ row_at (part_place b p) - 9 = omega (arith, spot) in
    ap (λ c. Install a c p n) which ∙ ap (λ q. Install a (block_at (part_place b p)) q n) row

first_same : {A : Type 0} (x y : A) → x ∷ [] ≡ y ∷ [] → x ≡ y
first_same x y e = cc

module _ {B : Type 0} (f : B → Folding) (z : Basis B) where
  -- the view of a seat whose actor's knowledge is true
  pub seat_fits : (d : Config) (owner : ℕ → ℕ) (id : ℕ) (v : View B) (y : Actor) (moves : List Move) → IsSeat v → v.bases ≡ z ∷ [] → ActorFits z.seats d owner id y → ViewFits f z d owner id (record v { actor = y; moves = moves })
  seat_fits d owner id v y moves seat based fits = record {
    known = fits.known;
    based = λ _. based;
    sits = λ _. fits;
    deals = λ wrong. absurd (false≢true (sym seat.deals ∙ wrong));
    more = All-same (ActorFits z.seats d owner id) v.more [] seat.more (All-nil (ActorFits z.seats d owner id));
  }

  -- a basis that a seat's view names is the board's
  pub same_basis : (v : View B) (y : Basis B) → v.bases ≡ z ∷ [] → v.bases ≡ y ∷ [] → z ≡ y
  same_basis v y based other = first_same z y (sym based ∙ other)

  -- what a load of a word of a state guarantees to an actor
  pub read_told : (c : Config) (owner : ℕ → ℕ) (id : ℕ) (x : Actor) (place' : ℕ) → AreTerms (terms_of f z) → Shows (terms_of f z) c → ActorFits z.seats c owner id x → IsRead (terms_of f z) x (record x { known = c.history }) place' (slice_index c.words place')
  read_told c owner id x place' terms show fits =
      let seen = Ends-trans x.seen x.known c.history fits.seen fits.known in
      let legal = legal_earlier (terms_of f z) x.seen c.history seen show.legal in
      let edit = (decoded (terms_of f z) x.seen terms legal).edit in
      record {
        terms = terms;
        quiet = record { number = refl; known = fits.known; own_is = fits.own_is; made = refl };
        rest = refl;
        seen = seen;
        legal = show.legal;
        cell = λ i within at done. subst (λ p. IsCellRead i x.seen c.history (slice_index c.words p)) (sym at)
            (cell_read (terms_of f z) i x.seen c.history (slice_index c.words (cell_place i)) terms show.legal seen
            (let e : 8 * (i / 8) + i % 8 ≡ i = omega arith in subst (λ j. Fits (cell_of j) c.history (slice_index c.words (cell_place i))) e ((show.places (i / 8) (i % 8) (omega arith) (omega arith)).cell (omega arith)))
            (λ is. let few = few_blocks (terms_of f z) terms in let has : HasPending (descriptor_of x.seen) = omega arith in omega (arith, fits.helped (done has) has, ap (λ j. cell_version (slice_index c.words (cell_place j))) is)));
        mark = λ b within at done. subst (λ p. IsMarkRead b x.seen c.history (slice_index c.words p)) (sym at)
            (mark_read (terms_of f z) b x.seen c.history (slice_index c.words (mark_place b)) terms within show.legal seen
            ((show.places b 8 within (omega arith)).mark refl)
            (λ has is. omega (arith, fits.marked (done has) has, ap (λ j. slice_index c.words (mark_place j)) is)));
        part = λ b p within few at. subst (λ q. FitsPart (f z.body) c.history b p (slice_index c.words q)) (sym at)
            (let e : (9 + p) - 9 ≡ p = omega arith in let four = terms.few_parts in subst (λ q. FitsPart (f z.body) c.history b q (slice_index c.words (part_place b p))) e ((show.places b (9 + p) within (omega arith)).part (omega arith)));
      }
