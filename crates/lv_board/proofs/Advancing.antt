-- What a move of one actor leaves unchanged for the others.
use Rattle.std.proofs.Common.{◌≡◌, ◌≢◌, ℕ, zero, suc, ◌/◌, ◌≤◌, max, Bool, true, false, nat_eq, List, [], ◌∷◌, slice_index, slice_set, refl, sym, ap, ◌∙◌, subst, arith}
use Rattle.std.specs.Prelude.{All, if◌then◌else◌}
use Rattle.std.proofs.lemmas.Bool.{cond-false, cond-true, eq-eqb, false≢true}
use Rattle.std.proofs.lemmas.Bool.Decides.{nat_tests}
use Rattle.std.proofs.lemmas.List.{get_or-set_other}
use Rattle.std.proofs.lemmas.List.Elements.{All-weaker}
use Rattle.lv_edits.specs.declared.edit.Edit.{Edit}
use Rattle.lv_machine.specs.declared.entries.Entry.{Entry}
use Rattle.lv_machine.specs.History.{descriptor_of, Ends, own}
use Rattle.lv_machine.specs.Layout.{cell_place, mark_place, place}
use Rattle.lv_machine.specs.declared.moves.Move.{Move}
use Rattle.lv_machine.specs.declared.moves.Move.TheVariants.{Look, Exchange, HelpCell, HelpMark, Install, Read}
use Rattle.lv_machine.specs.Moves.{accepted, Config, look_set, looked, made_by, moved, mover, raised}
use Rattle.lv_machine.specs.Terms.{Folding}
use Rattle.lv_machine.specs.Words.{descriptor_after, index_of}
use Rattle.lv_machine.proofs.EndsLaws.{Ends-cons, Ends-trans, Ends-whole}
use Rattle.lv_machine.proofs.ShowsLaws.{place_is}
use Rattle.lv_machine.proofs.WordLaws.{cell_version-grows}
use Rattle.lv_board.specs.declared.actors.Actor.{Actor}
use Rattle.lv_board.specs.declared.actors.Basis.{Basis}
use Rattle.lv_board.specs.declared.actors.InstalledPart.{InstalledPart}
use Rattle.lv_board.specs.declared.actors.View.{View}
use Rattle.lv_board.specs.Rule.{ActorFits, IsThere}
use Rattle.lv_board.specs.TableRule.{HasMade, IsSeat, ViewFits}

-- A state leads to another by a move of actor a. The history grows only by updates of a, other looks stay, and only the descriptor can become
-- smaller.
pub record Advances (a : ℕ) (c d : Config) : Type 0 where
  pub history : Ends c.history d.history
  pub own_is : (b : ℕ) → b ≢ a → own b d.history ≡ own b c.history
  pub looks : (b : ℕ) → b ≢ a → d.looks b ≡ c.looks b
  pub words : (q : ℕ) → q ≢ 0 → slice_index c.words q ≤ slice_index d.words q

other_look : (a b word : ℕ) (looks : ℕ → ℕ) → b ≢ a → look_set a word looks b ≡ looks b
other_look a b word looks apart = let e : nat_eq b a ≡ false = grind (arith, nat_tests) in cond-false _ _ _ e

pub own-other : (b : ℕ) (e : Entry) (h : List Entry) → e.actor ≢ b → own b (e ∷ h) ≡ own b h
unfolding own
own-other b e h apart = let q : nat_eq (e.actor) b ≡ false = grind (arith, nat_tests) in cond-false _ _ _ q

pub own-same : (b : ℕ) (e : Entry) (h : List Entry) → e.actor ≡ b → own b (e ∷ h) ≡ e ∷ own b h
unfolding own
own-same b e h same = cond-true _ _ _ (eq-eqb _ _ same)

pub own-nil : (b : ℕ) → own b [] ≡ []
unfolding own
own-nil b = refl

raised_words : (words : List ℕ) (at n q : ℕ) → slice_index words q ≤ slice_index (slice_set words at (max (slice_index words at) n)) q
raised_words [] at n q = omega arith
raised_words (x ∷ xs) zero n zero = omega arith
raised_words (x ∷ xs) zero n (suc q) = omega arith
raised_words (x ∷ xs) (suc at) n zero = omega arith
raised_words (x ∷ xs) (suc at) n (suc q) = raised_words xs at n q

pub raised_advances : (a : ℕ) (c : Config) (at n : ℕ) → Advances a c (raised c at n)
raised_advances a c at n = record {
  history = Ends-whole c.history;
  own_is = λ b apart. refl;
  looks = λ b apart. refl;
  words = λ q some. raised_words c.words at n q;
}

pub looked_advances : (a : ℕ) (c : Config) → Advances a c (looked c a)
looked_advances a c = record {
  history = Ends-whole c.history;
  own_is = λ b apart. refl;
  looks = λ b apart. other_look a b (slice_index c.words 0) c.looks apart;
  words = λ q some. omega arith;
}

pub accepted_advances : (a : ℕ) (c : Config) (e : Edit) → Advances a c (accepted c a e)
accepted_advances a c e = record {
  history = Ends-cons c.history c.history record { actor = a; edit = e } (Ends-whole c.history);
  own_is = λ b apart. own-other b record { actor = a; edit = e } c.history (λ same. apart (sym same));
  looks = λ b apart. other_look a b _ c.looks apart;
  words = λ q some. omega (arith, get_or-set_other c.words 0 q (descriptor_after (c.looks a) e) 0 some);
}

exchanged_advances : (a : ℕ) (c : Config) (e : Edit) (found : Bool) → Advances a c (if found then accepted c a e else looked c a)
exchanged_advances a c e true = accepted_advances a c e
exchanged_advances a c e false = looked_advances a c

-- the moves of a list that one actor made, with one more move
made_by-same : (a : ℕ) (m : Move) (ms : List Move) → mover m ≡ a → made_by a (m ∷ ms) ≡ m ∷ made_by a ms
unfolding made_by
made_by-same a m ms of = cond-true _ _ _ (eq-eqb _ _ of)

made_by-other : (a b : ℕ) (m : Move) (ms : List Move) → mover m ≡ a → b ≢ a → made_by b (m ∷ ms) ≡ made_by b ms
unfolding made_by
made_by-other a b m ms of apart =
    let other : mover m ≢ b = λ same. apart (sym same ∙ of) in
    let q : nat_eq (mover m) b ≡ false = grind (arith, nat_tests) in
    cond-false _ _ _ q

pub made_by-nil : (a : ℕ) → made_by a [] ≡ []
unfolding made_by
made_by-nil a = refl

-- a seat that makes a move has made one more
pub one_made : {B : Type 0} (seats : ℕ) (m : Move) (ms : List Move) (v : View B) (y : Actor) → IsSeat v → y.number ≡ v.actor.number → mover m ≡ v.actor.number → HasMade seats ms v → HasMade seats (m ∷ ms) (record v { actor = y; moves = m ∷ v.moves })
one_made seats m ms v y seat number of made = record {
  sits = λ s. ap (λ n. made_by n (m ∷ ms)) number ∙ made_by-same v.actor.number m ms of ∙ ap (λ l. m ∷ l) (made.sits s);
  deals = λ wrong. absurd (false≢true (sym seat.deals ∙ wrong));
}

stays : (a : ℕ) (c : Config) → Advances a c c
stays a c = record { history = Ends-whole c.history; own_is = λ b apart. refl; looks = λ b apart. refl; words = λ q some. omega arith }

-- what a move leaves unchanged for the seats that didn't make it
pub moved_advances : (a : ℕ) (c : Config) (m : Move) → mover m ≡ a → Advances a c (moved c m)
moved_advances a c (Look b) is = subst (λ n. Advances n c (looked c b)) is (looked_advances b c)
moved_advances a c (Exchange b e) is = subst (λ n. Advances n c (moved c (Exchange b e))) is (exchanged_advances b c e (nat_eq (slice_index c.words 0) (c.looks b)))
moved_advances a c (HelpCell b) is = raised_advances a c _ _
moved_advances a c (HelpMark b) is = raised_advances a c _ _
moved_advances a c (Install b block part word) is = raised_advances a c _ _
moved_advances a c (Read b) is = stays a c

no_place_first : (b r : ℕ) → place b r ≢ 0
no_place_first b r is = omega (arith, place_is b r)

-- parts that were installed are still there after any move, or are displaced by later ones
pub installed_stays : (a : ℕ) (c d : Config) (xs : List InstalledPart) → Advances a c d → All (IsThere c.words) xs → All (IsThere d.words) xs
installed_stays a c d xs on = All-weaker (IsThere c.words) (IsThere d.words) (λ p was. let more = on.words p.place (λ zero. omega (arith, was.some)) in record { some = was.some; word = omega (arith, was.word) }) xs

-- what another seat's actor knows remains true
pub actor_stays : (seats a : ℕ) (c d : Config) (owner : ℕ → ℕ) (id : ℕ) (x : Actor) → Advances a c d → x.number ≢ a → ActorFits seats c owner id x → ActorFits seats d owner id x
actor_stays seats a c d owner id x on apart fits = record {
  number = fits.number;
  owner_is = fits.owner_is;
  look = on.looks x.number apart ∙ fits.look;
  seen = fits.seen;
  known = Ends-trans x.known c.history d.history fits.known on.history;
  own_is = on.own_is x.number apart ∙ fits.own_is;
  made = on.own_is x.number apart ∙ fits.made;
  told = Ends-trans x.told c.history d.history fits.told on.history;
  helped = λ done has.
      let was = fits.helped done has in
      let more = cell_version-grows _ _ (on.words (cell_place (index_of (descriptor_of x.seen))) (no_place_first _ _)) in
      omega arith;
  marked = λ done has.
      let was = fits.marked done has in
      let more = on.words (mark_place (index_of (descriptor_of x.seen) / 8)) (no_place_first _ _) in
      omega arith;
  installed = installed_stays a c d x.installed on fits.installed;
}

module _ {B : Type 0} (f : B → Folding) where
  -- what another token's view says remains true
  pub view_stays : (z : Basis B) (a : ℕ) (c d : Config) (owner : ℕ → ℕ) (id : ℕ) (v : View B) → Advances a c d → owner a ≢ id → ViewFits f z c owner id v → ViewFits f z d owner id v
  view_stays z a c d owner id v on apart fits =
      let other : (n : ℕ) → owner n ≡ id → n ≢ a = λ n is same. apart (ap owner (sym same) ∙ is) in
      record {
        known = Ends-trans v.actor.known c.history d.history fits.known on.history;
        based = fits.based;
        sits = λ s. let x = fits.sits s in actor_stays z.seats a c d owner id v.actor on (other v.actor.number x.owner_is) x;
        deals = λ s n from below.
            let u = fits.deals s n from below in
            record { owner_is = u.owner_is; look = on.looks n (other n u.owner_is) ∙ u.look; own_is = on.own_is n (other n u.owner_is) ∙ u.own_is };
        more = All-weaker (ActorFits z.seats c owner id) (ActorFits z.seats d owner id) (λ x y. actor_stays z.seats a c d owner id x on (other x.number y.owner_is) y) v.more fits.more;
      }

  -- another seat's moves are still those that it made
  pub others_made : (z : Basis B) (a : ℕ) (m : Move) (ms : List Move) (c : Config) (owner : ℕ → ℕ) (id : ℕ) (v : View B) → mover m ≡ a → owner a ≢ id → ViewFits f z c owner id v → HasMade z.seats ms v → HasMade z.seats (m ∷ ms) v
  others_made z a m ms c owner id v of apart fits made =
      let other : (n : ℕ) → owner n ≡ id → n ≢ a = λ n is same. apart (ap owner (sym same) ∙ is) in
      record {
        sits = λ s. made_by-other a v.actor.number m ms of (other v.actor.number (fits.sits s).owner_is) ∙ made.sits s;
        deals = λ s n from below. made_by-other a n m ms of (other n (fits.deals s n from below).owner_is) ∙ made.deals s n from below;
      }
