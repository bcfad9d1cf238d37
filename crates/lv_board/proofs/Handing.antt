-- Splitting and joining views keeps the rule: seats are dealt, pass on what they know, and are merged.
use Rattle.std.proofs.Common.{◌≡◌, ◌≢◌, ◌⊎◌, ℕ, zero, suc, ◌+◌, ◌<◌, true, false, nat_eq, List, [], ◌∷◌, ◌++◌, length, refl, sym, ap, ◌∙◌, subst, inl, inr, ⊎_elim, length-set, arith}
use Rattle.std.specs.Prelude.{if◌then◌else◌}
use Rattle.std.proofs.lemmas.Bool.{cond-false, cond-true, eq-eqb, false≢true}
use Rattle.std.proofs.lemmas.Bool.Decides.{nat_tests}
use Rattle.std.proofs.lemmas.List.{append-nil}
use Rattle.std.proofs.lemmas.List.Elements.{All-append, All-cons, All-nil, All-weaker}
use mathlib.Core.Option.{some, some-injective, some-ne-none}
use lib.ListN.{get_elem?, set}
use Rattle.atomic_table.specs.Table.{State, Joins, Splits}
use Rattle.atomic_table.proofs.Lists.{at_set}
use Rattle.lv_machine.specs.declared.entries.Entry.{Entry}
use Rattle.lv_machine.specs.declared.moves.Move.{Move}
use Rattle.lv_machine.specs.History.{descriptor_of, Ends, own}
use Rattle.lv_machine.specs.Moves.{Config, reached}
use Rattle.lv_machine.specs.Terms.{Folding}
use Rattle.lv_board.specs.declared.actors.Actor.{Actor}
use Rattle.lv_board.specs.declared.actors.Basis.{Basis}
use Rattle.lv_board.specs.declared.actors.View.{View}
use Rattle.lv_board.specs.Rule.{ActorFits, IsThere, newcomer, terms_of}
use Rattle.lv_board.specs.TableRule.{dealer_from, gathered, HasMade, TableHolds, informed, IsSeat, note, spent, ViewFits}
use Rattle.lv_board.proofs.Advancing.{own-nil}

-- the empty history is an earlier state of every history
pub Ends-none : (h : List Entry) → Ends [] h
Ends-none h = record { later = h; whole_is = sym (append-nil h) }

-- one more element at the end of a list
at_end : {A : Type 0} (l : List A) (a b : A) (j : ℕ) → get_elem? (l ++ a ∷ []) j ≡ some b → (get_elem? l j ≡ some b) ⊎ ((j ≡ length l) × (a ≡ b))
at_end [] a b zero e = inr (refl, some-injective a b e)
at_end [] a b (suc j) e = absurd (some-ne-none b (sym e))
at_end (x ∷ xs) a b zero e = inl e
at_end (x ∷ xs) a b (suc j) e = ⊎_elim (λ here. inl here) (λ (t : (j ≡ length xs) × (a ≡ b)). inr (ap suc t.0, t.1)) (at_end xs a b j e)

there_below : {A : Type 0} (l : List A) (b : A) (j : ℕ) → get_elem? l j ≡ some b → j < length l
there_below [] b j e = absurd (some-ne-none b (sym e))
there_below (x ∷ xs) b zero e = omega arith
there_below (x ∷ xs) b (suc j) e = let less = there_below xs b j e in omega arith

-- an actor fits another token if its number has another owner
refit : (seats : ℕ) (c : Config) (owner owner' : ℕ → ℕ) (id id' : ℕ) (x : Actor) → ActorFits seats c owner id x → owner' x.number ≡ id' → ActorFits seats c owner' id' x
refit seats c owner owner' id id' x fits is = record {
  number = fits.number;
  owner_is = is;
  look = fits.look;
  seen = fits.seen;
  known = fits.known;
  own_is = fits.own_is;
  made = fits.made;
  told = fits.told;
  helped = fits.helped;
  marked = fits.marked;
  installed = fits.installed;
}

abbrev owner_dealt : (ℕ → ℕ) → ℕ → ℕ → ℕ → ℕ
owner_dealt owner k new n = if nat_eq n k then new else owner n

ne-nat_eq : (m n : ℕ) → m ≢ n → nat_eq m n ≡ false
ne-nat_eq m n apart = grind (arith, nat_tests)

abbrev owner_taken : (ℕ → ℕ) → ℕ → ℕ → ℕ → ℕ
owner_taken owner id other n = if nat_eq (owner n) other then id else owner n

module _ {B : Type 0} (f : B → Folding) (z : Basis B) where
  -- a view whose actors keep their owners
  view_refit : (c : Config) (owner owner' : ℕ → ℕ) (id : ℕ) (v : View B) → ((n : ℕ) → owner n ≡ id → owner' n ≡ id) → ViewFits f z c owner id v → ViewFits f z c owner' id v
  view_refit c owner owner' id v same fits = record {
    known = fits.known;
    based = fits.based;
    sits = λ s. let x = fits.sits s in refit z.seats c owner owner' id id v.actor x (same v.actor.number x.owner_is);
    deals = λ s n from below. let u = fits.deals s n from below in record { owner_is = same n u.owner_is; look = u.look; own_is = u.own_is };
    more = All-weaker (ActorFits z.seats c owner id) (ActorFits z.seats c owner' id) (λ x y. refit z.seats c owner owner' id id x y (same x.number y.owner_is)) v.more fits.more;
  }

  -- a view that says nothing except what it knows
  quiet_fits : (c : Config) (owner : ℕ → ℕ) (id : ℕ) (k : List Entry) → Ends k c.history → ViewFits f z c owner id record { actor = record { number = 0; seen = []; known = k; own = []; told = []; helped = false; marked = false; installed = [] }; sits = false; deals = false; bases = []; moves = []; more = [] }
  quiet_fits c owner id k known = record {
    known = known;
    based = λ wrong. absurd (false≢true wrong);
    sits = λ wrong. absurd (false≢true wrong);
    deals = λ wrong. absurd (false≢true wrong);
    more = All-nil (ActorFits z.seats c owner id);
  }

  newcomer_fits : (c : Config) (owner : ℕ → ℕ) (id k : ℕ) → k < z.seats → owner k ≡ id → c.looks k ≡ descriptor_of [] → own k c.history ≡ [] → ViewFits f z c owner id record { actor = newcomer k; sits = true; deals = false; bases = z ∷ []; moves = []; more = [] }
  newcomer_fits c owner id k below is look idle = record {
    known = Ends-none c.history;
    based = λ _. refl;
    sits = λ _. record {
      number = below;
      owner_is = is;
      look = look;
      seen = Ends-none [];
      known = Ends-none c.history;
      own_is = idle ∙ sym (own-nil k);
      made = idle;
      told = Ends-none c.history;
      helped = λ wrong. absurd (false≢true wrong);
      marked = λ wrong. absurd (false≢true wrong);
      installed = All-nil (IsThere c.words);
    };
    deals = λ wrong. absurd (false≢true wrong);
    more = All-nil (ActorFits z.seats c owner id);
  }

-- a view that neither sits nor deals says nothing of who made which moves
none_made : {B : Type 0} {seats : ℕ} {moves : List Move} {x : Actor} → HasMade {B = B} seats moves record { actor = x; sits = false; deals = false; bases = []; moves = []; more = [] }
none_made = record { sits = λ wrong. absurd (false≢true wrong); deals = λ wrong. absurd (false≢true wrong) }

module _ {S B : Type 0} (f : B → Folding) (z : Basis B) where
  abbrev state_of : (s : State S (View B)) → TableHolds f z s → Config
  state_of s rule = reached (terms_of f z) rule.moves

module _ (S : Type 0) {B : Type 0} (f : B → Folding) (z : Basis B) where
  -- the dealer deals its next seat
  pub deals : (id k : ℕ) → k < z.seats → Splits {S = S} (TableHolds f z) id (dealer_from z k) (dealer_from z (k + 1)) record { actor = newcomer k; sits = true; deals = false; bases = z ∷ []; moves = []; more = [] }
  deals id k below s rule at =
      let c = state_of f z s rule in
      let new : ℕ = length s.views in
      let owner' : ℕ → ℕ = owner_dealt rule.owner k (length s.views) in
      let was = rule.views id (dealer_from z k) at in
      let mine = was.deals refl k (omega arith) below in
      let kept = λ (n : ℕ) (apart : n ≢ k). cond-false (nat_eq n k) (length s.views) (rule.owner n) (grind (arith, nat_tests)) in
      record {
        terms = rule.terms;
        moves = rule.moves;
        allowed = rule.allowed;
        words_are = rule.words_are;
        movers = rule.movers;
        owner = owner_dealt rule.owner k (length s.views);
        views = λ j v there. ⊎_elim
            (λ (old : get_elem? (set s.views id (dealer_from z (k + 1))) j ≡ some v). ⊎_elim
            (λ (t : (j ≡ id) × (dealer_from z (k + 1) ≡ v)). subst (λ i. ViewFits f z (state_of f z s rule) (owner_dealt rule.owner k (length s.views)) i v) (sym t.0) (subst (ViewFits f z (state_of f z s rule) (owner_dealt rule.owner k (length s.views)) id) t.1 record {
              known = Ends-none (state_of f z s rule).history;
              based = λ wrong. absurd (false≢true wrong);
              sits = λ wrong. absurd (false≢true wrong);
              deals = λ _ n from under. let u = was.deals refl n (omega arith) under in let apart : n ≢ k = omega arith in record { owner_is = kept n apart ∙ u.owner_is; look = u.look; own_is = u.own_is };
              more = All-nil (ActorFits z.seats (state_of f z s rule) (owner_dealt rule.owner k (length s.views)) id);
            }))
            (λ (t : (j ≢ id) × (get_elem? s.views j ≡ some v)). view_refit f z (state_of f z s rule) rule.owner (owner_dealt rule.owner k (length s.views)) j v
            (λ n is. kept n (λ same. t.0 (sym is ∙ ap rule.owner same ∙ mine.owner_is)) ∙ is) (rule.views j v t.1))
            (at_set s.views id j (dealer_from z (k + 1)) v old))
            (λ (t : (j ≡ length (set s.views id (dealer_from z (k + 1)))) × (record { actor = newcomer k; sits = true; deals = false; bases = z ∷ []; moves = []; more = [] } ≡ v)).
            subst (ViewFits f z (state_of f z s rule) (owner_dealt rule.owner k (length s.views)) j) t.1
            (newcomer_fits f z (state_of f z s rule) (owner_dealt rule.owner k (length s.views)) j k below (cond-true _ _ _ (eq-eqb k k refl) ∙ sym (t.0 ∙ length-set s.views id (dealer_from z (k + 1)))) mine.look mine.own_is))
            (at_end (set s.views id (dealer_from z (k + 1))) record { actor = newcomer k; sits = true; deals = false; bases = z ∷ []; moves = []; more = [] } v j there);
        made = λ j v there. ⊎_elim
            (λ (old : get_elem? (set s.views id (dealer_from z (k + 1))) j ≡ some v). ⊎_elim
            (λ (t : (j ≡ id) × (dealer_from z (k + 1) ≡ v)). subst (HasMade z.seats rule.moves) t.1 record {
              sits = λ wrong. absurd (false≢true wrong);
              deals = λ _ n from under. (rule.made id (dealer_from z k) at).deals refl n (omega arith) under;
            })
            (λ (t : (j ≢ id) × (get_elem? s.views j ≡ some v)). rule.made j v t.1)
            (at_set s.views id j (dealer_from z (k + 1)) v old))
            (λ (t : (j ≡ length (set s.views id (dealer_from z (k + 1)))) × (record { actor = newcomer k; sits = true; deals = false; bases = z ∷ []; moves = []; more = [] } ≡ v)).
            subst (HasMade z.seats rule.moves) t.1 record {
              sits = λ _. (rule.made id (dealer_from z k) at).deals refl k (omega arith) below;
              deals = λ wrong. absurd (false≢true wrong);
            })
            (at_end (set s.views id (dealer_from z (k + 1))) record { actor = newcomer k; sits = true; deals = false; bases = z ∷ []; moves = []; more = [] } v j there);
      }

  -- a note of what a seat knows is split off
  pub notes : (id : ℕ) (v : View B) → Splits {S = S} (TableHolds f z) id v v (note v)
  notes id v s rule at = record {
    terms = rule.terms;
    moves = rule.moves;
    allowed = rule.allowed;
    words_are = rule.words_are;
    movers = rule.movers;
    owner = rule.owner;
    views = λ j w there. ⊎_elim
        (λ (old : get_elem? (set s.views id v) j ≡ some w). ⊎_elim
        (λ (t : (j ≡ id) × (v ≡ w)). subst (λ i. ViewFits f z (state_of f z s rule) rule.owner i w) (sym t.0) (subst (ViewFits f z (state_of f z s rule) rule.owner id) t.1 (rule.views id v at)))
        (λ (t : (j ≢ id) × (get_elem? s.views j ≡ some w)). rule.views j w t.1)
        (at_set s.views id j v w old))
        (λ (t : (j ≡ length (set s.views id v)) × (note v ≡ w)). subst (ViewFits f z (state_of f z s rule) rule.owner j) t.1 (quiet_fits f z (state_of f z s rule) rule.owner j v.actor.known (rule.views id v at).known))
        (at_end (set s.views id v) (note v) w j there);
    made = λ j w there. ⊎_elim
        (λ (old : get_elem? (set s.views id v) j ≡ some w). ⊎_elim
        (λ (t : (j ≡ id) × (v ≡ w)). subst (HasMade z.seats rule.moves) t.1 (rule.made id v at))
        (λ (t : (j ≢ id) × (get_elem? s.views j ≡ some w)). rule.made j w t.1)
        (at_set s.views id j v w old))
        (λ (t : (j ≡ length (set s.views id v)) × (note v ≡ w)). subst (HasMade z.seats rule.moves) t.1 none_made)
        (at_end (set s.views id v) (note v) w j there);
  }

module _ (S : Type 0) {B : Type 0} (f : B → Folding) (z : Basis B) where
  -- a seat reads a note
  pub informs : (id : ℕ) (v : View B) (other : ℕ) (w : View B) → IsSeat v → Joins {S = S} (TableHolds f z) id v other w (informed v w) spent
  informs id v other w seat s rule at apart there =
      let c = state_of f z s rule in
      let mine = rule.views id v at in
      let x = mine.sits seat.sits in
      let theirs : get_elem? s.views other ≡ some w = ⊎_elim (λ (t : (other ≡ id) × (informed v w ≡ w)). absurd (apart t.0)) (λ (t : (other ≢ id) × (get_elem? s.views other ≡ some w)). t.1) (at_set s.views id other (informed v w) w there) in
      record {
        terms = rule.terms;
        moves = rule.moves;
        allowed = rule.allowed;
        words_are = rule.words_are;
        movers = rule.movers;
        owner = rule.owner;
        views = λ j u here. ⊎_elim
            (λ (t : (j ≡ other) × (spent ≡ u)). subst (ViewFits f z (state_of f z s rule) rule.owner j) t.1 (quiet_fits f z (state_of f z s rule) rule.owner j [] (Ends-none (state_of f z s rule).history)))
            (λ (t : (j ≢ other) × (get_elem? (set s.views id (informed v w)) j ≡ some u)). ⊎_elim
            (λ (t : (j ≡ id) × (informed v w ≡ u)). subst (λ i. ViewFits f z (state_of f z s rule) rule.owner i u) (sym t.0) (subst (ViewFits f z (state_of f z s rule) rule.owner id) t.1 record {
              known = mine.known;
              based = mine.based;
              sits = λ _. record {
                number = x.number;
                owner_is = x.owner_is;
                look = x.look;
                seen = x.seen;
                known = x.known;
                own_is = x.own_is;
                made = x.made;
                told = (rule.views other w theirs).known;
                helped = x.helped;
                marked = x.marked;
                installed = x.installed;
              };
              deals = λ wrong. absurd (false≢true (sym seat.deals ∙ wrong));
              more = mine.more;
            }))
            (λ (t : (j ≢ id) × (get_elem? s.views j ≡ some u)). rule.views j u t.1)
            (at_set s.views id j (informed v w) u t.1))
            (at_set (set s.views id (informed v w)) other j spent u here);
        made = λ j u here. ⊎_elim
            (λ (t : (j ≡ other) × (spent ≡ u)). subst (HasMade z.seats rule.moves) t.1 none_made)
            (λ (t : (j ≢ other) × (get_elem? (set s.views id (informed v w)) j ≡ some u)). ⊎_elim
            (λ (t : (j ≡ id) × (informed v w ≡ u)). subst (HasMade z.seats rule.moves) t.1 (let m = rule.made id v at in record { sits = m.sits; deals = m.deals }))
            (λ (t : (j ≢ id) × (get_elem? s.views j ≡ some u)). rule.made j u t.1)
            (at_set s.views id j (informed v w) u t.1))
            (at_set (set s.views id (informed v w)) other j spent u here);
      }

  -- a seat takes in another one, and has its place from then on
  pub gathers : (id : ℕ) (v : View B) (other : ℕ) (w : View B) → w.sits ≡ true → Joins {S = S} (TableHolds f z) id v other w (gathered v w) spent
  gathers id v other w sits s rule at apart there =
      let c = state_of f z s rule in
      let mine = rule.views id v at in
      let theirs : get_elem? s.views other ≡ some w = ⊎_elim (λ (t : (other ≡ id) × (gathered v w ≡ w)). absurd (apart t.0)) (λ (t : (other ≢ id) × (get_elem? s.views other ≡ some w)). t.1) (at_set s.views id other (gathered v w) w there) in
      let fits = rule.views other w theirs in
      let y = fits.sits sits in
      let kept = λ (n i : ℕ) (is : rule.owner n ≡ i) (away : i ≢ other). cond-false (nat_eq (rule.owner n) other) id (rule.owner n) (ne-nat_eq (rule.owner n) other (λ e. away (sym is ∙ e))) ∙ is in
      let taken = λ (n : ℕ) (is : rule.owner n ≡ other). cond-true (nat_eq (rule.owner n) other) id (rule.owner n) (eq-eqb (rule.owner n) other is) in
      let own_side : id ≢ other = λ e. apart (sym e) in
      record {
        terms = rule.terms;
        moves = rule.moves;
        allowed = rule.allowed;
        words_are = rule.words_are;
        movers = rule.movers;
        owner = owner_taken rule.owner id other;
        views = λ j u here. ⊎_elim
            (λ (t : (j ≡ other) × (spent ≡ u)). subst (ViewFits f z (state_of f z s rule) (owner_taken rule.owner id other) j) t.1 (quiet_fits f z (state_of f z s rule) (owner_taken rule.owner id other) j [] (Ends-none (state_of f z s rule).history)))
            (λ (t : (j ≢ other) × (get_elem? (set s.views id (gathered v w)) j ≡ some u)). ⊎_elim
            (λ (q : (j ≡ id) × (gathered v w ≡ u)). subst (λ i. ViewFits f z (state_of f z s rule) (owner_taken rule.owner id other) i u) (sym q.0) (subst (ViewFits f z (state_of f z s rule) (owner_taken rule.owner id other) id) q.1
            (let refitted = view_refit f z (state_of f z s rule) rule.owner (owner_taken rule.owner id other) id v (λ n is. kept n id is own_side) mine in record {
              known = mine.known;
              based = mine.based;
              sits = refitted.sits;
              deals = refitted.deals;
              more = All-cons (ActorFits z.seats (state_of f z s rule) (owner_taken rule.owner id other) id) w.actor (w.more ++ v.more) (refit z.seats (state_of f z s rule) rule.owner (owner_taken rule.owner id other) other id w.actor y (taken w.actor.number y.owner_is))
                  (All-append (ActorFits z.seats (state_of f z s rule) (owner_taken rule.owner id other) id) w.more v.more
                  (All-weaker (ActorFits z.seats (state_of f z s rule) rule.owner other) (ActorFits z.seats (state_of f z s rule) (owner_taken rule.owner id other) id) (λ r p. refit z.seats (state_of f z s rule) rule.owner (owner_taken rule.owner id other) other id r p (taken r.number p.owner_is)) w.more fits.more)
                  refitted.more);
            })))
            (λ (q : (j ≢ id) × (get_elem? s.views j ≡ some u)). view_refit f z (state_of f z s rule) rule.owner (owner_taken rule.owner id other) j u (λ n is. kept n j is t.0) (rule.views j u q.1))
            (at_set s.views id j (gathered v w) u t.1))
            (at_set (set s.views id (gathered v w)) other j spent u here);
        made = λ j u here. ⊎_elim
            (λ (t : (j ≡ other) × (spent ≡ u)). subst (HasMade z.seats rule.moves) t.1 none_made)
            (λ (t : (j ≢ other) × (get_elem? (set s.views id (gathered v w)) j ≡ some u)). ⊎_elim
            (λ (q : (j ≡ id) × (gathered v w ≡ u)). subst (HasMade z.seats rule.moves) q.1 (let m = rule.made id v at in record { sits = m.sits; deals = m.deals }))
            (λ (q : (j ≢ id) × (get_elem? s.views j ≡ some u)). rule.made j u q.1)
            (at_set s.views id j (gathered v w) u t.1))
            (at_set (set s.views id (gathered v w)) other j spent u here);
      }
