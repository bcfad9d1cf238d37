-- A machine's words and actors remain those of a state that moves reach.
use Rattle.std.proofs.Common.{◌≡◌, ◌≢◌, ℕ, ℤ, ◌*◌, ◌<◌, ◌≤◌, Bool, true, false, Some, None, Ok, Err, List, [], ◌∷◌, length, nat_lt, slice_get, slice_index, slice_set, replicate, length-set, refl, sym, ap, ◌∙◌, subst, inl, inr, arith}
use Rattle.std.specs.Prelude.{if◌then◌else◌, IfSome, int_le, pos, negsuc}
use Rattle.std.proofs.lemmas.Bool.{and_parts, cases_eq, ltb-false}
use Rattle.std.proofs.lemmas.Int.{ints}
use Rattle.std.proofs.lemmas.List.{length-replicate}
use Rattle.std.proofs.lemmas.Option.{slice_get_within}
use Rattle.lv_geometry.specs.Bounds.{AreAllowed as AreLimits, Bounds}
use Rattle.lv_geometry.specs.declared.refusals.Refusal.{Refusal}
use Rattle.lv_bodies.specs.Body.{Operations, BodyLaws, fold_of}
use Rattle.lv_bodies.specs.Parts.{AreParts, HasParts, IsShort}
use Rattle.lv_edits.specs.declared.edit.Edit.TheVariants.{Pop}
use Rattle.lv_machine.specs.declared.entries.Entry.{Entry}
use Rattle.lv_machine.specs.declared.events.Call.{Call}
use Rattle.lv_machine.specs.declared.events.Call.TheVariants as call
use Rattle.lv_machine.specs.declared.actors.Actor.{Actor}
use Rattle.lv_machine.specs.declared.outcomes.Outcome.TheVariants as outcome
use Rattle.lv_machine.specs.declared.outcomes.Said.{Said}
use Rattle.lv_machine.specs.declared.tasks.Advance.{Advance}
use Rattle.lv_machine.specs.declared.tasks.Advance.TheVariants as advance
use Rattle.lv_machine.specs.declared.tasks.Goal.{Goal}
use Rattle.lv_machine.specs.declared.tasks.Goal.TheVariants as goal
use Rattle.lv_machine.specs.declared.tasks.Task.{Task}
use Rattle.lv_machine.specs.declared.tasks.Task.TheVariants as task
use Rattle.lv_machine.specs.History.{descriptor_of, Ends}
use Rattle.lv_machine.specs.Calls.{advanced, goal_of, is_short, move_of, outcome_of, place_of, sees_next, task_after}
use Rattle.lv_machine.specs.Machine.{idle}
use Rattle.lv_machine.specs.declared.moves.Move.{Move}
use Rattle.lv_machine.specs.Moves.{Config, IsReachable, MayMove, moved, reached, Shows, start}
use Rattle.lv_machine.specs.Progress.{Follows, goal_under, IsGoal, IsReached, IsRight, Knows, StandsAt, terms_of}
use Rattle.lv_machine.specs.Ready.{CanAdvance, CanMove}
use Rattle.lv_machine.specs.Schedules.{WasTold}
use Rattle.lv_machine.specs.Terms.{AreTerms, blocks_of, Terms}
use Rattle.lv_machine.proofs.AloneLaws.{alone_look, alone_words, other_look}
use Rattle.lv_machine.proofs.EndsLaws.{Ends-trans, Ends-whole}
use Rattle.lv_machine.proofs.MoveLaws.{reachable_shows}
use Rattle.lv_machine.proofs.OwnLaws.{own_step, OwnStep}
use Rattle.lv_machine.proofs.RiseLaws.{grow, maybe_rise, rise}
use Rattle.lv_machine.proofs.SafeLaws.{can_advance, can_move}
use Rattle.lv_machine.proofs.StepLaws.{may_move}
use Rattle.lv_machine.proofs.ListLaws.{below_all, replicate_same, set_other, set_same}

-- the terms of a machine that can be made
pub terms_are : {S : Type 0} (o : Operations S) (count : ℕ) (parts_of : S → List ℕ) (limits : Bounds) (seats : ℕ) → count ≤ 4 → AreParts count parts_of → AreLimits limits.buckets limits.edits → limits.buckets ≤ 9 → seats ≤ 8 → AreTerms (terms_of o count parts_of limits seats)
terms_are o count parts_of limits seats few are allowed buckets seated = record {
  allowed = allowed;
  few_buckets = buckets;
  few_seats = seated;
  few_parts = few;
  short_parts = λ p xs. below_all (parts_of (fold_of o xs)) p (are.below (fold_of o xs));
}

-- a goal that a call has is one that it may have
short_is : (x : ℤ) → is_short x ≡ true → IsShort x
short_is x is =
    let parts = and_parts (int_le (negsuc 32767) x) (int_le x (pos 32767)) is in
    let low : int_le (negsuc 32767) x ≡ true = parts.0 in
    let high : int_le x (pos 32767) ≡ true = parts.1 in
    grind (arith, ints)

by_short : (found : Bool) (g h : Goal) (e : Refusal) → (if found then Ok g else Err e) ≡ Ok h → (found ≡ true) × (g ≡ h)
by_short true g h e is = (refl, cc)
by_short false g h e is = absurd (cc)

by_order : (found : Bool) (g h : Goal) (e : Refusal) → (if found then Err e else Ok g) ≡ Ok h → (found ≡ false) × (g ≡ h)
by_order true g h e is = absurd (cc)
by_order false g h e is = (refl, cc)

pub goal_is : (c : Call) (g : Goal) → goal_of c ≡ Ok g → IsGoal g
goal_is (call.Push x) g is = let parts = by_short (is_short x) _ _ _ is in subst IsGoal parts.1 (short_is x parts.0)
goal_is call.Pop g is = let same : goal.Edit Pop ≡ g = cc in subst IsGoal same tt
goal_is (call.Write i x) g is = let parts = by_short (is_short x) _ _ _ is in subst IsGoal parts.1 (short_is x parts.0)
goal_is (call.Get i) g is = let same : goal.Get i ≡ g = cc in subst IsGoal same tt
goal_is call.Size g is = let same : goal.Size ≡ g = cc in subst IsGoal same tt
goal_is (call.Reduce lo hi) g is = let parts = by_order (nat_lt hi lo) _ _ _ is in subst IsGoal parts.1 (ltb-false _ _ parts.0)
goal_is (call.Refresh b) g is = let same : goal.Refresh b ≡ g = cc in subst IsGoal same tt

done_is : {S : Type 0} (adv : Advance S) (answer : Said S) → outcome_of adv ≡ outcome.Done answer → adv ≡ advance.Ends answer
done_is (advance.Goes t) answer is = absurd (cc)
done_is (advance.Ends said) answer is = let same : said ≡ answer = cc in ap advance.Ends same

module _ {S : Type 0} (o : Operations S) (within : S → ℕ → Type 0) (laws : BodyLaws o within) (count : ℕ) (some : 1 ≤ count) (parts_of : S → List ℕ) (whole_of : List ℕ → S) (are : AreParts count parts_of) (has : HasParts parts_of whole_of o) (limits : Bounds) where
  module _ (seats : ℕ) (c : Config) (terms : AreTerms (terms_of o count parts_of limits seats)) (shows : Shows (terms_of o count parts_of limits seats) c) (a : ℕ) (seat : a < seats) (k : List Entry) (ends : Ends k c.history) (look : c.looks a ≡ descriptor_of k) (t : Task S) (knows : Knows o count parts_of limits c.words k t) where
    abbrev pub own : OwnStep o within laws count some parts_of whole_of are has limits seats a c k terms shows ends look t
    own = own_step o within laws count some parts_of whole_of are has limits seats a c k terms shows ends look t seat knows

    -- the result of the step is right in the state after it
    pub right_after : IsRight o count parts_of limits a (moved c (move_of a t)).words (moved c (move_of a t)).history k own.now (goal_under o count parts_of limits t) (advanced o count parts_of whole_of limits (c.looks a) t (slice_index c.words (place_of (c.looks a) t)))
    right_after =
        subst (λ ws. IsRight o count parts_of limits a ws (moved c (move_of a t)).history k own.now (goal_under o count parts_of limits t) (advanced o count parts_of whole_of limits (c.looks a) t (slice_index c.words (place_of (c.looks a) t)))) (sym (alone_words c a t))
        (subst (λ l. IsRight o count parts_of limits a (sees_next c.words l t).words (moved c (move_of a t)).history k own.now (goal_under o count parts_of limits t) (advanced o count parts_of whole_of limits l t (slice_index c.words (place_of l t)))) (sym look) own.right)

    pub shown_after : (moved c (move_of a t)).looks a ≡ descriptor_of own.now
    shown_after = alone_look c a t ∙ ap (λ l. (sees_next c.words l t).looks 0) look ∙ own.shown

  right_knows : (words : List ℕ) (a : ℕ) (h old k : List Entry) (g : Goal) (adv : Advance S) → IsRight o count parts_of limits a words h old k g adv → IfSome (task_after adv) (Knows o count parts_of limits words k)
  right_knows words a h old k g (advance.Goes t) right = right.0
  right_knows words a h old k g (advance.Ends answer) right = tt

  pub one_more_move : (seats : ℕ) (c : Config) (m : Move) → IsReachable (terms_of o count parts_of limits seats) c → MayMove (terms_of o count parts_of limits seats) c m → IsReachable (terms_of o count parts_of limits seats) (moved c m)
  unfolding reached
  one_more_move seats c m r may = record {
    moves = m ∷ r.moves;
    allowed = (r.allowed, subst (λ d. MayMove (terms_of o count parts_of limits seats) d m) (sym r.reached_is) may);
    reached_is = ap (λ d. moved d m) r.reached_is;
  }

  -- what an actor has after its step
  abbrev pub actor_after : List ℕ → ℕ → Task S → Actor S
  actor_after words look t = record {
    look = (sees_next words look t).looks 0;
    task = task_after (advanced o count parts_of whole_of limits look t (slice_index words (place_of look t)));
  }

  module _ (words : List ℕ) (actors : List (Actor S)) (r : IsReached o count parts_of limits words actors) where
    abbrev pub T : Terms
    T = terms_of o count parts_of limits r.seats

    pub shows_of : Shows T r.config
    shows_of = reachable_shows T r.config r.stands.terms r.stands.reachable

    module _ (a before : ℕ) (t : Task S) (there : slice_get actors a ≡ Some record { look = before; task = Some t }) where
      abbrev pub f : Follows o count parts_of limits r.config a record { look = before; task = Some t }
      f = r.stands.follow a record { look = before; task = Some t } there

      look_is : before ≡ descriptor_of f.seen
      look_is = sym f.look ∙ f.shown

      pub seated : a < r.seats
      seated = omega (arith, slice_get_within actors a _ there, r.stands.all_seats)

      -- the step can be done
      pub take_moves : CanMove (length words) before t
      take_moves =
          subst (λ l. CanMove (length words) l t) (sym look_is)
          (subst (λ ws. CanMove (length ws) (descriptor_of f.seen) t) r.stands.words_are (can_move o within laws count parts_of whole_of are has limits r.seats r.config f.seen r.stands.terms shows_of f.ends t f.knows))

      pub take_advances : CanAdvance within count whole_of t (slice_index words (place_of before t))
      take_advances =
          subst (λ l. CanAdvance within count whole_of t (slice_index words (place_of l t))) (sym look_is)
          (subst (λ ws. CanAdvance within count whole_of t (slice_index ws (place_of (descriptor_of f.seen) t))) r.stands.words_are (can_advance o within laws count parts_of whole_of are has limits r.seats r.config f.seen r.stands.terms shows_of f.ends t f.knows))

      -- its move may be made
      pub take_may : MayMove T r.config (move_of a t)
      take_may = may_move o count parts_of limits r.seats a r.config f.seen r.stands.terms shows_of f.ends t seated f.shown f.knows

      pub own_follows : (actor : Actor S) → actor ≡ actor_after r.config.words (r.config.looks a) t → Follows o count parts_of limits (moved r.config (move_of a t)) a actor
      own_follows actor is =
          let step = own r.seats r.config r.stands.terms shows_of a seated f.seen f.ends f.shown t f.knows in
          let right = right_after r.seats r.config r.stands.terms shows_of a seated f.seen f.ends f.shown t f.knows in
          subst (Follows o count parts_of limits (moved r.config (move_of a t)) a) (sym is) record {
            seen = step.now;
            ends = step.now_ends;
            look = alone_look r.config a t;
            shown = shown_after r.seats r.config r.stands.terms shows_of a seated f.seen f.ends f.shown t f.knows;
            knows = right_knows (moved r.config (move_of a t)).words a (moved r.config (move_of a t)).history f.seen step.now (goal_under o count parts_of limits t) _ right;
          }

      pub other_follows : (b : ℕ) (actor : Actor S) → b ≢ a → Follows o count parts_of limits r.config b actor → Follows o count parts_of limits (moved r.config (move_of a t)) b actor
      other_follows b actor apart g = record {
        seen = g.seen;
        ends = Ends-trans g.seen r.config.history _ g.ends (grow r.config a t);
        look = other_look r.config a t b apart ∙ g.look;
        shown = other_look r.config a t b apart ∙ g.shown;
        knows = maybe_rise o count parts_of limits r.config.words (moved r.config (move_of a t)).words g.seen (rise r.config a t) actor.task g.knows;
      }

      pub same_actor : actor_after r.config.words (r.config.looks a) t ≡ actor_after words before t
      same_actor = ap (λ ws. actor_after ws (r.config.looks a) t) r.stands.words_are ∙ ap (λ l. actor_after words l t) f.look

      -- words and actors after the step are those of a state that moves reach
      abbrev pub reached_next : IsReached o count parts_of limits (sees_next words before t).words (slice_set actors a (actor_after words before t))
      reached_next = record {
        config = moved r.config (move_of a t);
        seats = r.seats;
        stands = record {
          all_seats = length-set actors a (actor_after words before t) ∙ r.stands.all_seats;
          terms = r.stands.terms;
          reachable = one_more_move r.seats r.config (move_of a t) r.stands.reachable take_may;
          words_are = alone_words r.config a t ∙ ap (λ ws. (sees_next ws (r.config.looks a) t).words) r.stands.words_are ∙ ap (λ l. (sees_next words l t).words) f.look;
          follow = follow_next;
        };
      }
        where
          follow_next : (b : ℕ) (actor : Actor S) → slice_get (slice_set actors a (actor_after words before t)) b ≡ Some actor → Follows o count parts_of limits (moved r.config (move_of a t)) b actor
          follow_next b actor is = elim (cases_eq b a) [
            | inl same ↦
                let own_is : slice_get (slice_set actors a (actor_after words before t)) a ≡ Some actor = subst (λ d. slice_get (slice_set actors a (actor_after words before t)) d ≡ Some actor) same is in
                subst (λ d. Follows o count parts_of limits (moved r.config (move_of a t)) d actor) (sym same) (own_follows actor (set_same actors a _ actor own_is ∙ sym same_actor))
            | inr apart ↦ other_follows b actor apart (r.stands.follow b actor (set_other actors a b _ actor apart is))
          ]

      same_advance : advanced o count parts_of whole_of limits (r.config.looks a) t (slice_index r.config.words (place_of (r.config.looks a) t)) ≡ advanced o count parts_of whole_of limits before t (slice_index words (place_of before t))
      same_advance =
          ap (λ ws. advanced o count parts_of whole_of limits (r.config.looks a) t (slice_index ws (place_of (r.config.looks a) t))) r.stands.words_are
          ∙ ap (λ l. advanced o count parts_of whole_of limits l t (slice_index words (place_of l t))) f.look

      -- if the call has ended, its actor got what the history says
      pub told_after : (answer : Said S) → outcome_of (advanced o count parts_of whole_of limits before t (slice_index words (place_of before t))) ≡ outcome.Done answer → WasTold o count parts_of limits r.config (moved r.config (move_of a t)) a t answer
      told_after answer done =
          let step = own r.seats r.config r.stands.terms shows_of a seated f.seen f.ends f.shown t f.knows in
          let right = right_after r.seats r.config r.stands.terms shows_of a seated f.seen f.ends f.shown t f.knows in
          record {
            old = f.seen;
            old_ends = f.ends;
            old_shown = f.shown;
            k = step.now;
            ends = step.now_ends;
            shown = shown_after r.seats r.config r.stands.terms shows_of a seated f.seen f.ends f.shown t f.knows;
            said = subst (IsRight o count parts_of limits a (moved r.config (move_of a t)).words (moved r.config (move_of a t)).history f.seen step.now (goal_under o count parts_of limits t)) (same_advance ∙ done_is _ answer done) right;
          }

    -- a call that begins makes no move
    abbrev pub reached_call : (a look : ℕ) (g : Goal) → slice_get actors a ≡ Some record { look = look; task = None } → IsGoal g → IsReached o count parts_of limits words (slice_set actors a record { look = look; task = Some (task.Look g) })
    reached_call a look g there may =
        let x : Actor S = record { look = look; task = Some (task.Look g) } in
        record {
          config = r.config;
          seats = r.seats;
          stands = record {
            all_seats = length-set actors a x ∙ r.stands.all_seats;
            terms = r.stands.terms;
            reachable = r.stands.reachable;
            words_are = r.stands.words_are;
            follow = λ b actor is. elim (cases_eq b a) [
              | inl same ↦
                  let old = r.stands.follow a record { look = look; task = None } there in
                  let own_is = subst (λ d. slice_get (slice_set actors a x) d ≡ Some actor) same is in
                  subst (λ d. Follows o count parts_of limits r.config d actor) (sym same)
                  (subst (Follows o count parts_of limits r.config a) (sym (set_same actors a x actor own_is))
                  record { seen = old.seen; ends = old.ends; look = old.look; shown = old.shown; knows = may })
              | inr apart ↦ r.stands.follow b actor (set_other actors a b x actor apart is)
            ];
          };
        }

  -- the start
  pub stands_start : (seats : ℕ) → AreTerms (terms_of o count parts_of limits seats) → StandsAt o count parts_of limits seats (start (terms_of o count parts_of limits seats)) (descriptor_of [] ∷ replicate (16 * blocks_of limits) 0) (replicate seats idle)
  unfolding reached
  stands_start seats terms = record {
    all_seats = length-replicate seats idle;
    terms = terms;
    reachable = record { moves = []; allowed = tt; reached_is = refl };
    words_are = refl;
    follow = λ a actor is. subst (Follows o count parts_of limits (start (terms_of o count parts_of limits seats)) a) (sym (replicate_same seats a idle actor is)) record {
      seen = [];
      ends = Ends-whole [];
      look = refl;
      shown = refl;
      knows = tt;
    };
  }

  pub reached_start : (seats : ℕ) → AreTerms (terms_of o count parts_of limits seats) → IsReached o count parts_of limits (descriptor_of [] ∷ replicate (16 * blocks_of limits) 0) (replicate seats idle)
  reached_start seats terms = record { config = start (terms_of o count parts_of limits seats); seats = seats; stands = stands_start seats terms }
