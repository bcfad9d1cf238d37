-- What follows from the laws for up to 2 ^ 62 elements, and which bodies meet them.
use Rattle.std.specs.Prelude.{◌≡◌, ℕ, ℤ, ◌+◌, ◌^◌, ◌≤◌, Option, Some, None, List, [], ◌∷◌, ◌++◌, length, fold, All, IsTrue, refl}
use Rattle.std.specs.Int.{int_min, int_max}
use Rattle.std.proofs.Common.{sym, ap, ◌∙◌, subst, arith, length-append}
use Rattle.std.proofs.Math.Seq.{take-append_seam, drop-append_seam}
use Rattle.std.proofs.lemmas.List.Elements.{All-head, All-tail, All-take, All-drop}
use Rattle.std.proofs.lemmas.List.Sums.{fold-append}
use Rattle.lv_geometry.specs.Elements.{IsElement}
use Rattle.lv_bodies.specs.AffineLaws.{affine_laws}
use Rattle.lv_bodies.specs.AffineMaps.{affine_operations, IsAffineMap}
use Rattle.lv_bodies.specs.Body.{BodyLaws, CanJoin, Operations, fold_of}
use Rattle.lv_bodies.specs.ExtremeLaws.{bare_laws, downward, extreme_laws, upward}
use Rattle.lv_bodies.specs.Extremes.{IsBareExtreme, IsExtreme, OrderLaws, bare_operations, extreme_operations, greatest_operations, least_operations}
use Rattle.lv_bodies.specs.Long.{CanJoinLong, FoldsWithin, JoinsLong, LongLaws}
use Rattle.lv_bodies.specs.Optional.{join_of_both}
use Rattle.lv_bodies.specs.PairLaws.{same_pairs}
use Rattle.lv_bodies.specs.Pairs.{IsPairWithin, pair_operations}
use Rattle.lv_bodies.specs.Plain.{program_table}
use Rattle.lv_bodies.specs.RunTotals.{IsBest, best_operations, join_totals}
use Rattle.lv_bodies.specs.Six.{six_operations, six_operations_by, six_within}
use Rattle.lv_bodies.specs.SumLaws.{sum_laws}
use Rattle.lv_bodies.specs.Sums.{IsSum, sum_operations}
use Rattle.lv_bodies.specs.TableLaws.{automaton_laws}
use Rattle.lv_bodies.specs.Tables.{IsStateMap, automaton_operations, is_table}
use Rattle.lv_bodies.specs.TotalsLaws.{best_laws, joined_elements, more_elements, runs_associative}
use Rattle.lv_bodies.specs.declared.affine.AffineMap.{AffineMap}
use Rattle.lv_bodies.specs.declared.best.RunTotals.{RunTotals}

module _ {S : Type 0} (o : Operations S) (within : S → ℕ → Type 0) (laws : LongLaws o within) where
  -- a fold that goes on from a summary
  abbrev going_on : S → List ℤ → S
  going_on s xs = fold (λ t x. o.join t (o.lift x)) s xs

  -- a fold over m elements from a summary of n is within n + m
  going_on-within : (s : S) (n : ℕ) (xs : List ℤ) → within s n → All IsElement xs → n + length xs ≤ 2 ^ 62 → within (going_on s xs) (n + length xs)
  going_on-within s n [] w e few = subst (λ k. within s k) (omega arith) w
  going_on-within s n (x ∷ xs) w e few =
      let one = laws.lift_within x (All-head IsElement x xs e) in
      let longer = laws.join_within s (o.lift x) n 1 w one (omega arith) in
      let rest = going_on-within (o.join s (o.lift x)) (n + 1) xs longer (All-tail IsElement x xs e) (omega arith) in
      subst (λ k. within (going_on (o.join s (o.lift x)) xs) k) (omega arith) rest

  -- a fold is within the number of its elements
  pub fold_of-within_long : FoldsWithin o within
  fold_of-within_long xs can =
      subst (λ k. within (fold_of o xs) k) (omega arith)
      (going_on-within o.identity 0 xs laws.identity_within can.elements (omega (arith, can.few)))

  -- to go on from a summary is to join it with the fold of what follows
  going_on-is_join : (s : S) (n : ℕ) (xs : List ℤ) → within s n → All IsElement xs → n + length xs ≤ 2 ^ 62 → going_on s xs ≡ o.join s (fold_of o xs)
  going_on-is_join s n [] w e few = sym (laws.right_identity s n w (omega arith))
  going_on-is_join s n (x ∷ xs) w e few =
      let one = laws.lift_within x (All-head IsElement x xs e) in
      let others : All IsElement xs = All-tail IsElement x xs e in
      let longer = laws.join_within s (o.lift x) n 1 w one (omega arith) in
      let rest = fold_of-within_long xs record { few = omega arith; elements = others } in
      let later = going_on-is_join (o.join s (o.lift x)) (n + 1) xs longer others (omega arith) in
      let alone = going_on-is_join (o.lift x) 1 xs one others (omega arith) in
      later
      ∙ laws.associative s (o.lift x) (fold_of o xs) n 1 (length xs) w one rest (omega arith)
      ∙ ap (o.join s) (sym alone ∙ ap (λ t. going_on t xs) (sym (laws.left_identity (o.lift x) 1 one (omega arith))))

  -- the fold of two lists joined end to end is the join of their folds
  pub fold_of-append_long : JoinsLong o
  fold_of-append_long xs ys can =
      let front : All IsElement xs = subst (All IsElement) (take-append_seam xs ys) (All-take IsElement (length xs) (xs ++ ys) can.elements) in
      let back : All IsElement ys = subst (All IsElement) (drop-append_seam xs ys) (All-drop IsElement (length xs) (xs ++ ys) can.elements) in
      let few : length xs + length ys ≤ 2 ^ 62 = omega (arith, can.few, length-append xs ys) in
      fold-append (λ s x. o.join s (o.lift x)) o.identity xs ys
      ∙ going_on-is_join (fold_of o xs) (length xs) ys (fold_of-within_long xs record { few = omega arith; elements = front }) back few

-- a body whose bound is the same for any number of elements
module _ {S : Type 0} (o : Operations S) (within : S → ℕ → Type 0) (laws : BodyLaws o within) (any : (s : S) (n m : ℕ) → within s n → within s m) where
  -- it meets the laws for any number
  pub any_number_laws : LongLaws o within
  any_number_laws = record {
    identity_within = laws.identity_within;
    lift_within = laws.lift_within;
    join_within = λ s t n m h k few. any _ (0 + 0) (n + m) (laws.join_within s t 0 0 (any s n 0 h) (any t m 0 k) (omega arith));
    left_identity = λ s n h few. laws.left_identity s 0 (any s n 0 h) (omega arith);
    right_identity = λ s n h few. laws.right_identity s 0 (any s n 0 h) (omega arith);
    associative = λ s t u n m k h i j few. laws.associative s t u 0 0 0 (any s n 0 h) (any t m 0 i) (any u k 0 j) (omega arith);
  }

  -- and two of its summaries that may be joined at all may be joined as those of few elements
  pub join_as_few : (s t : S) → CanJoinLong within s t → CanJoin within s t
  join_as_few s t can = record {
    left = 0;
    right = 0;
    left_within = any s can.left 0 can.left_within;
    right_within = any t can.right 0 can.right_within;
    few = omega arith;
  }

-- a map of numbers below 2 ^ 32 is one of however many elements
pub any_map : (p : AffineMap) (n m : ℕ) → IsAffineMap p n → IsAffineMap p m
any_map p n m h = record { a = h.a; b = h.b }

-- a row of states is one of however many elements
pub any_row : (row : List ℕ) (n m : ℕ) → IsStateMap row n → IsStateMap row m
any_row row n m h = record { eight = h.eight; states = h.states }

-- an extreme is one of however many elements
pub any_extreme : (s : Option ℤ) (n m : ℕ) → IsExtreme s n → IsExtreme s m
any_extreme None n m h = h
any_extreme (Some x) n m h = h

-- the sum
pub sum_long : LongLaws sum_operations IsSum
sum_long = any_number_laws sum_operations IsSum sum_laws (λ s n m h. h)

-- the first of all by an order
pub extreme_long : (first : ℤ → ℤ → ℤ) (last : ℤ) → OrderLaws first last → LongLaws (extreme_operations first) IsExtreme
extreme_long first last order = any_number_laws (extreme_operations first) IsExtreme (extreme_laws first last order) any_extreme

-- and its bare form
pub bare_long : (first : ℤ → ℤ → ℤ) (last : ℤ) → OrderLaws first last → LongLaws (bare_operations first last) IsBareExtreme
bare_long first last order = any_number_laws (bare_operations first last) IsBareExtreme (bare_laws first last order) (λ x n m h. h)

-- the least
pub least_long : LongLaws least_operations IsExtreme
least_long = extreme_long int_min _ upward

-- the greatest
pub greatest_long : LongLaws greatest_operations IsExtreme
greatest_long = extreme_long int_max _ downward

-- the affine map
pub affine_long : LongLaws affine_operations IsAffineMap
affine_long = any_number_laws affine_operations IsAffineMap affine_laws any_map

-- an automaton
pub automaton_long : (table : List (List ℕ)) → IsTrue (is_table table) → LongLaws (automaton_operations table) IsStateMap
automaton_long table valid = any_number_laws (automaton_operations table) IsStateMap (automaton_laws table valid) any_row

-- the best runs of n elements and of m are joined to one of n + m
joined_best : (s t : Option RunTotals) (n m : ℕ) → IsBest s n → IsBest t m → IsBest (join_of_both join_totals s t) (n + m)
joined_best None None n m p q = q
joined_best None (Some t) n m p q = more_elements t m (n + m) (omega arith) q
joined_best (Some s) None n m p q = more_elements s n (n + m) (omega arith) p
joined_best (Some s) (Some t) n m p q = joined_elements s t n m p q

-- of three the first two or the last two may be joined first
best_associative : (s t u : Option RunTotals) → join_of_both join_totals (join_of_both join_totals s t) u ≡ join_of_both join_totals s (join_of_both join_totals t u)
best_associative None t u = refl
best_associative (Some s) None u = refl
best_associative (Some s) (Some t) None = refl
best_associative (Some s) (Some t) (Some u) = ap Some (runs_associative s t u)

-- to join with nothing changes nothing
best_right : (s : Option RunTotals) → join_of_both join_totals s None ≡ s
best_right None = refl
best_right (Some s) = refl

-- the best run: its bound counts the elements, and no other law of it asks how many there are
pub best_long : LongLaws best_operations IsBest
best_long = record {
  identity_within = best_laws.identity_within;
  lift_within = best_laws.lift_within;
  join_within = λ s t n m p q few. joined_best s t n m p q;
  left_identity = λ s n p few. refl;
  right_identity = λ s n p few. best_right s;
  associative = λ s t u n m k p q r few. best_associative s t u;
}

-- two bodies side by side
module _ {S T : Type 0} (o : Operations S) (within_first : S → ℕ → Type 0) (p : Operations T) (within_second : T → ℕ → Type 0) (first : LongLaws o within_first) (second : LongLaws p within_second) where
  -- they meet the laws if each does
  pub pair_long : LongLaws (pair_operations o p) (IsPairWithin within_first within_second)
  pair_long = record {
    identity_within = (first.identity_within, second.identity_within);
    lift_within = λ x h. (first.lift_within x h, second.lift_within x h);
    join_within = λ s t n m h k few. (first.join_within s.0 t.0 n m h.0 k.0 few, second.join_within s.1 t.1 n m h.1 k.1 few);
    left_identity = λ s n h few. same_pairs _ s (first.left_identity s.0 n h.0 few) (second.left_identity s.1 n h.1 few);
    right_identity = λ s n h few. same_pairs _ s (first.right_identity s.0 n h.0 few) (second.right_identity s.1 n h.1 few);
    associative = λ s t u n m k h i j few.
        same_pairs _ _ (first.associative s.0 t.0 u.0 n m k h.0 i.0 j.0 few) (second.associative s.1 t.1 u.1 n m k h.1 i.1 j.1 few);
  }

-- all six, by each table of an automaton
pub six_long_by : (table : List (List ℕ)) → IsTrue (is_table table) → LongLaws (six_operations_by table) six_within
six_long_by table valid = pair_long _ _ _ _ sum_long (pair_long _ _ _ _ least_long (pair_long _ _ _ _ greatest_long (pair_long _ _ _ _ best_long (pair_long _ _ _ _ affine_long (automaton_long table valid)))))

-- all six, with the program's automaton
pub six_long : LongLaws six_operations six_within
six_long = six_long_by program_table refl
