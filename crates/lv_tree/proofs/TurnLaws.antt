-- Walks over elements and over whole blocks of them, up to the place at which a test on their fold becomes true.
use Rattle.std.proofs.Common.{◌≡◌, ℕ, ℤ, Bool, true, false, ◌+◌, ◌-◌, ◌*◌, ◌^◌, ◌<◌, ◌≤◌, List, [], ◌++◌, length, map, take, drop, slice_index_or, slice_range, refl, sym, ap, ◌∙◌, subst, arith, inl, inr, All, length-drop}
use Rattle.std.proofs.lemmas.Bool.{cases_lt}
use Rattle.std.proofs.lemmas.List.{length-take}
use Rattle.std.proofs.lemmas.List.Elements.{All-get_or}
use Rattle.lv_geometry.specs.Elements.{IsElement}
use Rattle.lv_bodies.specs.Body.{Operations, fold_of}
use Rattle.lv_bodies.specs.Long.{CanFoldLong, CanGrowLong, CanJoinLong, LongLaws}
use Rattle.lv_bodies.specs.LongLaws.{fold_of-within_long}
use Rattle.lv_tree.specs.SliceLaws.{range_cut}
use Rattle.lv_tree.specs.Folds.{end_to_end}
use Rattle.lv_tree.specs.Parts.{AreBefore, AreInOrder, joined_on}
use Rattle.lv_tree.specs.Turns.{HasNoEnd, IsEndAt, IsStartAt}
use Rattle.lv_tree.specs.Walks.{HasWalkedDown, HasWalkedUp}
use Rattle.lv_tree.proofs.InOrder.{in_order-joined}
use Rattle.lv_tree.specs.BlockLaws.{blocks_of, range_of_blocks}
use Rattle.lv_tree.proofs.RangeLaws.{can_fold, can_grow, folds_meet, one_more}
use Rattle.lv_tree.proofs.Runs.{run_of-map}

-- a range from an index up to itself has nothing
no_range : (xs : List ℤ) (a : ℕ) → slice_range xs a a ≡ []
no_range xs a = let none : a - a ≡ 0 = omega arith in ap (λ k. take k (drop a xs)) none

module _ {S : Type 0} (o : Operations S) (within : S → ℕ → Type 0) (laws : LongLaws o within) (xs : List ℤ) (all : All IsElement xs) (few : length xs ≤ 2 ^ 61) where
  -- the fold of one element before some others
  one_before : (at hi : ℕ) (s t : S) (x : ℤ) → 0 < at → at ≤ hi → at ≤ length xs → s ≡ fold_of o (slice_range xs at hi) → x ≡ slice_index_or xs (at - 1) x → t ≡ o.join (o.lift x) s → t ≡ fold_of o (slice_range xs (at - 1) hi)
  one_before at hi s t x some order inside s_is x_is t_is =
      let i = at - 1 in
      let next : i + 1 ≡ at = omega (arith, some) in
      let low : i < length xs = omega (arith, some, inside) in
      let fits : IsElement x = subst IsElement (sym x_is) (All-get_or IsElement xs i x low all) in
      let alone : o.lift x ≡ fold_of o (slice_range xs i at) =
      sym (laws.left_identity (o.lift x) 1 (laws.lift_within x fits) (omega arith))
      ∙ one_more o xs i i o.identity (o.join o.identity (o.lift x)) x (omega arith) low (ap (fold_of o) (sym (no_range xs i))) x_is refl
      ∙ ap (λ k. fold_of o (slice_range xs i k)) next in
      t_is ∙ ap (o.join (o.lift x)) s_is ∙ ap (λ r. o.join r (fold_of o (slice_range xs at hi))) alone ∙ (folds_meet o within laws xs all few i at hi (omega arith) order).is

module _ {S : Type 0} (o : Operations S) (test : S → Bool) (xs : List ℤ) where
  -- the beginning of a walk
  pub up_begins : (lo : ℕ) (s : S) → s ≡ o.identity → HasWalkedUp o test xs lo lo s
  up_begins lo s is = record {
    order = omega arith;
    sum_is = is ∙ ap (fold_of o) (sym (no_range xs lo));
    before = λ some. absurd (omega (arith, some));
  }

  pub down_begins : (hi : ℕ) (s : S) → s ≡ o.identity → HasWalkedDown o test xs hi hi s
  down_begins hi s is = record {
    order = omega arith;
    sum_is = is ∙ ap (fold_of o) (sym (no_range xs hi));
    after = λ some. absurd (omega (arith, some));
  }

  -- the test becomes true with one element more
  pub up_passes : (lo at stop : ℕ) (s t : S) → HasWalkedUp o test xs lo at s → t ≡ fold_of o (slice_range xs lo (at + 1)) → at < stop → test t ≡ true → IsEndAt o test xs lo stop (at + 1)
  up_passes lo at stop s t w t_is more passes = record {
    after = omega (arith, w.order);
    inside = omega (arith, more);
    passes = ap test (sym t_is) ∙ passes;
    before = λ some.
        let back : at + 1 - 1 ≡ at = omega arith in
        ap (λ k. test (fold_of o (slice_range xs lo k))) back ∙ ap test (sym w.sum_is) ∙ w.before (omega (arith, some));
  }

  pub down_passes : (stop at hi : ℕ) (s t : S) → HasWalkedDown o test xs at hi s → t ≡ fold_of o (slice_range xs (at - 1) hi) → stop < at → test t ≡ true → IsStartAt o test xs stop hi (at - 1)
  down_passes stop at hi s t w t_is more passes = record {
    inside = omega (arith, more);
    before = omega (arith, w.order, more);
    passes = ap test (sym t_is) ∙ passes;
    after = λ some.
        let back : at - 1 + 1 ≡ at = omega (arith, more) in
        ap (λ k. test (fold_of o (slice_range xs k hi))) back ∙ ap test (sym w.sum_is) ∙ w.after (omega (arith, some, more));
  }

  -- if it does not, the walk has come further
  pub up_goes_on : (lo at : ℕ) (s t : S) → HasWalkedUp o test xs lo at s → t ≡ fold_of o (slice_range xs lo (at + 1)) → test t ≡ false → HasWalkedUp o test xs lo (at + 1) t
  up_goes_on lo at s t w t_is fails = record { order = omega (arith, w.order); sum_is = t_is; before = λ some. fails }

  pub down_goes_on : (at hi : ℕ) (s t : S) → HasWalkedDown o test xs at hi s → t ≡ fold_of o (slice_range xs (at - 1) hi) → test t ≡ false → HasWalkedDown o test xs (at - 1) hi t
  down_goes_on at hi s t w t_is fails = record { order = omega (arith, w.order); sum_is = t_is; after = λ some. fails }

  -- a walk that has come to the other end of its range
  pub up_has_none : (lo hi : ℕ) (s : S) → HasWalkedUp o test xs lo hi s → HasNoEnd o test xs lo hi
  up_has_none lo hi s w some = ap test (sym w.sum_is) ∙ w.before some

  pub down_has_none : (lo hi : ℕ) (s : S) → HasWalkedDown o test xs lo hi s → HasNoEnd o test xs lo hi
  down_has_none lo hi s w some = ap test (sym w.sum_is) ∙ w.after some

  -- an end of a part of a range is one of the range
  pub end_of_more : (lo stop hi end : ℕ) → stop ≤ hi → IsEndAt o test xs lo stop end → IsEndAt o test xs lo hi end
  end_of_more lo stop hi end more h = record { after = h.after; inside = omega (arith, h.inside, more); passes = h.passes; before = h.before }

  pub start_of_more : (lo stop hi start : ℕ) → lo ≤ stop → IsStartAt o test xs stop hi start → IsStartAt o test xs lo hi start
  start_of_more lo stop hi start more h = record { inside = omega (arith, h.inside, more); before = h.before; passes = h.passes; after = h.after }

-- what a walk has passed may be joined with elements further on
module _ {S : Type 0} (o : Operations S) (within : S → ℕ → Type 0) (laws : LongLaws o within) (test : S → Bool) (xs : List ℤ) (all : All IsElement xs) (few : length xs ≤ 2 ^ 61) where
  -- the sum of a walk keeps the bound
  down_within : (at hi : ℕ) (s : S) → HasWalkedDown o test xs at hi s → within s (length (slice_range xs at hi))
  down_within at hi s w = subst (λ t. within t (length (slice_range xs at hi))) (sym w.sum_is) (fold_of-within_long o within laws (slice_range xs at hi) (can_fold xs all few at hi))

  -- one element may be joined behind it, or before it
  pub up_can_grow : (lo at : ℕ) (s : S) → HasWalkedUp o test xs lo at s → CanGrowLong within s
  up_can_grow lo at s w = can_grow o within laws xs all few lo at s w.sum_is

  pub down_can_grow : (at hi : ℕ) (s : S) (x : ℤ) → IsElement x → HasWalkedDown o test xs at hi s → CanJoinLong within (o.lift x) s
  down_can_grow at hi s x fits w = record {
    left = 1;
    right = length (slice_range xs at hi);
    left_within = laws.lift_within x fits;
    right_within = down_within at hi s w;
    few = omega (arith, few, length-take (hi - at) (drop at xs), length-drop at xs);
  }

  -- with one element more
  pub up_more : (lo at : ℕ) (s t : S) (x : ℤ) → HasWalkedUp o test xs lo at s → at < length xs → x ≡ slice_index_or xs at x → t ≡ o.join s (o.lift x) → t ≡ fold_of o (slice_range xs lo (at + 1))
  up_more lo at s t x w inside x_is t_is = one_more o xs lo at s t x w.order inside w.sum_is x_is t_is

  pub down_more : (at hi : ℕ) (s t : S) (x : ℤ) → HasWalkedDown o test xs at hi s → 0 < at → at ≤ length xs → x ≡ slice_index_or xs (at - 1) x → t ≡ o.join (o.lift x) s → t ≡ fold_of o (slice_range xs (at - 1) hi)
  down_more at hi s t x w some inside x_is t_is = one_before o within laws xs all few at hi s t x some w.order inside w.sum_is x_is t_is

-- blocks that a walk passes, by leaves that are the folds of the first blocks
module _ {S : Type 0} (o : Operations S) (within : S → ℕ → Type 0) (laws : LongLaws o within) (test : S → Bool) (xs : List ℤ) (all : All IsElement xs) (few : length xs ≤ 2 ^ 61) (sums : List S) (leaves : sums ≡ map (fold_of o) (blocks_of (length sums) xs)) where
  -- the lists of some leaves
  abbrev lists_between : ℕ → ℕ → List (List ℤ)
  lists_between a b = slice_range (blocks_of (length sums) xs) a b

  sums_between : (a b : ℕ) → slice_range sums a b ≡ map (fold_of o) (lists_between a b)
  sums_between a b = ap (λ l. slice_range l a b) leaves ∙ run_of-map (fold_of o) (blocks_of (length sums) xs) a (b - a)

  -- elements in front of them, and theirs
  elements_up : (lo a b : ℕ) → lo ≤ 8 * a → a ≤ b → b ≤ length sums → slice_range xs lo (8 * a) ++ end_to_end (lists_between a b) ≡ slice_range xs lo (8 * b)
  elements_up lo a b low order inside =
      ap (λ l. slice_range xs lo (8 * a) ++ l) (range_of_blocks (length sums) a b xs order inside)
      ∙ sym (range_cut xs lo (8 * a) (8 * b) low (omega (arith, order)))

  elements_down : (a b hi : ℕ) → 8 * b ≤ hi → a ≤ b → b ≤ length sums → end_to_end (lists_between a b) ++ slice_range xs (8 * b) hi ≡ slice_range xs (8 * a) hi
  elements_down a b hi high order inside =
      ap (λ l. l ++ slice_range xs (8 * b) hi) (range_of_blocks (length sums) a b xs order inside)
      ∙ sym (range_cut xs (8 * a) (8 * b) hi (omega (arith, order)) high)

  -- a sum and the leaves behind it, and what they come to
  in_order : (lo a b : ℕ) (s : S) → lo ≤ 8 * a → a ≤ b → b ≤ length sums → s ≡ fold_of o (slice_range xs lo (8 * a)) → AreInOrder o s (slice_range sums a b)
  in_order lo a b s low order inside is = record {
    front = slice_range xs lo (8 * a);
    lists = lists_between a b;
    front_is = is;
    sums_are = sums_between a b;
    can = subst CanFoldLong (sym (elements_up lo a b low order inside)) (can_fold xs all few lo (8 * b));
  }

  leaves_up : (lo a b : ℕ) (s : S) → lo ≤ 8 * a → a ≤ b → b ≤ length sums → s ≡ fold_of o (slice_range xs lo (8 * a)) → joined_on o s (slice_range sums a b) ≡ fold_of o (slice_range xs lo (8 * b))
  unfolding in_order
  leaves_up lo a b s low order inside is =
      in_order-joined o within laws s (slice_range sums a b) (in_order lo a b s low order inside is) ∙ ap (fold_of o) (elements_up lo a b low order inside)

  leaves_alone : (a b : ℕ) → a ≤ b → b ≤ length sums → joined_on o o.identity (slice_range sums a b) ≡ fold_of o (slice_range xs (8 * a) (8 * b))
  leaves_alone a b order inside = leaves_up (8 * a) a b o.identity (omega arith) order inside (ap (fold_of o) (sym (no_range xs (8 * a))))

  -- those before a sum
  leaves_down : (a b hi : ℕ) (s : S) → 8 * b ≤ hi → a ≤ b → b ≤ length sums → s ≡ fold_of o (slice_range xs (8 * b) hi) → o.join (joined_on o o.identity (slice_range sums a b)) s ≡ fold_of o (slice_range xs (8 * a) hi)
  leaves_down a b hi s high order inside is =
      ap (λ t. o.join t s) (leaves_alone a b order inside)
      ∙ ap (o.join (fold_of o (slice_range xs (8 * a) (8 * b)))) is
      ∙ (folds_meet o within laws xs all few (8 * a) (8 * b) hi (omega (arith, order)) high).is

  -- what a walk has passed, and the leaves that come next
  pub up_in_order : (lo a b : ℕ) (s : S) → a ≤ b → b ≤ length sums → HasWalkedUp o test xs lo (8 * a) s → AreInOrder o s (slice_range sums a b)
  up_in_order lo a b s order inside w = in_order lo a b s w.order order inside w.sum_is

  pub down_before : (a b hi : ℕ) (s : S) → a ≤ b → b ≤ length sums → HasWalkedDown o test xs (8 * b) hi s → AreBefore o (slice_range sums a b) s
  down_before a b hi s order inside w = record {
    lists = lists_between a b;
    back = slice_range xs (8 * b) hi;
    sums_are = sums_between a b;
    back_is = w.sum_is;
    can = subst CanFoldLong (sym (elements_down a b hi w.order order inside)) (can_fold xs all few (8 * a) hi);
  }

  -- a walk that passes blocks with which the test does not become true has come behind them, or before them
  pub up_past : (lo a b : ℕ) (s t : S) → a ≤ b → b ≤ length sums → HasWalkedUp o test xs lo (8 * a) s → t ≡ joined_on o s (slice_range sums a b) → (a < b → test t ≡ false) → HasWalkedUp o test xs lo (8 * b) t
  up_past lo a b s t order inside w t_is fails =
      let is : t ≡ fold_of o (slice_range xs lo (8 * b)) = t_is ∙ leaves_up lo a b s w.order order inside w.sum_is in
      record {
        order = omega (arith, w.order, order);
        sum_is = is;
        before = λ some.
            elim (cases_lt a b) [
              | inl further ↦ fails further
              | inr here ↦
                  let same : b ≡ a = omega (arith, order, here) in
                  ap test (is ∙ ap (λ k. fold_of o (slice_range xs lo (8 * k))) same ∙ sym w.sum_is) ∙ w.before (omega (arith, some, same))
            ];
      }

  pub down_past : (a b hi : ℕ) (s t : S) → a ≤ b → b ≤ length sums → HasWalkedDown o test xs (8 * b) hi s → t ≡ o.join (joined_on o o.identity (slice_range sums a b)) s → (a < b → test t ≡ false) → HasWalkedDown o test xs (8 * a) hi t
  down_past a b hi s t order inside w t_is fails =
      let is : t ≡ fold_of o (slice_range xs (8 * a) hi) = t_is ∙ leaves_down a b hi s w.order order inside w.sum_is in
      record {
        order = omega (arith, w.order, order);
        sum_is = is;
        after = λ some.
            elim (cases_lt a b) [
              | inl further ↦ fails further
              | inr here ↦
                  let same : a ≡ b = omega (arith, order, here) in
                  ap test (is ∙ ap (λ k. fold_of o (slice_range xs (8 * k) hi)) same ∙ sym w.sum_is) ∙ w.after (omega (arith, some, same))
            ];
      }
