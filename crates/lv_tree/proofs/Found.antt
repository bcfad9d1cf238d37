-- What a search among leaves says of what is seen.
use Rattle.std.proofs.Common.{◌≡◌, ℕ, Bool, true, false, ◌+◌, ◌-◌, ◌<◌, ◌≤◌, List, length, drop, sym, ap, ◌∙◌, subst, arith}
use Rattle.std.proofs.lemmas.List.{length-drop, length-take, take-take}
use Rattle.lv_bodies.specs.Body.{Operations}
use Rattle.std.specs.List.{slice_range}
use Rattle.lv_tree.specs.Folds.{Leaves, leaf_range}
use Rattle.lv_tree.specs.Parts.{AreBefore, AreInOrder, joined_on, run_of}
use Rattle.lv_tree.specs.Tests.{HasComeTo, HasNoLastTurn, HasNoTurn, IsLastTurn, IsTurn}
use Rattle.lv_tree.proofs.Runs.{run_inside}
use Rattle.lv_tree.proofs.Seen.{run_expired, run_length, seen_of}

-- the leaves of a range, by the places of their cells
range_lies : {S : Type 0} (xs : List S) (first lo hi from to a b : ℕ) → a ≡ from - first + lo → b ≡ to - first + lo → b ≤ hi → leaf_range first (run_of xs lo (hi - lo)) from to ≡ run_of xs a (b - a)
range_lies xs first lo hi from to a b start end inside =
    let place : from - first ≡ a - lo = omega (arith, start) in
    let count : (to - first) - (from - first) ≡ b - a = omega (arith, start, end) in
    ap (λ k. run_of (run_of xs lo (hi - lo)) (from - first) k) count ∙ ap (λ k. run_of (run_of xs lo (hi - lo)) k (b - a)) place ∙ run_inside xs lo hi a b (omega (arith, start)) inside

turn_at : {S : Type 0} (o : Operations S) (test : S → Bool) (start : S) (xs : List S) (a b at k : ℕ) (sum : S) → b ≤ length xs → k ≡ at - a → at < b → HasComeTo false o test xs start a b at sum → IsTurn o test start (run_of xs a (b - a)) k
turn_at o test start xs a b at k sum inside is fits t = record {
  inside = omega (arith, length-take (b - a) (drop a xs), length-drop a xs, inside, is, t.low, fits);
  before = λ some.
      let few : k ≤ b - a = omega (arith, is, t.high) in
      ap (λ l. test (joined_on o start l)) (take-take k (b - a) (drop a xs) few ∙ ap (run_of xs a) is) ∙ t.before (omega (arith, some, is));
  after =
      (let few : k + 1 ≤ b - a = omega (arith, is, t.low, fits) in
      let next : k + 1 ≡ (at + 1) - a = omega (arith, is, t.low) in
      ap (λ l. test (joined_on o start l)) (take-take (k + 1) (b - a) (drop a xs) few ∙ ap (run_of xs a) next) ∙ t.after (omega (arith, fits)));
}

last_at : {S : Type 0} (o : Operations S) (test : S → Bool) (start : S) (xs : List S) (a b at k : ℕ) (sum : S) → b ≤ length xs → k ≡ at - 1 - a → a < at → HasComeTo true o test xs start a b at sum → IsLastTurn o test start (run_of xs a (b - a)) k
last_at o test start xs a b at k sum inside is fits t =
    let size : length (run_of xs a (b - a)) ≡ b - a = run_length xs a b inside in
    let one : a + (k + 1) ≡ at = omega (arith, is, fits) in
    let two : a + k ≡ at - 1 = omega (arith, is, fits) in
    record {
      inside = omega (arith, size, is, fits, t.high);
      before = λ some.
          ap (λ l. test (o.join (joined_on o o.identity l) start)) (sym (run_expired xs a (k + 1) b (omega (arith, one, t.high))) ∙ ap (λ p. run_of xs p (b - p)) one)
          ∙ t.before (omega (arith, some, size, is, fits));
      after = ap (λ l. test (o.join (joined_on o o.identity l) start)) (sym (run_expired xs a k b (omega (arith, two, t.high))) ∙ ap (λ p. run_of xs p (b - p)) two) ∙ t.after (omega (arith, fits));
    }

module _ {B S : Type 0} (of_body : B → Operations S) (now : Leaves B S) (body : B) (first room lo hi : ℕ) (xs : List S) (is : seen_of body first room lo hi xs ≡ now) (from to a b : ℕ) (begin : a ≡ from - first + lo) (end : b ≡ to - first + lo) (inside : b ≤ hi) where
  pub found_folds : (start : S) (ys : List S) → ys ≡ xs → AreInOrder (of_body now.body) start (leaf_range now.first now.sums from to) → AreInOrder (of_body body) start (run_of ys a (b - a))
  found_folds start ys same folds =
      subst (λ l. AreInOrder (of_body body) start (run_of l a (b - a))) (sym same)
      (subst (AreInOrder (of_body body) start) (range_lies xs first lo hi from to a b begin end inside)
      (subst (λ (n : Leaves B S). AreInOrder (of_body n.body) start (leaf_range n.first n.sums from to)) (sym is) folds))

  pub found_turn : (test : S → Bool) (start : S) (ys : List S) (at k : ℕ) (sum : S) → ys ≡ xs → hi ≤ length xs → k ≡ at - a → at < b → HasComeTo false (of_body body) test ys start a b at sum → IsTurn (of_body now.body) test start (leaf_range now.first now.sums from to) k
  found_turn test start ys at k sum same room place fits t =
      subst (λ (n : Leaves B S). IsTurn (of_body n.body) test start (leaf_range n.first n.sums from to) k) is
      (subst (λ l. IsTurn (of_body body) test start l k) (sym (range_lies xs first lo hi from to a b begin end inside))
      (turn_at (of_body body) test start xs a b at k sum (omega (arith, inside, room)) place fits (subst (λ l. HasComeTo false (of_body body) test l start a b at sum) same t)))

  pub found_none : (test : S → Bool) (start : S) (ys : List S) (at : ℕ) (sum : S) → ys ≡ xs → at ≡ b → HasComeTo false (of_body body) test ys start a b at sum → HasNoTurn (of_body now.body) test start (leaf_range now.first now.sums from to)
  found_none test start ys at sum same here t =
      let none = (subst (λ p. HasComeTo false (of_body body) test ys start a b p sum) here t).before in
      subst (λ (n : Leaves B S). HasNoTurn (of_body n.body) test start (leaf_range n.first n.sums from to)) is
      (subst (HasNoTurn (of_body body) test start) (sym (range_lies xs first lo hi from to a b begin end inside))
      (λ some. ap (λ l. test (joined_on (of_body body) start (run_of l a (b - a)))) (sym same) ∙ none (omega (arith, some, length-take (b - a) (drop a xs)))))

  -- for a search from the last leaf down: the leaves before `start` can be folded
  pub last_folds : (start : S) (ys : List S) → ys ≡ xs → AreBefore (of_body now.body) (leaf_range now.first now.sums from to) start → AreBefore (of_body body) (run_of ys a (b - a)) start
  last_folds start ys same folds =
      subst (λ l. AreBefore (of_body body) (run_of l a (b - a)) start) (sym same)
      (subst (λ l. AreBefore (of_body body) l start) (range_lies xs first lo hi from to a b begin end inside)
      (subst (λ (n : Leaves B S). AreBefore (of_body n.body) (leaf_range n.first n.sums from to) start) (sym is) folds))

  pub last_turn : (test : S → Bool) (start : S) (ys : List S) (at k : ℕ) (sum : S) → ys ≡ xs → hi ≤ length xs → k ≡ at - 1 - a → a < at → HasComeTo true (of_body body) test ys start a b at sum → IsLastTurn (of_body now.body) test start (leaf_range now.first now.sums from to) k
  last_turn test start ys at k sum same room place fits t =
      subst (λ (n : Leaves B S). IsLastTurn (of_body n.body) test start (leaf_range n.first n.sums from to) k) is
      (subst (λ l. IsLastTurn (of_body body) test start l k) (sym (range_lies xs first lo hi from to a b begin end inside))
      (last_at (of_body body) test start xs a b at k sum (omega (arith, inside, room)) place fits (subst (λ l. HasComeTo true (of_body body) test l start a b at sum) same t)))

  pub last_none : (test : S → Bool) (start : S) (ys : List S) (at : ℕ) (sum : S) → ys ≡ xs → at ≡ a → HasComeTo true (of_body body) test ys start a b at sum → HasNoLastTurn (of_body now.body) test start (leaf_range now.first now.sums from to)
  last_none test start ys at sum same here t =
      let none = (subst (λ p. HasComeTo true (of_body body) test ys start a b p sum) here t).before in
      subst (λ (n : Leaves B S). HasNoLastTurn (of_body n.body) test start (leaf_range n.first n.sums from to)) is
      (subst (HasNoLastTurn (of_body body) test start) (sym (range_lies xs first lo hi from to a b begin end inside))
      (λ some. ap (λ l. test ((of_body body).join (joined_on (of_body body) (of_body body).identity (run_of l a (b - a))) start)) (sym same) ∙ none (omega (arith, some, length-take (b - a) (drop a xs)))))

-- the leaves between two places, by the places of their cells
places_lie : {S : Type 0} (xs : List S) (lo hi from to a b : ℕ) → from + lo ≡ a → to + lo ≡ b → b ≤ hi → slice_range (run_of xs lo (hi - lo)) from to ≡ run_of xs a (b - a)
places_lie xs lo hi from to a b start end inside =
    let place : from ≡ a - lo = omega (arith, start) in
    let count : to - from ≡ b - a = omega (arith, start, end) in
    ap (run_of (run_of xs lo (hi - lo)) from) count ∙ ap (λ k. run_of (run_of xs lo (hi - lo)) k (b - a)) place ∙ run_inside xs lo hi a b (omega (arith, start)) inside

-- what a search among leaves says of what is seen, with the leaves given by places and not by numbers
module _ {B S : Type 0} (of_body : B → Operations S) (now : Leaves B S) (body : B) (first room lo hi : ℕ) (xs : List S) (is : seen_of body first room lo hi xs ≡ now) (from to a b : ℕ) (begin : from + lo ≡ a) (end : to + lo ≡ b) (inside : b ≤ hi) (ys : List S) (same : ys ≡ xs) where
  pub turn_folds : (start : S) → AreInOrder (of_body now.body) start (slice_range now.sums from to) → AreInOrder (of_body body) start (run_of ys a (b - a))
  turn_folds start folds =
      subst (λ l. AreInOrder (of_body body) start (run_of l a (b - a))) (sym same)
      (subst (AreInOrder (of_body body) start) (places_lie xs lo hi from to a b begin end inside)
      (subst (λ (n : Leaves B S). AreInOrder (of_body n.body) start (slice_range n.sums from to)) (sym is) folds))

  -- what they come to behind a summary
  pub turn_sum : (start : S) → joined_on (of_body body) start (run_of ys a (b - a)) ≡ joined_on (of_body now.body) start (slice_range now.sums from to)
  turn_sum start =
      subst (λ (n : Leaves B S). joined_on (of_body body) start (run_of ys a (b - a)) ≡ joined_on (of_body n.body) start (slice_range n.sums from to)) is
      (ap (joined_on (of_body body) start) (ap (λ l. run_of l a (b - a)) same ∙ sym (places_lie xs lo hi from to a b begin end inside)))

  -- for a search from the last leaf down, by places: the leaves before `start` can be folded
  pub turn_back_folds : (start : S) → AreBefore (of_body now.body) (slice_range now.sums from to) start → AreBefore (of_body body) (run_of ys a (b - a)) start
  turn_back_folds start folds =
      subst (λ l. AreBefore (of_body body) (run_of l a (b - a)) start) (sym same)
      (subst (λ l. AreBefore (of_body body) l start) (places_lie xs lo hi from to a b begin end inside)
      (subst (λ (n : Leaves B S). AreBefore (of_body n.body) (slice_range n.sums from to) start) (sym is) folds))

  -- and before one
  pub turn_back_sum : (start : S) → (of_body body).join (joined_on (of_body body) (of_body body).identity (run_of ys a (b - a))) start ≡ (of_body now.body).join (joined_on (of_body now.body) (of_body now.body).identity (slice_range now.sums from to)) start
  turn_back_sum start =
      subst (λ (n : Leaves B S). (of_body body).join (joined_on (of_body body) (of_body body).identity (run_of ys a (b - a))) start ≡ (of_body n.body).join (joined_on (of_body n.body) (of_body n.body).identity (slice_range n.sums from to)) start) is
      (ap (λ l. (of_body body).join (joined_on (of_body body) (of_body body).identity l) start) (ap (λ l. run_of l a (b - a)) same ∙ sym (places_lie xs lo hi from to a b begin end inside)))
