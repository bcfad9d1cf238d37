-- The elements from the block of a tree's first leaf on: what they are to the elements in memory, and these to what a series keeps.
use Rattle.std.proofs.Common.{◌≡◌, ℕ, ℤ, ◌+◌, ◌-◌, ◌*◌, ◌/◌, ◌≤◌, ◌^◌, Bool, true, false, Some, None, List, length, take, drop, slice_range, refl, sym, ap, ◌∙◌, subst, arith, drop-drop, length-drop, All}
use Rattle.std.proofs.lemmas.List.{length-take, take_all}
use Rattle.std.proofs.lemmas.List.Elements.{All-drop, All-take}
use Rattle.lv_bodies.specs.Body.{Operations, fold_of}
use Rattle.lv_geometry.specs.Elements.{IsElement}
use Rattle.lv_series.specs.Blocks.{IsOver, IsWindow, Layered}
use Rattle.lv_series.specs.Places.{Finds}
use Rattle.lv_tree.specs.BlockLaws.{leaves_join, middle_is}
use Rattle.lv_tree.specs.Blocks.{AreLeaves}
use Rattle.lv_tree.specs.Folds.{AreFolds, AreFoldsOf, end_to_end, leaf_range}
use Rattle.lv_tree.specs.SliceLaws.{slice_of_slice}
use Rattle.lv_tree.specs.Sought.{Misses}
use Rattle.lv_tree.specs.declared.sought.Sought.{Sought}

-- a slice of a list without its first elements
pub slice_of_rest : {T : Type 0} (gone : ℕ) (xs : List T) (a b c d : ℕ) → c ≡ gone + a → d ≡ gone + b → slice_range (drop gone xs) a b ≡ slice_range xs c d
slice_of_rest gone xs a b c d from to =
    let wide : b - a ≡ d - c = omega (arith, from, to) in
    ap (take (b - a)) (drop-drop a gone xs) ∙ ap (λ n. take n (drop (gone + a) xs)) wide ∙ ap (λ n. take (d - c) (drop n xs)) (sym from)

-- the elements from a place on
rest_is : (gone : ℕ) (xs items : List ℤ) → items ≡ slice_range xs gone (length xs) → items ≡ drop gone xs
rest_is gone xs items is = is ∙ take_all (length xs - gone) (drop gone xs) (omega (arith, length-drop gone xs))

-- the leaves of a tree that is kept are those of the elements from its first leaf's block on
pub leaves_are : {B S : Type 0} (ops : B → Operations S) (base first : ℕ) (xs : List ℤ) → IsWindow base first xs → (l t : Layered B S) → t ≡ l → IsOver (ops l.body) base first xs l → l.kept ≡ true → (gone : ℕ) (items : List ℤ) → gone ≡ 8 * (first / 8 - base) → items ≡ slice_range xs gone (length xs) → AreLeaves (ops t.body) items t.sums
leaves_are {B = B} {S = S} ops base first xs w l t view over kept gone items at is =
    subst (λ (u : Layered B S). AreLeaves (ops u.body) items u.sums) (sym view)
    (subst (λ ys. AreLeaves (ops l.body) ys l.sums) (sym (rest_is gone xs items is ∙ ap (λ n. drop n xs) at)) (over kept).sums)

-- what is found is not before the range
pub found_from : (sought : Sought) (xs : List ℤ) (a b k : ℕ) (back : Bool) → Finds back sought xs a b (Some k) → a ≤ k
found_from sought xs a b k false f = omega (arith, f.after)
found_from sought xs a b k true f = f.inside

-- what is found in one list is found in another, some places further on, if their slices are the same
module _ (sought : Sought) (xs ys : List ℤ) (p q : ℕ) (same : (i j k l : ℕ) → p ≤ i → p ≤ j → k + p ≡ i + q → l + p ≡ j + q → slice_range xs i j ≡ slice_range ys k l) (a b c d : ℕ) (low : p ≤ a) (order : a ≤ b) (from : c + p ≡ a + q) (to : d + p ≡ b + q) where
  pub found_there : (back : Bool) (k l : ℕ) → l + p ≡ k + q → Finds back sought xs a b (Some k) → Finds back sought ys c d (Some l)
  found_there false k l at f = record {
    after = omega (arith, f.after, low, from, at);
    inside = omega (arith, f.inside, to, at);
    met = λ misses. f.met (subst (Misses sought) (sym (same a k c l low (omega (arith, low, f.after)) from at)) misses);
    missed = subst (Misses sought) (same a (k - 1) c (l - 1) low (omega (arith, low, f.after)) from (omega (arith, f.after, low, at))) f.missed;
  }
  found_there true k l at f = record {
    inside = omega (arith, f.inside, from, at);
    before = omega (arith, f.before, to, at);
    met = λ misses. f.met (subst (Misses sought) (sym (same k b l d (omega (arith, low, f.inside)) (omega (arith, low, order)) at to)) misses);
    missed = subst (Misses sought) (same (k + 1) b (l + 1) d (omega (arith, low, f.inside)) (omega (arith, low, order)) (omega (arith, at)) to) f.missed;
  }

  pub none_there : (back : Bool) → Finds back sought xs a b None → Finds back sought ys c d None
  none_there false misses = subst (Misses sought) (same a b c d low (omega (arith, low, order)) from to) misses
  none_there true misses = subst (Misses sought) (same a b c d low (omega (arith, low, order)) from to) misses

-- what is found in the elements from a place on is found in the whole list
module _ (sought : Sought) (gone : ℕ) (xs items : List ℤ) (is : items ≡ slice_range xs gone (length xs)) (from to : ℕ) (low : gone ≤ from) (order : from ≤ to) (back : Bool) where
  same_slices : (i j k l : ℕ) → 0 ≤ i → 0 ≤ j → k + 0 ≡ i + gone → l + 0 ≡ j + gone → slice_range items i j ≡ slice_range xs k l
  same_slices i j k l _ _ at end = ap (λ ys. slice_range ys i j) (rest_is gone xs items is) ∙ slice_of_rest gone xs i j k l (omega (arith, at)) (omega (arith, end))

  pub found_in_all : (place : ℕ) → Finds back sought items (from - gone) (to - gone) (Some place) → Finds back sought xs from to (Some (gone + place))
  found_in_all place f =
      found_there sought items xs 0 gone same_slices (from - gone) (to - gone) from to (omega arith) (omega (arith, low, order)) (omega (arith, low)) (omega (arith, low, order)) back place (gone + place) (omega arith) f

  pub none_in_all : Finds back sought items (from - gone) (to - gone) None → Finds back sought xs from to None
  none_in_all f =
      none_there sought items xs 0 gone same_slices (from - gone) (to - gone) from to (omega arith) (omega (arith, low, order)) (omega (arith, low)) (omega (arith, low, order)) back f

-- what the leaves of whole blocks come to is the fold of the blocks' elements
module _ {B S : Type 0} (ops : B → Operations S) (base first : ℕ) (xs : List ℤ) (w : IsWindow base first xs) (l t : Layered B S) (view : t ≡ l) (over : IsOver (ops l.body) base first xs l) (kept : l.kept ≡ true) where
  abbrev gone : ℕ
  gone = 8 * (first / 8 - base)

  abbrev rest : List ℤ
  rest = slice_range xs gone (length xs)

  leaves : AreLeaves (ops t.body) rest t.sums
  leaves = leaves_are ops base first xs w l t view over kept gone rest refl refl

  all : All IsElement rest
  all = All-take IsElement (length xs - gone) (drop gone xs) (All-drop IsElement gone xs w.all)

  few : length rest ≤ 2 ^ 61
  few = omega (arith, length-take (length xs - gone) (drop gone xs), w.few)

  pub blocks_fold : AreFolds (ops t.body) t.sums
  blocks_fold = leaves_join (ops t.body) rest t.sums leaves all few

  pub blocks_are : (s : S) (from to : ℕ) → first ≤ 8 * base + 8 * from → from ≤ to → 8 * to ≤ length xs → ((lists : List (List ℤ)) → AreFoldsOf (ops t.body) lists t.sums → s ≡ fold_of (ops t.body) (end_to_end (leaf_range t.first lists (base + from) (base + to)))) → s ≡ fold_of (ops l.body) (slice_range xs (8 * from) (8 * to))
  blocks_are s from to low order high is =
      let start : t.first ≡ first / 8 = ap (λ u. u.first) view ∙ (over kept).start in
      let whole : t.first + length t.sums ≡ base + length xs / 8 = ap (λ u. u.first + length u.sums) view ∙ (over kept).whole in
      let a = base + from - t.first in
      let b = base + to - t.first in
      let late : t.first ≤ base + from = omega (arith, start, low) in
      let begin : gone + 8 * a ≡ 8 * from = omega (arith, start, late, w.low) in
      let end_ : gone + 8 * b ≡ 8 * to = omega (arith, start, late, w.low, order) in
      middle_is (ops t.body) rest t.sums leaves all few s a b (omega (arith, order)) (omega (arith, whole, high, late)) is
      ∙ ap (fold_of (ops t.body)) (
      slice_of_slice xs gone (length xs) (8 * a) (8 * b) (omega (arith, order)) (omega (arith, end_, high))
      ∙ ap (λ k. slice_range xs k (gone + 8 * b)) begin
      ∙ ap (slice_range xs (8 * from)) end_
      )
      ∙ ap (λ (u : Layered B S). fold_of (ops u.body) (slice_range xs (8 * from) (8 * to))) view
