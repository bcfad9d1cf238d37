-- The fold of a range with a node's elements at its end.
use Rattle.std.proofs.Common.{◌≡◌, ℕ, ℤ, ◌+◌, ◌-◌, ◌^◌, ◌<◌, ◌≤◌, Bool, List, [], ◌∷◌, ◌++◌, length, drop, take, min, slice_index_or, slice_range, sym, ap, subst, ◌∙◌, arith}
use Rattle.std.proofs.lemmas.List.{drop-drop, take-take, take_all}
use Rattle.std.proofs.Math.Seq.{take-add}
use Rattle.lv_geometry.specs.Nodes.{over}
use Rattle.lv_bodies.specs.Body.{BodyLaws, CanFold, CanJoin, Operations, fold_of}
use Rattle.lv_bodies.specs.FoldLaws.{fold_of-append, fold_of-within}
use Rattle.lv_edits.specs.declared.edit.Edit.{Edit}
use Rattle.lv_edits.specs.History.{list_of}
use Rattle.lv_edits.proofs.Slices.{length-slice_range, part_of_take, slice_range-more}
use Rattle.lv_summary.specs.Agrees.{Agrees}
use Rattle.lv_summary.specs.Table.{Table}
use Rattle.lv_summary.proofs.FoldableLaws.{part_can_fold}
use Rattle.lv_reduce.specs.Answer.{scan_of}
use Rattle.lv_reduce.specs.Pieces.{IsGreatestFresh}
use Rattle.lv_reduce.specs.Running.{CanGoOn, reached, scan_from}
use Rattle.lv_reduce.proofs.NodeLaws.{first_of_aligned}
use Rattle.lv_reduce.proofs.RunLaws.{reached-append, scan_from-append, scan_of-append, slice_of_piece}

-- a slice that ends later has a further slice at its end
pub slice_range-append : {A : Type 0} (xs : List A) (lo at end : ℕ) → lo ≤ at → at ≤ end → slice_range xs lo end ≡ slice_range xs lo at ++ slice_range xs at end
slice_range-append xs lo at end low high =
    let long : end - lo ≡ at - lo + (end - at) = omega arith in
    let place : lo + (at - lo) ≡ at = omega arith in
    ap (λ n. take n (drop lo xs)) long
    ∙ take-add (at - lo) (end - at) (drop lo xs)
    ∙ ap (λ ys. take (at - lo) (drop lo xs) ++ take (end - at) ys) (drop-drop (at - lo) lo xs ∙ ap (λ n. drop n xs) place)

-- a slice of one element
pub slice_range-one : {A : Type 0} (xs : List A) (at : ℕ) (x : A) → at < length xs → x ≡ slice_index_or xs at x → x ∷ [] ≡ slice_range xs at (at + 1)
slice_range-one xs at x small is =
    let none : 0 ≡ at - at = omega arith in
    ap (λ n. take n (drop at xs) ++ x ∷ []) none ∙ sym (slice_range-more xs at at x (omega arith) small is)

-- the slice of all is the list
pub slice_range-whole : {A : Type 0} (xs : List A) → slice_range xs 0 (length xs) ≡ xs
slice_range-whole xs = take_all (length xs - 0) xs (omega arith)

-- a slice that ends a run later has the run at its end
pub slice_range-run : {A : Type 0} (xs : List A) (lo at : ℕ) (run : List A) → lo ≤ at → run ≡ slice_range xs at (at + length run) → slice_range xs lo (at + length run) ≡ slice_range xs lo at ++ run
slice_range-run xs lo at run low is =
    slice_range-append xs lo at (at + length run) low (omega arith) ∙ ap (λ ys. slice_range xs lo at ++ ys) (sym is)

-- a slice of a slice is one of the list
pub slice_of_slice : {A : Type 0} (xs : List A) (lo hi a b : ℕ) → a ≤ b → b ≤ hi - lo → slice_range (slice_range xs lo hi) a b ≡ slice_range xs (lo + a) (lo + b)
slice_of_slice xs lo hi a b order inside =
    let wide : b - a ≡ lo + b - (lo + a) = omega arith in
    part_of_take (drop lo xs) (hi - lo) a (b - a) (omega arith) ∙ ap (take (b - a)) (drop-drop a lo xs) ∙ ap (λ n. take n (drop (lo + a) xs)) wide

-- the front of a slice is one
pub front_of_slice : {A : Type 0} (xs : List A) (lo hi n : ℕ) → n ≤ hi - lo → take n (slice_range xs lo hi) ≡ slice_range xs lo (lo + n)
front_of_slice xs lo hi n inside =
    let wide : n ≡ lo + n - lo = omega arith in
    take-take n (hi - lo) (drop lo xs) inside ∙ ap (λ m. take m (drop lo xs)) wide

-- a piece of a slice, cut by its ends
pub piece_of_slice : {A : Type 0} (xs : List A) (lo hi at size m : ℕ) → hi ≤ length xs → at ≤ hi - lo → lo ≤ hi → m ≡ min size (hi - (lo + at)) → slice_range xs (lo + at) (lo + at + m) ≡ take size (drop at (slice_range xs lo hi))
piece_of_slice xs lo hi at size m inside within order is =
    let long = length-slice_range xs lo hi order inside in
    let place : lo + at + m ≡ lo + (at + m) = omega arith in
    ap (slice_range xs (lo + at)) place
    ∙ sym (slice_of_slice xs lo hi at (at + m) (omega arith) (omega arith))
    ∙ slice_of_piece (slice_range xs lo hi) at size m (omega (arith, long, is))

-- the fold of no elements is the identity
pub slice-nothing : {S : Type 0} (o : Operations S) (xs : List ℤ) (lo : ℕ) → o.identity ≡ fold_of o (slice_range xs lo lo)
slice-nothing o xs lo = let nothing : 0 ≡ lo - lo = omega arith in ap (λ n. fold_of o (take n (drop lo xs))) nothing

-- the fold and the scan of a range that go on over a piece behind it are those of the longer range
pub slice_scanned : {S : Type 0} (o : Operations S) (inclusive : Bool) (xs : List ℤ) (lo at end : ℕ) (piece : List ℤ) → slice_range xs lo end ≡ slice_range xs lo at ++ piece → (s r : S) (items longer : List S) → s ≡ fold_of o (slice_range xs lo at) → items ≡ scan_of inclusive o (slice_range xs lo at)
    → r ≡ reached o s piece → longer ≡ items ++ scan_from inclusive o s piece → (r ≡ fold_of o (slice_range xs lo end)) × (longer ≡ scan_of inclusive o (slice_range xs lo end))
slice_scanned o inclusive xs lo at end piece more s r items longer so_far scanned is gone = (
  is
      ∙ ap (λ t. reached o t piece) so_far
      ∙ sym (reached-append o o.identity (slice_range xs lo at) piece)
      ∙ ap (fold_of o) (sym more),
  gone
      ∙ ap (λ ys. ys ++ scan_from inclusive o s piece) scanned
      ∙ ap (λ t. scan_of inclusive o (slice_range xs lo at) ++ scan_from inclusive o t piece) so_far
      ∙ sym (scan_of-append o inclusive (slice_range xs lo at) piece)
      ∙ ap (scan_of inclusive o) (sym more),
)

-- the fold and the scan of a range, continued from a summary of the elements before the range, go on over a piece behind it as those of the
-- longer range
pub slice_scanned_from : {S : Type 0} (o : Operations S) (inclusive : Bool) (before : S) (xs : List ℤ) (lo at end : ℕ) (piece : List ℤ) → slice_range xs lo end ≡ slice_range xs lo at ++ piece → (s r : S) (items longer : List S) → s ≡ reached o before (slice_range xs lo at) → items ≡ scan_from inclusive o before (slice_range xs lo at)
    → r ≡ reached o s piece → longer ≡ items ++ scan_from inclusive o s piece → (r ≡ reached o before (slice_range xs lo end)) × (longer ≡ scan_from inclusive o before (slice_range xs lo end))
slice_scanned_from o inclusive before xs lo at end piece more s r items longer so_far scanned is gone = (
  is
      ∙ ap (λ t. reached o t piece) so_far
      ∙ sym (reached-append o before (slice_range xs lo at) piece)
      ∙ ap (reached o before) (sym more),
  gone
      ∙ ap (λ ys. ys ++ scan_from inclusive o s piece) scanned
      ∙ ap (λ t. scan_from inclusive o before (slice_range xs lo at) ++ scan_from inclusive o t piece) so_far
      ∙ sym (scan_from-append o inclusive before (slice_range xs lo at) piece)
      ∙ ap (scan_from inclusive o before) (sym more),
)

-- what a fold that goes on over a range reaches is the fold from where it began
pub slice_went_on : {S : Type 0} (o : Operations S) (xs : List ℤ) (first lo at : ℕ) → first ≤ lo → lo ≤ at → (before s : S) → before ≡ fold_of o (slice_range xs first lo) → s ≡ reached o before (slice_range xs lo at) → s ≡ fold_of o (slice_range xs first at)
slice_went_on o xs first lo at order low before s began is =
    is
    ∙ ap (λ t. reached o t (slice_range xs lo at)) began
    ∙ sym (reached-append o o.identity (slice_range xs first lo) (slice_range xs lo at))
    ∙ ap (fold_of o) (sym (slice_range-append xs first lo at order low))

module _ {S : Type 0} (o : Operations S) (within : S → ℕ → Type 0) (laws : BodyLaws o within) (xs : List ℤ) (can : CanFold xs) where
  -- the fold of a range is within its width
  pub slice-within : (lo hi : ℕ) → lo ≤ hi → hi ≤ length xs → within (fold_of o (slice_range xs lo hi)) (hi - lo)
  slice-within lo hi order inside =
      subst (λ n. within (fold_of o (slice_range xs lo hi)) n) (length-slice_range xs lo hi order inside)
      (fold_of-within o within laws (slice_range xs lo hi) (part_can_fold (hi - lo) lo xs can))

  -- and may go on over elements behind the range
  pub slice_can_go_on : (lo at more : ℕ) → lo ≤ at → at + more ≤ length xs → (s : S) → s ≡ fold_of o (slice_range xs lo at) → CanGoOn within s more
  slice_can_go_on lo at more low inside s is = record {
    count = at - lo;
    count_within = subst (λ t. within t (at - lo)) (sym is) (slice-within lo at low (omega arith));
    few = omega (arith, can.few);
  }

  -- the fold of a range that goes on over a run is that of the longer range
  pub slice-run : (lo at : ℕ) (run : List ℤ) → lo ≤ at → run ≡ slice_range xs at (at + length run) → (s r : S) → s ≡ fold_of o (slice_range xs lo at) → r ≡ reached o s run → r ≡ fold_of o (slice_range xs lo (at + length run))
  slice-run lo at run low run_is s r so_far is =
      is
      ∙ ap (λ t. reached o t run) so_far
      ∙ sym (reached-append o o.identity (slice_range xs lo at) run)
      ∙ ap (fold_of o) (sym (slice_range-run xs lo at run low run_is))

  -- the join of the folds of two parts of a range is the fold of the range
  pub slice-joined : (lo at hi : ℕ) → lo ≤ at → at ≤ hi → hi ≤ length xs → (s t r : S) → s ≡ fold_of o (slice_range xs lo at) → t ≡ fold_of o (slice_range xs at hi) → r ≡ o.join s t → r ≡ fold_of o (slice_range xs lo hi)
  slice-joined lo at hi low high inside s t r left right is =
      let parts = slice_range-append xs lo at hi low high in
      let whole : CanFold (slice_range xs lo hi) = part_can_fold (hi - lo) lo xs can in
      let joined = ap (fold_of o) parts ∙ fold_of-append o within laws (slice_range xs lo at) (slice_range xs at hi) (subst CanFold parts whole) in
      is ∙ ap (λ u. o.join u t) left ∙ ap (o.join (fold_of o (slice_range xs lo at))) right ∙ sym joined

  -- the folds of two parts of a range may be joined
  pub slices_can_join : (lo at hi : ℕ) → lo ≤ at → at ≤ hi → hi ≤ length xs → (s t : S) → s ≡ fold_of o (slice_range xs lo at) → t ≡ fold_of o (slice_range xs at hi) → CanJoin within s t
  slices_can_join lo at hi low high inside s t left right = record {
    left = at - lo;
    right = hi - at;
    left_within = subst (λ u. within u (at - lo)) (sym left) (slice-within lo at low (omega arith));
    right_within = subst (λ u. within u (hi - at)) (sym right) (slice-within at hi high inside);
    few = omega (arith, can.few);
  }

-- the greatest fresh node's summary is the fold of the elements from the index on
pub piece_folds : {S : Type 0} (o : Operations S) (edits : List Edit) (t : Table S) (at hi level : ℕ) (s : S) → Agrees o edits t → IsGreatestFresh t at hi level s → s ≡ fold_of o (slice_range (list_of edits) at (at + 8 ^ level))
piece_folds o edits t at hi level s agrees piece =
    let wide : 8 ^ level ≡ at + 8 ^ level - at = omega arith in
    agrees.folds (over level at) s piece.entry
    ∙ ap (λ from. fold_of o (take (8 ^ level) (drop from (list_of edits)))) (first_of_aligned level at piece.fits.begins)
    ∙ ap (λ n. fold_of o (take n (drop at (list_of edits)))) wide
