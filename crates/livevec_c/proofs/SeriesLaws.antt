-- What a series answers of a range, and the cells of a piece of one.
use Rattle.std.proofs.Common.{◌≡◌, ℕ, zero, suc, ℤ, pos, ◌+◌, ◌-◌, ◌^◌, ◌≤◌, ◌++◌, ◌∷◌, [], Bool, true, false, Option, None, Ok, Err, List, if◌then◌else◌, length, map, take, get_or, All, inl, inr, refl, sym, ap, subst, ◌∙◌, arith}
use Rattle.std.specs.Prelude.{nat_lt}
use Rattle.std.specs.List.{range_with_len}
use Rattle.std.proofs.Math.Numerals.{suc-eq-add-one}
use Rattle.std.proofs.lemmas.List.{map-append, take_all, take_more}
use Rattle.std.proofs.lemmas.List.Elements.{All-drop, All-take}
use Rattle.std.proofs.lemmas.List.FromFn.{map-range_with_len_more}
use Rattle.std.proofs.lemmas.List.Sums.{fold-append, fold_push}
use Rattle.lv_geometry.specs.Elements.{IsElement}
use Rattle.lv_bodies.specs.Body.{Operations, fold_of}
use Rattle.lv_bodies.specs.Long.{CanFoldLong, LongLaws}
use Rattle.lv_bodies.specs.LongLaws.{fold_of-within_long}
use Rattle.lv_bodies.specs.Plain.{plain_value_with}
use Rattle.lv_bodies.specs.Six.{SixSummary}
use Rattle.lv_bodies.specs.declared.affine.AffineMap.{AffineMap}
use Rattle.lv_bodies.specs.declared.best.RunTotals.{RunTotals}
use Rattle.lv_bodies.specs.declared.kinds.Kind.{Kind}
use Rattle.lv_bodies.specs.declared.kinds.Shown.{Shown}
use Rattle.lv_reduce.specs.Running.{reached, scan_from}
use Rattle.lv_reduce.proofs.PieceLaws.{slice_range-append}
use Rattle.lv_series.specs.Series.{Asks, Held, IsLongValue, range_refused, size_of, slice_of}
use Rattle.lv_series.specs.declared.answers.LongAnswer.{LongAnswer}
use Rattle.lv_series.specs.declared.refusals.LongRefusal.{LongRefusal}
use Rattle.lv_series.proofs.FreeLaws.{free_range}
use Rattle.lv_series.proofs.KeptLaws.{slice_long, slice_start}
use Rattle.lv_tree.specs.KindSummaries.{shown_of}
use Rattle.lv_tree.specs.declared.kind_summaries.KindSummary.{KindSummary}
use Rattle.livevec_c.specs.Columns.{CanGoOnLong}
use Rattle.livevec_c.specs.Seats.{values_for}
use Rattle.livevec_c.specs.SeriesAnswers.{granted, long_valued, refused_by, unreduced_by}
use Rattle.livevec_c.specs.SeriesBehind.{AsksSeries, values_of, with_all}
use Rattle.livevec_c.specs.SeriesHeld.{Long}
use Rattle.livevec_c.specs.SeriesValued.{ValuesSeries, value_of, with_tree}
use Rattle.livevec_c.specs.SpreadLaws.{shown-plain}
use Rattle.livevec_c.specs.declared.series_results.SeriesReduced.{SeriesReduced}

-- six summaries that are equal to six others, each to its own, are those
pub same_six : (s : SixSummary) (sum : ℕ) (least greatest : Option ℤ) (best : Option RunTotals) (m : AffineMap) (states : List ℕ) → sum ≡ s.0 → least ≡ s.1.0 → greatest ≡ s.1.1.0 → best ≡ s.1.1.1.0 → m ≡ s.1.1.1.1.0 → states ≡ s.1.1.1.1.1
    → (sum, (least, (greatest, (best, (m, states))))) ≡ s
same_six s sum least greatest best m states a b c d e f = rw (a, b, c, d, e, f) refl

-- a value that was returned is the plain value of its kind
pub kind_told : (kind : Kind) (s : Long) (lo hi : ℕ) (answer : LongAnswer KindSummary) (shown : Shown) (told : SeriesReduced) → IsLongValue s kind lo hi answer → shown ≡ shown_of answer.value → told ≡ record { why = granted; edit = answer.edit; values = values_for (nat_lt lo hi) shown } → told ≡ value_of kind lo hi s
kind_told kind s lo hi answer shown told is shows tells =
    let xs = slice_of s.held lo hi in
    let any = nat_lt lo hi in
    tells
    ∙ ap (λ n. record { why = granted; edit = n; values = values_for any shown }) is.edit
    ∙ ap (λ v. record { why = granted; edit = s.edits; values = values_for any v }) (shows ∙ ap shown_of is.value ∙ shown-plain s.table xs kind)
    ∙ ap (λ r. long_valued r s.edits (values_for any (plain_value_with s.table kind xs))) (sym is.granted)

-- a value by a kind whose tree was made first
pub kind_asked : (kind : Kind) (s new : Long) (lo hi : ℕ) (answer : LongAnswer KindSummary) (shown : Shown) (told : SeriesReduced) → Asks s kind lo hi (Ok answer) new → shown ≡ shown_of answer.value → told ≡ record { why = granted; edit = answer.edit; values = values_for (nat_lt lo hi) shown } → ValuesSeries kind lo hi told s new
kind_asked kind s new lo hi answer shown told (is, after) shows tells = inl (kind_told kind s lo hi answer shown told is shows tells, after ∙ ap (λ r. with_tree kind r s) (sym is.granted))

-- a query by a kind that was refused
pub kind_refused : (kind : Kind) (s new : Long) (lo hi : ℕ) (refusal : LongRefusal) (told : SeriesReduced) → Asks s kind lo hi (Err refusal) new → told ≡ unreduced_by (refused_by refusal) → ValuesSeries kind lo hi told s new
kind_refused kind s new lo hi refusal told (same, inl why) tells =
    inl (
      tells ∙ ap (λ r. long_valued r s.edits (values_for (nat_lt lo hi) (plain_value_with s.table kind (slice_of s.held lo hi)))) (sym why),
      same ∙ ap (λ r. with_tree kind r s) (sym why),
    )
kind_refused kind s new lo hi refusal told (same, inr (free, is, none)) tells = inr (tells ∙ ap (λ r. unreduced_by (refused_by r)) is, free, none, same)

-- values by all kinds that were returned after the tree of each was made
pub all_made : (s new : Long) (lo hi : ℕ) (told : SeriesReduced) → new ≡ with_all None s → range_refused s.held lo hi ≡ None → told ≡ values_of lo hi new → AsksSeries lo hi told s (with_all None s)
all_made s new lo hi told is granted tells = inl (tells ∙ ap (values_of lo hi) is, ap (λ r. with_all r s) (sym granted))

-- the fold of what comes before some elements may go on over them
pub piece_can : {S : Type 0} (o : Operations S) (within : S → ℕ → Type 0) → LongLaws o within → (h : Held) (lo at more : ℕ) → range_refused h lo at ≡ None → range_refused h at (at + more) ≡ None → All IsElement h.elements → size_of h ≤ 2 ^ 62 → (s : S) → s ≡ fold_of o (slice_of h lo at) → CanGoOnLong within s more
piece_can o within laws h lo at more front rest elements few s is =
    let low = free_range h lo at front in
    let high = free_range h at (at + more) rest in
    let xs = slice_of h lo at in
    let long = slice_long h lo at (omega (arith, low)) (omega (arith, low)) (omega (arith, low)) in
    let can : CanFoldLong xs = record { few = omega (arith, long, low, few); elements = All-take IsElement (at - h.first - (lo - h.first)) _ (All-drop IsElement (lo - h.first) h.elements elements) } in
    record {
      count = length xs;
      count_within = subst (λ t. within t (length xs)) (sym is) (fold_of-within_long o within laws xs can);
      few = omega (arith, long, low, high, few);
    }

-- elements of a range that is kept, from one index on, where what comes before them starts at another index
module _ {S C : Type 0} (o : Operations S) (cell_of : S → C) (plain : List ℤ → C) (plain_is : (ys : List ℤ) → cell_of (fold_of o ys) ≡ plain ys) (h : Held) (lo at : ℕ) (xs : List ℤ) (front : range_refused h lo at ≡ None) (rest : range_refused h at (at + length xs) ≡ None) (is : xs ≡ slice_of h at (at + length xs)) where
  abbrev before : S
  before = fold_of o (slice_of h lo at)

  -- the running fold after so many elements
  reached_at : (j : ℕ) → j ≤ length xs → cell_of (reached o before (take j xs)) ≡ plain (slice_of h lo (at + j))
  reached_at j few =
      let low = free_range h lo at front in
      let high = free_range h at (at + length xs) rest in
      let more : take j xs ≡ slice_of h at (at + j) = ap (take j) is ∙ slice_start h at (at + length xs) j (omega (arith, high)) (omega (arith, few)) in
      let joined = slice_range-append h.elements (lo - h.first) (at - h.first) (at + j - h.first) (omega (arith, low)) (omega arith) in
      ap cell_of (sym (fold-append (λ t x. o.join t (o.lift x)) o.identity (slice_of h lo at) (take j xs)) ∙ ap (λ ys. fold_of o (slice_of h lo at ++ ys)) more ∙ ap (fold_of o) (sym joined)) ∙ plain_is (slice_of h lo (at + j))

  -- the cell at a place, its own element included or excluded
  abbrev cell_at : Bool → ℕ → C
  cell_at inclusive i = plain (slice_of h lo (if inclusive then at + i + 1 else at + i))

  abbrev running : Bool → ℕ → S
  running inclusive k = if inclusive then o.join (reached o before (take k xs)) (o.lift (get_or xs k (pos 0))) else reached o before (take k xs)

  -- a scan with one element more
  scan_more : (inclusive : Bool) (s : S) (ys : List ℤ) (x : ℤ) → scan_from inclusive o s (ys ++ x ∷ []) ≡ scan_from inclusive o s ys ++ (if inclusive then o.join (reached o s ys) (o.lift x) else reached o s ys) ∷ []
  scan_more inclusive s [] x = refl
  scan_more inclusive s (y ∷ ys) x = ap (λ zs. (if inclusive then o.join s (o.lift y) else s) ∷ zs) (scan_more inclusive (o.join s (o.lift y)) ys x)

  running_is : (inclusive : Bool) (k : ℕ) → k + 1 ≤ length xs → cell_of (running inclusive k) ≡ cell_at inclusive k
  running_is true k small =
      let place : at + (k + 1) ≡ at + k + 1 = omega arith in
      ap cell_of (sym (fold_push (λ t x. o.join t (o.lift x)) before (take k xs) (get_or xs k (pos 0))) ∙ ap (reached o before) (sym (take_more xs k (pos 0) (omega (arith, small)))))
      ∙ reached_at (k + 1) small
      ∙ ap (λ n. plain (slice_of h lo n)) place
  running_is false k small = reached_at k (omega (arith, small))

  cells_so_far : (inclusive : Bool) (k : ℕ) → k ≤ length xs → map cell_of (scan_from inclusive o before (take k xs)) ≡ map (cell_at inclusive) (range_with_len 0 k)
  cells_so_far inclusive zero few = refl
  cells_so_far inclusive (suc k) few =
      let x = get_or xs k (pos 0) in
      let next = suc-eq-add-one k in
      let front_cells = scan_from inclusive o before (take k xs) in
      let more = ap (λ n. take n xs) next ∙ take_more xs k (pos 0) (omega (arith, few)) in
      ap (λ ys. map cell_of (scan_from inclusive o before ys)) more
      ∙ ap (map cell_of) (scan_more inclusive before (take k xs) x)
      ∙ map-append cell_of front_cells (running inclusive k ∷ [])
      ∙ ap (λ ys. ys ++ cell_of (running inclusive k) ∷ []) (cells_so_far inclusive k (omega (arith, few)))
      ∙ ap (λ y. map (cell_at inclusive) (range_with_len 0 k) ++ y ∷ []) (running_is inclusive k (omega (arith, few)))
      ∙ sym (map-range_with_len_more (cell_at inclusive) 0 k k (omega arith))
      ∙ ap (λ n. map (cell_at inclusive) (range_with_len 0 n)) (sym next)

  -- the cells of their scan are those of the range's prefixes
  pub piece_cells : (inclusive : Bool) → map cell_of (scan_from inclusive o (fold_of o (slice_of h lo at)) xs) ≡ map (λ i. plain (slice_of h lo (if inclusive then at + i + 1 else at + i))) (range_with_len 0 (length xs))
  piece_cells inclusive =
      ap (λ ys. map cell_of (scan_from inclusive o before ys)) (sym (take_all (length xs) xs (omega arith))) ∙ cells_so_far inclusive (length xs) (omega arith)
