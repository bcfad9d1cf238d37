-- The value of a kind doesn't depend on which kinds have a tree, and what a series is asked is what it keeps.
use Rattle.std.proofs.Common.{◌≡◌, ◌≤◌, ◌-◌, ℕ, max, None, Some, Result, Ok, Err, OnErr, OnOk, slice_range, sym, ap, ap₂, ◌∙◌, ◌&&◌, true, arith}
use Rattle.std.proofs.lemmas.Bool.{cond-false, cond-true, le-leb, le-ltb}
use Rattle.lv_bodies.specs.Plain.{plain_value_with, program_table}
use Rattle.lv_bodies.specs.declared.kinds.Kind.{Kind}
use Rattle.lv_tree.specs.KindSummaries.{shown_of, summary_by}
use Rattle.lv_tree.specs.declared.kind_summaries.KindSummary.{KindSummary}
use Rattle.lv_series.specs.declared.answers.LongAnswer.{LongAnswer}
use Rattle.lv_series.specs.declared.refusals.LongRefusal.{LongRefusal}
use Rattle.lv_series.specs.Series.{Held, IsLongValue, SeriesState, is_border, range_refused, size_of, slice_of, with_kind}
use Rattle.lv_standing.specs.Askable.{span_from}
use Rattle.lv_standing.specs.Queries.{answer_in}
use Rattle.lv_script.specs.PlainSeriesScript.{long_answer}
use Rattle.lv_script.specs.SampleQueries.{asked_series}
use Rattle.lv_script.specs.Values.{ShowsValue, without_trees}
use Rattle.lv_script.proofs.LongShown.{shown_is_plain}

-- a tree was made, or there was no memory for it
pub prepared : {T E : Type 0} (old new : SeriesState) (kind : Kind) (result : Result T E) → OnOk result (new ≡ record old { kinds = with_kind kind old.kinds }) → OnErr result (new ≡ old)
    → without_trees new ≡ without_trees old
prepared old new kind (Ok done) made same = ap without_trees made
prepared old new kind (Err refusal) made same = ap without_trees same

-- what the series with the tree is answered is what the series without it is
module _ (old new : SeriesState) (same : without_trees new ≡ without_trees old) (kind : Kind) (lo hi : ℕ) where
  held_still : new.held ≡ old.held
  held_still = ap (λ s. s.held) same

  pub value_shown : (answer : LongAnswer KindSummary) → old.table ≡ program_table → IsLongValue new kind lo hi answer → ShowsValue old.held kind lo hi (Ok (shown_of answer.value))
  value_shown answer table is =
      let tables : new.table ≡ program_table = ap (λ s. s.table) same ∙ table in (
        ap (λ h. range_refused h lo hi) (sym held_still) ∙ is.granted,
        ap shown_of is.value ∙ ap₂ (λ t h. shown_of (summary_by t kind (slice_of h lo hi))) tables held_still ∙ shown_is_plain program_table kind (slice_of old.held lo hi),
      )

  pub value_refused : (refusal : LongRefusal) → range_refused new.held lo hi ≡ Some refusal → ShowsValue old.held kind lo hi (Err refusal)
  value_refused refusal why = ap (λ h. range_refused h lo hi) (sym held_still) ∙ why

-- ---- what is kept of a range

-- an index from the first on up to the end is a border
border_of : (h : Held) (i : ℕ) → h.first ≤ i → i ≤ size_of h → is_border h i ≡ true
border_of h i from to = ap₂ (λ a b. a && b) (le-leb h.first i from) (le-leb i (size_of h) to)

-- a range whose elements are all kept is granted
pub kept_granted : (h : Held) (lo hi : ℕ) → h.first ≤ lo → lo ≤ hi → hi ≤ size_of h → range_refused h lo hi ≡ None
kept_granted h lo hi from order to =
    cond-false _ _ _ (le-ltb hi lo order)
    ∙ cond-true _ _ _ (ap₂ (λ a b. a && b) (border_of h lo from (omega (arith, order, to))) (border_of h hi (omega (arith, from, order)) to))

-- what is kept of a range is the range of the indices that are kept
pub kept_alike : (h : Held) (lo hi : ℕ) → slice_of h (max lo h.first) (max hi h.first) ≡ slice_of h lo hi
kept_alike h lo hi =
    let begin : max lo h.first - h.first ≡ lo - h.first = omega arith in
    let end : max hi h.first - h.first ≡ hi - h.first = omega arith in
    ap₂ (slice_range h.elements) begin end

-- ---- what queries are answered

-- by the program's automaton a query is answered plainly
pub answered_plainly : (s : SeriesState) → s.table ≡ program_table → answer_in (asked_series s) ≡ long_answer s.held
answered_plainly s table i q = plain_value_with (table i) q.kind (span_from s.held.first q.span s.held.elements)
