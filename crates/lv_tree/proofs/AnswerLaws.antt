-- An answer by one kind is an answer by the kind that was asked.
use Rattle.std.proofs.Common.{◌≡◌, ℕ, Result, Ok, Err, List, ap, length, subst, sym, ◌∙◌, None}
use Rattle.std.specs.Prelude.{IfOk}
use Rattle.lv_geometry.specs.declared.refusals.Refusal.{Refusal}
use Rattle.lv_bodies.specs.declared.kinds.Kind.{Kind}
use Rattle.lv_bodies.specs.declared.kinds.Kind.TheVariants as kind
use Rattle.lv_edits.specs.declared.edit.Edit.{Edit}
use Rattle.lv_edits.specs.Ranges.{range_refusal, slice_of}
use Rattle.lv_tree.specs.LastSum.{sum_of_range}
use Rattle.lv_tree.specs.Asked.{IsKindAnswer}
use Rattle.lv_tree.specs.OfSixLaws.{sum-part}
use Rattle.lv_tree.specs.declared.kind_summaries.KindSummary.TheVariants.{Sum}
use Rattle.lv_tree.specs.declared.kinds.KindAnswer.{KindAnswer}

-- an answer for each table that fits is one for this table, by the kind that was asked
pub answer_by_table : (result : Result KindAnswer Refusal) (table : List (List ℕ)) (es : List Edit) (asked kind : Kind) (lo hi : ℕ) (fits : List (List ℕ) → Type 0) → asked ≡ kind → fits table
    → IfOk result (λ answer. (table : List (List ℕ)) → fits table → IsKindAnswer table es kind lo hi answer) → IfOk result (λ answer. IsKindAnswer table es asked lo hi answer)
answer_by_table (Ok answer) table es asked kind lo hi fits is fit ok = subst (λ k. IsKindAnswer table es k lo hi answer) (sym is) (ok table fit)
answer_by_table (Err refusal) table es asked kind lo hi fits is fit ok = tt

-- so it is with one for each table
pub answer_by_sums : (result : Result KindAnswer Refusal) (table : List (List ℕ)) (es : List Edit) (asked : Kind) (lo hi : ℕ) → asked ≡ kind.Sum
    → IfOk result (λ answer. (table : List (List ℕ)) → IsKindAnswer table es kind.Sum lo hi answer) → IfOk result (λ answer. IsKindAnswer table es asked lo hi answer)
answer_by_sums (Ok answer) table es asked lo hi is ok = subst (λ k. IsKindAnswer table es k lo hi answer) (sym is) (ok table)
answer_by_sums (Err refusal) table es asked lo hi is ok = tt

-- the sum of a range, with the number of the last edit, is the answer by sums
pub sum_is_answer : (table : List (List ℕ)) (edits : List Edit) (lo hi edit value : ℕ) → range_refusal edits lo hi ≡ None → edit ≡ length edits → value ≡ sum_of_range edits lo hi
    → IsKindAnswer table edits kind.Sum lo hi (record { edit = edit; summary = Sum value })
sum_is_answer table edits lo hi edit value granted last is = record {
  granted = granted;
  edit = last;
  summary = ap Sum (is ∙ sym (sum-part table (slice_of edits lo hi)));
}
