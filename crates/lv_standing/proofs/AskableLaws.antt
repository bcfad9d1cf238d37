-- A vector is asked: its first element has index 0.
use Rattle.std.proofs.Common.{◌≡◌, ◌∙◌, ◌-◌, ℕ, ℤ, List, ap, ap₂, arith, map, refl, slice_range, sym}
use Rattle.lv_bodies.specs.Plain.{plain_value_with}
use Rattle.lv_edits.specs.declared.edit.Edit.{Edit}
use Rattle.lv_edits.specs.History.{list_of}
use Rattle.lv_standing.specs.declared.queries.Query.{Query}
use Rattle.lv_standing.specs.declared.spans.Span.{Span}
use Rattle.lv_standing.specs.declared.spans.Span.TheVariants.{Between, Last}
use Rattle.lv_standing.specs.Askable.{span_from, vector_after}
use Rattle.lv_standing.specs.Queries.{answer_in, span_of}

-- indices from the first element on are those of the list
pub from_start : {A : Type 0} (xs : List A) (lo hi : ℕ) → slice_range xs (lo - 0) (hi - 0) ≡ slice_range xs lo hi
from_start xs lo hi =
    let begin : lo - 0 ≡ lo = omega arith in
    let end : hi - 0 ≡ hi = omega arith in
    ap₂ (slice_range xs) begin end

span_from_start : (span : Span) (xs : List ℤ) → span_from 0 span xs ≡ span_of span xs
span_from_start (Between lo hi) xs = from_start xs lo hi
span_from_start (Last n) xs = refl

-- so the indices of a span are those in the list
pub span_there : (span : Span) (xs : List ℤ) (lo hi : ℕ) → slice_range xs (lo - 0) (hi - 0) ≡ span_from 0 span xs → slice_range xs lo hi ≡ span_of span xs
span_there span xs lo hi is = sym (from_start xs lo hi) ∙ is ∙ span_from_start span xs

-- and what queries are answered by it is the plain value of their elements
pub answered_plainly : (table : List (List ℕ)) (edits : List Edit) (q : Query) → answer_in (vector_after table edits) q ≡ plain_value_with table q.kind (span_of q.span (list_of edits))
answered_plainly table edits q = ap (plain_value_with table q.kind) (span_from_start q.span (list_of edits))

pub all_answered : (table : List (List ℕ)) (edits : List Edit) (queries : List Query)
    → map (answer_in (vector_after table edits)) queries ≡ map (λ q. plain_value_with table q.kind (span_of q.span (list_of edits))) queries
all_answered table edits queries = ap (λ answer. map answer queries) (λ i q. answered_plainly table edits q i)
