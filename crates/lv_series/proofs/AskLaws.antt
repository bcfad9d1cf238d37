-- A value that is asked for with its kind's tree made first.
use Rattle.std.proofs.Common.{◌≡◌, ℕ, Ok, None, ap, subst, ◌∙◌}
use Rattle.lv_bodies.specs.declared.kinds.Kind.{Kind}
use Rattle.lv_tree.specs.KindSummaries.{summary_by}
use Rattle.lv_tree.specs.declared.kind_summaries.KindSummary.{KindSummary}
use Rattle.lv_series.specs.declared.answers.LongAnswer.{LongAnswer}
use Rattle.lv_series.specs.Series.{Asks, IsLongValue, SeriesState, range_refused, slice_of, with_kind}

-- the value then is that of the series before
pub asks_after : (old mid new : SeriesState) (k : Kind) (lo hi : ℕ) (answer : LongAnswer KindSummary) → mid ≡ record old { kinds = with_kind k old.kinds } → new ≡ mid → IsLongValue mid k lo hi answer → Asks old k lo hi (Ok answer) new
asks_after old mid new k lo hi answer is same value =
    let held : mid.held ≡ old.held = ap (λ t. t.held) is in (
      record {
        granted = subst (λ h. range_refused h lo hi ≡ None) held value.granted;
        edit = value.edit ∙ ap (λ t. t.edits) is;
        value = value.value ∙ ap (λ t. summary_by t k (slice_of mid.held lo hi)) (ap (λ t. t.table) is) ∙ ap (λ h. summary_by old.table k (slice_of h lo hi)) held;
      },
      same ∙ is,
    )
