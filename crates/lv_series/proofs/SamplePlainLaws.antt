-- What a run of calls on samples leaves is what its accepted edits make.
use Rattle.std.proofs.Common.{◌≡◌, ℕ, ℤ, ◌+◌, Bool, true, false, List, [], ◌∷◌, length, fold, refl, sym, ap, subst, ◌∙◌, arith}
use Rattle.lv_bodies.specs.declared.kinds.Kind.{Kind}
use Rattle.lv_tree.specs.KindSummaries.{summary_by}
use Rattle.lv_tree.specs.declared.kind_summaries.KindSummary.{KindSummary}
use Rattle.lv_series.specs.declared.answers.LongAnswer.{LongAnswer}
use Rattle.lv_series.specs.declared.sample_edits.SampleEdit.{SampleEdit}
use Rattle.lv_series.specs.Plain.{Held, changed}
use Rattle.lv_series.specs.Samples.{IsPlainSamples, IsSampleValue, SampleCalled, SampleRun, SamplesState, accepted_samples, edited, plain_samples, prepared, times_after, value_edit, values_where, with_sample_edit}

-- samples that differ in no more than which kinds have a tree
record Alike (s t : SamplesState) : Type 0 where
  table : s.series.table ≡ t.series.table
  held : s.series.held ≡ t.series.held
  edits : s.series.edits ≡ t.series.edits
  times : s.times ≡ t.times

alike_itself : (s : SamplesState) → Alike s s
alike_itself s = record { table = refl; held = refl; edits = refl; times = refl }

alike_after : (s t : SamplesState) (e : SampleEdit) → Alike s t → Alike (with_sample_edit s e) (with_sample_edit t e)
alike_after s t e a = record {
  table = a.table;
  held = ap (λ h. changed h (value_edit e)) a.held;
  edits = ap (λ n. n + length (value_edit e ∷ [])) a.edits;
  times = ap (λ (h : Held). times_after h.first s.times e) a.held ∙ ap (λ ts. times_after t.series.held.first ts e) a.times;
}

-- a run makes what its accepted edits make
run_is : (s t next : SamplesState) (calls : List SampleCalled) → Alike s t → SampleRun s calls next → Alike next (fold with_sample_edit t (accepted_samples calls))
run_is s t next [] a run = subst (λ u. Alike u t) (sym run) a
run_is s t next (edited e true ∷ others) a run =
    run_is run.0 (with_sample_edit t e) next others (subst (λ u. Alike u (with_sample_edit t e)) (sym run.1) (alike_after s t e a)) run.2
run_is s t next (edited e false ∷ others) a run = run_is run.0 t next others (subst (λ u. Alike u t) (sym run.1) a) run.2
run_is s t next (prepared k ∷ others) a run =
    let kinds = run.1.0 in
    let b : Alike (record s { series = record (s.series) { kinds = kinds } }) t = record { table = a.table; held = a.held; edits = a.edits; times = a.times } in
    run_is run.0 t next others (subst (λ u. Alike u t) (sym run.1.1) b) run.2

-- each edit counts one
counted : (s : SamplesState) (edits : List SampleEdit) → (fold with_sample_edit s edits).series.edits ≡ s.series.edits + length edits
counted s [] = omega arith
counted s (e ∷ others) = omega (arith, counted (with_sample_edit s e) others)

-- values over windows are the same of samples that are alike
value_alike : (s t : SamplesState) → Alike s t → (k : Kind) (counts : ℤ → Bool) (answer : LongAnswer KindSummary) → IsSampleValue s k counts answer → IsSampleValue t k counts answer
value_alike s t a k counts answer is = record {
  edit = is.edit ∙ a.edits;
  value = is.value
      ∙ ap (λ table. summary_by table k (values_where counts s.times s.series.held.elements)) a.table
      ∙ ap (λ ts. summary_by t.series.table k (values_where counts ts s.series.held.elements)) a.times
      ∙ ap (λ (h : Held). summary_by t.series.table k (values_where counts t.times h.elements)) a.held;
}

pub run_is_plain : (table : List (List ℕ)) (calls : List SampleCalled) (s : SamplesState) → SampleRun (plain_samples table []) calls s → IsPlainSamples table calls s
run_is_plain table calls s run =
    let a : Alike s (plain_samples table (accepted_samples calls)) = run_is (plain_samples table []) (plain_samples table []) s calls (alike_itself (plain_samples table [])) run in
    record {
      times = a.times;
      held = a.held;
      edits = a.edits ∙ counted (plain_samples table []) (accepted_samples calls) ∙ omega arith;
      values = value_alike s (plain_samples table (accepted_samples calls)) a;
    }
