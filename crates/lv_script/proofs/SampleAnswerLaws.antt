-- Samples answer queries by the edits that were accepted.
use Rattle.std.proofs.Common.{◌≡◌, true, false, List, [], ◌∷◌, fold, refl, sym, ap, ap₂, ◌∙◌}
use Rattle.lv_bodies.specs.Plain.{plain_value_with, program_table}
use Rattle.lv_series.specs.Series.{Held}
use Rattle.lv_series.specs.Samples.{SampleCalled, SampleRun, SamplesState, accepted_samples, edited, is_among_last, newest_of, plain_samples, prepared, values_where, with_sample_edit}
use Rattle.lv_series.specs.declared.sample_edits.SampleEdit.{SampleEdit}
use Rattle.lv_series.proofs.SamplePlainLaws.{run_is_plain}
use Rattle.lv_standing.specs.Askable.{span_from}
use Rattle.lv_script.specs.SampleQueries.{sample_answer, sample_answer_after, values_of}
use Rattle.lv_script.specs.declared.sample_queries.SampleQuery.{SampleQuery}
use Rattle.lv_script.specs.declared.sample_queries.SampleSpan.{SampleSpan}
use Rattle.lv_script.specs.declared.sample_queries.SampleSpan.TheVariants.{Among, Within}

-- samples with equal values and equal times have equal values in a span, so that a query has equal answers
values_alike : (s t : SamplesState) (span : SampleSpan) → s.series.held ≡ t.series.held → s.times ≡ t.times → values_of s span ≡ values_of t span
values_alike s t (Among span) held times = ap (λ (h : Held). span_from h.first span h.elements) held
values_alike s t (Within time) held times = ap₂ (λ ts (h : Held). values_where (is_among_last (newest_of ts) time) ts h.elements) times held

answer_alike : (s t : SamplesState) (q : SampleQuery) → s.series.table ≡ t.series.table → s.series.held ≡ t.series.held → s.times ≡ t.times → sample_answer s q ≡ sample_answer t q
answer_alike s t q table held times = ap₂ (λ a xs. plain_value_with a q.kind xs) table (values_alike s t q.span held times)

-- no call changes the automaton
table_after : (s next : SamplesState) (calls : List SampleCalled) → SampleRun s calls next → next.series.table ≡ s.series.table
table_after s next [] run = ap (λ (u : SamplesState). u.series.table) run
table_after s next (edited e true ∷ others) run = table_after run.0 next others run.2 ∙ ap (λ (u : SamplesState). u.series.table) run.1
table_after s next (edited e false ∷ others) run = table_after run.0 next others run.2 ∙ ap (λ (u : SamplesState). u.series.table) run.1
table_after s next (prepared k ∷ others) run = table_after run.0 next others run.2 ∙ ap (λ (u : SamplesState). u.series.table) run.1.1

table_made : (s : SamplesState) (edits : List SampleEdit) → (fold with_sample_edit s edits).series.table ≡ s.series.table
table_made s [] = refl
table_made s (e ∷ others) = table_made (with_sample_edit s e) others

-- whatever the calls, a query is answered by the edits that were accepted
pub answered_by_edits : (calls : List SampleCalled) (s : SamplesState) (q : SampleQuery) → SampleRun (plain_samples program_table []) calls s → sample_answer s q ≡ sample_answer_after (accepted_samples calls) q
answered_by_edits calls s q run =
    let first = plain_samples program_table [] in
    let is = run_is_plain program_table calls s run in
    answer_alike s (plain_samples program_table (accepted_samples calls)) q (table_after first s calls run ∙ sym (table_made first (accepted_samples calls))) is.held is.times

-- if no edit is accepted, each query is answered as before
pub answered_as_before : (calls : List SampleCalled) (s next : SamplesState) (q : SampleQuery) → SampleRun s calls next → accepted_samples calls ≡ [] → sample_answer next q ≡ sample_answer s q
answered_as_before [] s next q run none = ap (λ u. sample_answer u q) run
answered_as_before (edited e true ∷ others) s next q run none = cc
answered_as_before (edited e false ∷ others) s next q run none = answered_as_before others run.0 next q run.2 none ∙ ap (λ u. sample_answer u q) run.1
answered_as_before (prepared k ∷ others) s next q run none =
    let same = run.1.1 in
    answered_as_before others run.0 next q run.2 none
    ∙ answer_alike run.0 s q (ap (λ (u : SamplesState). u.series.table) same) (ap (λ (u : SamplesState). u.series.held) same) (ap (λ (u : SamplesState). u.times) same)
