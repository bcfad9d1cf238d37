-- Queries of a series and of samples, and their answers.
use Rattle.std.specs.Prelude.{ℤ, Bool, false, List}
use Rattle.lv_bodies.specs.declared.kinds.Shown.{Shown}
use Rattle.lv_bodies.specs.Plain.{plain_value_with, program_table}
use Rattle.lv_series.specs.Samples.{SamplesState, is_among_last, newest_of, plain_samples, values_in}
use Rattle.lv_series.specs.Series.{SeriesState}
use Rattle.lv_series.specs.declared.sample_edits.SampleEdit.{SampleEdit}
use Rattle.lv_standing.specs.Askable.{AskableState, span_from}
use Rattle.lv_standing.specs.Queries.{is_backwards as is_span_backwards}
use Rattle.lv_standing.specs.declared.questions.Terms.{Terms}
use Rattle.lv_script.specs.declared.sample_queries.SampleQuery.{SampleQuery}
use Rattle.lv_script.specs.declared.sample_queries.SampleSpan.{SampleSpan}
use Rattle.lv_script.specs.declared.sample_queries.SampleSpan.TheVariants.{Among, Within}

-- the parts of a series that queries ask about
abbrev pub asked_series : SeriesState → AskableState
asked_series s = record { table = s.table; first = s.held.first; elements = s.held.elements; edit = s.edits }

-- the values of the samples in a span: those that are kept of a range of indices or of the last so many; or those whose times are above the newest
-- time less so much
abbrev pub values_of : SamplesState → SampleSpan → List ℤ
values_of s (Among span) = span_from s.series.held.first span s.series.held.elements
values_of s (Within time) = values_in s (is_among_last (newest_of s.times) time)

-- the answer of a query of samples: the plain value of the values in its span
abbrev pub sample_answer : SamplesState → SampleQuery → Shown
sample_answer s q = plain_value_with s.series.table q.kind (values_of s q.span)

-- the answer of a query after some updates of samples that began empty, by the program's automaton
abbrev pub sample_answer_after : List SampleEdit → SampleQuery → Shown
sample_answer_after edits q = sample_answer (plain_samples program_table edits) q

-- whether a span is a range of indices whose end is before its start
abbrev pub is_backwards : SampleSpan → Bool
is_backwards (Among span) = is_span_backwards span
is_backwards (Within time) = false

-- the parts of a query that a set of queries looks at
abbrev pub terms_of : SampleQuery → Terms
terms_of q = record { name = q.name; bound = q.bound; is_backwards = is_backwards q.span }
