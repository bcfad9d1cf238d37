-- What standing queries are asked of, and the answers: a vector or a series counts as samples without times, and trees change nothing.
use Rattle.std.specs.Prelude.{ℕ, ℤ, Bool, true, false, ◌&&◌, ◌||◌, not, Option, Some, None, [], ◌∷◌, length, nat_lt, slice_get}
use Rattle.lv_bodies.specs.Automata.{table_of}
use Rattle.lv_bodies.specs.declared.kinds.Kind.{Kind}
use Rattle.lv_edits.specs.History.{list_of}
use Rattle.lv_series.specs.Plain.{no_kinds}
use Rattle.lv_series.specs.Samples.{SamplesState}
use Rattle.lv_standing.specs.declared.spans.Span.TheVariants.{Between, Last}
use Rattle.lv_tree.specs.declared.places.Bound.{Bound}
use Rattle.lv_tree.specs.declared.places.Bound.TheVariants.{AtLeast, AtMost}
use Rattle.lv_script.specs.SampleQueries.{values_of}
use Rattle.lv_script.specs.Values.{without_trees}
use Rattle.lv_script.specs.declared.sample_queries.SampleQuery.{SampleQuery}
use Rattle.lv_script.specs.declared.sample_queries.SampleSpan.{SampleSpan}
use Rattle.lv_script.specs.declared.sample_queries.SampleSpan.TheVariants.{Among, Within}
use Rattle.livevec_c.specs.declared.objects.Object.{Object}
use Rattle.livevec_c.specs.declared.objects.Object.TheVariants.{Series, Samples}
use Rattle.livevec_c.specs.Behind.{State}
use Rattle.livevec_c.specs.Only.{is_asked_by}
use Rattle.livevec_c.specs.SeriesHeld.{Long}

-- ---- what is asked

abbrev pub seen_series : Long → SamplesState
seen_series s = record { series = without_trees s; times = [] }

abbrev pub seen_samples : SamplesState → SamplesState
seen_samples s = record { series = without_trees s.series; times = s.times }

abbrev pub seen_vector : State → SamplesState
seen_vector v =
    seen_series (record { table = table_of v.body.automaton; kinds = no_kinds; held = record { first = 0; elements = list_of v.history.journal }; edits = length v.history.journal })

-- an object as if no kind had a tree
abbrev pub bare : Object → Object
bare (Series s) = Series (without_trees s)
bare (Samples s) = Samples (seen_samples s)
bare other = other

-- ---- what a number asks for

-- which elements a number names: a range, the last so many, or those of the last so much time
abbrev pub span_at : ℕ → ℕ → ℕ → Option SampleSpan
span_at number lo hi = slice_get (Among (Between lo hi) ∷ Among (Last lo) ∷ Within lo ∷ []) number

-- when a note is due: at each change, or as the answer begins or ends to be at least, or at most, so much
abbrev pub bound_at : ℕ → ℤ → Option (Option Bound)
bound_at number x = slice_get (None ∷ Some (AtLeast x) ∷ Some (AtMost x) ∷ []) number

-- ---- what may be asked, and is answered

abbrev pub is_timed : SampleSpan → Bool
is_timed (Among span) = false
is_timed (Within time) = true

-- a query may be asked by its kind, if the target is of that one or of all six; and a query of a window of time only if the target has times
abbrev pub is_asked : Option Kind → Bool → SampleQuery → Bool
is_asked only timed q = is_asked_by only (Some q.kind) && (timed || not (is_timed q.span))

-- whether a span has an element
abbrev pub has_some : SamplesState → SampleSpan → Bool
has_some s span = nat_lt 0 (length (values_of s span))
