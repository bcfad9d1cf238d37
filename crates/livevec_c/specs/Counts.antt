-- The count that a number names, of the object of a sort in a slot.
use Rattle.std.specs.Prelude.{ℕ, Option, Some, None, List, [], ◌∷◌, length, slice_get, if◌then◌else◌, nat_eq}
use Rattle.lv_edits.specs.Capacity.{capacity_after}
use Rattle.lv_edits.specs.History.{list_of}
use Rattle.lv_saved.specs.Saved.{bytes_of, saved_samples, saved_series}
use Rattle.lv_series.specs.Series.{size_of}
use Rattle.livevec_c.specs.declared.counts.LongCount.{LongCount}
use Rattle.livevec_c.specs.declared.objects.Object.{Object}
use Rattle.livevec_c.specs.declared.objects.Object.TheVariants.{Vector, Closed, Series, Samples}
use Rattle.livevec_c.specs.Behind.{State}
use Rattle.livevec_c.specs.Frees.{sort_of}
use Rattle.livevec_c.specs.SeriesHeld.{Long}

-- the counts of a vector: its elements, those that fit into its memory, and its edits
abbrev pub vector_counts : State → List ℕ
vector_counts state = length (list_of state.history.journal) ∷ capacity_after state.history.journal ∷ length state.history.journal ∷ []

-- the counts of a series: the first index that is kept, the one after the last, its edits, and the bytes that it is saved as
abbrev pub series_counts : Long → ℕ → List ℕ
series_counts s saved = s.held.first ∷ size_of s.held ∷ s.edits ∷ saved ∷ []

-- the counts of an object: samples have those of a series, and a board that is closed has its elements
abbrev pub counts_of : Object → List ℕ
counts_of (Vector state only) = vector_counts state
counts_of (Series s) = series_counts s (length (bytes_of (saved_series s)))
counts_of (Samples s) = series_counts s.series (length (bytes_of (saved_samples s)))
counts_of (Closed ended) = length ended.closed.elements ∷ []
counts_of other = []

-- the count of a number, if the object is of this sort and has one
abbrev pub count_of : ℕ → ℕ → Object → Option ℕ
count_of sort what object = if nat_eq (sort_of object) sort then slice_get (counts_of object) what else None

-- the answer for a count, or for none
abbrev pub counted : Option ℕ → LongCount
counted None = record { refusal = 101; value = 0 }
counted (Some value) = record { refusal = 0; value = value }

-- the count of the object in a slot
abbrev pub count_behind : ℕ → ℕ → Option Object → LongCount
count_behind sort what None = counted None
count_behind sort what (Some object) = counted (count_of sort what object)
