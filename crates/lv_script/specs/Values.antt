-- Values and positions that the code of a series' script asks of a series. They do not depend on which trees the series has.
use Rattle.std.specs.Prelude.{◌≡◌, ℕ, Some, None, Result, Ok, Err}
use Rattle.lv_bodies.specs.Plain.{plain_value}
use Rattle.lv_bodies.specs.declared.kinds.Kind.{Kind}
use Rattle.lv_bodies.specs.declared.kinds.Shown.{Shown}
use Rattle.lv_series.specs.Plain.{no_kinds}
use Rattle.lv_series.specs.Series.{Held, IsRefusal, SeriesState, range_refused, slice_of}
use Rattle.lv_series.specs.declared.refusals.LongRefusal.{LongRefusal}

-- a series as if no kind had a tree: trees change no answer
abbrev pub without_trees : SeriesState → SeriesState
without_trees s = record s { kinds = no_kinds }

-- the plain value of a kind over a range, or the error for the range
abbrev pub ShowsValue : Held → Kind → ℕ → ℕ → Result Shown LongRefusal → Type 0
ShowsValue h kind lo hi (Ok value) = (range_refused h lo hi ≡ None) × (value ≡ plain_value kind (slice_of h lo hi))
ShowsValue h kind lo hi (Err refusal) = range_refused h lo hi ≡ Some refusal

-- the result of a search: what the elements of the range determine; or the error for the range, or that there is no memory for a tree. Only trees
-- have changed
abbrev pub Seeks : {T : Type 0} → (Held → ℕ → ℕ → T) → SeriesState → ℕ → ℕ → Result T LongRefusal → SeriesState → Type 0
Seeks plain old lo hi (Ok answer) new = (range_refused old.held lo hi ≡ None) × (answer ≡ plain old.held lo hi) × (without_trees new ≡ without_trees old)
Seeks plain old lo hi (Err refusal) new = IsRefusal (range_refused old.held lo hi) refusal × (without_trees new ≡ without_trees old)
