-- What is read from bytes.
use Rattle.std.specs.Prelude.{◌≡◌, ℕ, ℤ, pos, ◌+◌, ◌^◌, ◌<◌, ◌≤◌, Bool, is_some, if◌then◌else◌, List, length}
use Rattle.std.specs.Int.{w64, cast_signed}
use Rattle.std.specs.List.{slice_index_or}
use Rattle.lv_bodies.specs.Automata.{table_of}
use Rattle.lv_series.specs.Samples.{IsRising}
use Rattle.lv_saved.specs.Saved.{IsSaved, Saved, bytes_of, head_by, numbers_by}
use Rattle.lv_saved.specs.declared.reading.Reading.{Reading}
use Rattle.lv_shards.specs.Bytes.{number_in, sealed_by, spelled}

-- elements that are the numbers from a place on
pub record AreElementsAt (bytes : List ℕ) (from count : ℕ) (elements : List ℤ) : Type 0 where
  pub many : length elements ≡ count
  pub each : (k : ℕ) → k < count → slice_index_or elements k (pos 0) ≡ cast_signed w64 (number_in bytes (from + k))

-- bytes are exactly those of what was read
abbrev pub IsReading : List ℕ → Bool → Reading → Type 0
IsReading bytes timed r = bytes ≡ sealed_by (spelled (numbers_by (head_by (table_of r.front.automaton) (if timed then 2 else 1) r.front.first r.front.edits r.front.elements) r.elements.items r.times.items))

-- what was read can be a series again, or samples
pub record IsWhole (timed : Bool) (r : Reading) : Type 0 where
  pub elements : length r.elements.items ≡ r.front.elements
  pub times : length r.times.items ≡ (if timed then r.front.elements else 0)
  pub rising : IsRising r.times.items
  pub numbered : r.front.first + r.front.elements ≤ 2 ^ 62

-- nothing that may be saved has these bytes: no samples, or no series
abbrev pub IsNoneSaved : List ℕ → Bool → Type 0
IsNoneSaved bytes timed = (s : Saved) → IsSaved s → is_some s.times ≡ timed → bytes_of s ≡ bytes → ⊥
