-- A series, or samples, as bytes: numbers of eight bytes each, the lowest first, and a checksum of these bytes.
use Rattle.std.specs.Prelude.{◌≡◌, ℕ, ℤ, ◌+◌, ◌-◌, ◌*◌, ◌/◌, ◌^◌, ◌<◌, ◌≤◌, IsTrue, Option, None, Some, IfSome, is_some, unwrap_or, List, [], ◌∷◌, ◌++◌, length, map, min, drop, All, if◌then◌else◌}
use Rattle.std.specs.Int.{w64, cast_unsigned}
use Rattle.std.specs.List.{slice_range}
use Rattle.lv_geometry.specs.Elements.{IsElement}
use Rattle.lv_bodies.specs.Tables.{is_table}
use Rattle.lv_series.specs.Plain.{SeriesState}
use Rattle.lv_series.specs.Samples.{IsRising, SamplesState}
use Rattle.lv_shards.specs.Bytes.{checksum_of, sealed_by, spelled, states_at}
use Rattle.lv_shards.specs.Summaries.{leads_of}

-- what is saved: the automaton's table, the index of the first element, how many edits there were, the elements, and of samples their times
pub record Saved : Type 0 where
  pub table : List (List ℕ)
  pub first : ℕ
  pub edits : ℕ
  pub elements : List ℤ
  pub times : Option (List ℤ)

-- what is saved of a series, and of samples
abbrev pub saved_series : SeriesState → Saved
saved_series s = record { table = s.table; first = s.held.first; edits = s.edits; elements = s.held.elements; times = None }

abbrev pub saved_samples : SamplesState → Saved
saved_samples s = record (saved_series s.series) { times = Some s.times }

-- the first number: the bytes of `livevec:`
abbrev pub first_number : ℕ
first_number = 4207318036076980588

-- the third number: 1 of a series, and 2 of samples
abbrev pub form_of : Saved → ℕ
form_of s = if is_some s.times then 2 else 1

-- the numbers before the elements: the first one, the version of the layout, the form, the index of the first element,
-- the number of edits, the number of elements, and for each remainder by 4 the states to which the automaton leads
abbrev pub head_by : List (List ℕ) → ℕ → ℕ → ℕ → ℕ → List ℕ
head_by table form first edits count =
    first_number ∷ 1 ∷ form ∷ first ∷ edits ∷ count
    ∷ states_at (leads_of table) 0 ∷ states_at (leads_of table) 1 ∷ states_at (leads_of table) 2 ∷ states_at (leads_of table) 3 ∷ []

abbrev pub head_of : Saved → List ℕ
head_of s = head_by s.table (form_of s) s.first s.edits (length s.elements)

-- all numbers: a head, elements, and times, each of these in two's complement
abbrev pub numbers_by : List ℕ → List ℤ → List ℤ → List ℕ
numbers_by head elements times = head ++ (map (cast_unsigned w64) elements ++ map (cast_unsigned w64) times)

-- all numbers of what is saved
abbrev pub numbers_of : Saved → List ℕ
numbers_of s = numbers_by (head_of s) s.elements (unwrap_or s.times [])

-- all bytes of what is saved
abbrev pub bytes_of : Saved → List ℕ
bytes_of s = sealed_by (spelled (numbers_of s))

-- numbers, and then the checksum of their bytes
abbrev pub with_checksum : List ℕ → List ℕ
with_checksum numbers = numbers ++ checksum_of (spelled numbers) ∷ []

-- what may be saved: what a series may be, and samples. A table has eight rows of four states
pub record IsSaved (s : Saved) : Type 0 where
  pub table : IsTrue (is_table s.table)
  pub rows : All (λ row. length row ≡ 4) s.table
  pub numbered : s.first + length s.elements ≤ 2 ^ 62
  pub edits : s.edits < 2 ^ 64
  pub elements : All IsElement s.elements
  pub paired : IfSome s.times (λ times. length times ≡ length s.elements)
  pub rising : IfSome s.times IsRising
  pub times : IfSome s.times (All IsElement)

-- a piece of some bytes: those from a place on, as many as a buffer of whole numbers takes, and the rest of the buffer as it was
pub record IsPiece (bytes : List ℕ) (from : ℕ) (old : List ℕ) (count : ℕ) (new : List ℕ) : Type 0 where
  pub count_is : count ≡ min (8 * (length old / 8)) (length bytes - from)
  pub piece : new ≡ slice_range bytes from (from + count) ++ drop count old
