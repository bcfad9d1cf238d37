-- What a piece of a range of a series answers, and what it leaves in a buffer of the caller's, for the series in a slot.
use Rattle.std.specs.Prelude.{ℕ, ℤ, ◌+◌, ◌-◌, ◌++◌, Bool, Option, Some, None, List, [], ◌∷◌, slice_get, unwrap_or, length, drop, map, min, if◌then◌else◌}
use Rattle.std.specs.List.{range_with_len}
use Rattle.lv_series.specs.Series.{range_refused, slice_of}
use Rattle.lv_series.specs.declared.refusals.LongRefusal.{LongRefusal}
use Rattle.livevec_c.specs.declared.series_results.SeriesScanned.{SeriesScanned}
use Rattle.livevec_c.specs.SeriesAnswers.{long_scanned, unheld, unscanned_by}
use Rattle.livevec_c.specs.SeriesHeld.{Long}
use Rattle.livevec_c.specs.SeriesValued.{unkind}

-- what a buffer has after a call: if it was not refused, so many that were put there, and after them what it had; else what it had
abbrev pub put_there : {C : Type 0} → Option LongRefusal → ℕ → List C → List C → List C
put_there None many put old = put ++ drop many old
put_there (Some refusal) many put old = old

-- the elements of a range from its start on, as many as a buffer takes
abbrev pub elements_read : ℕ → ℕ → ℕ → Long → SeriesScanned
elements_read lo hi places s = long_scanned (range_refused s.held lo hi) s.edits (min places (hi - lo))

abbrev pub elements_put : ℕ → ℕ → List ℤ → Long → List ℤ
elements_put lo hi old s = put_there (range_refused s.held lo hi) (min (length old) (hi - lo)) (slice_of s.held lo (lo + min (length old) (hi - lo))) old

-- why a scan of a range that goes on from an index is refused: not all elements from the range's start up to the index are kept, or not all after
-- it
abbrev pub or_else : Option LongRefusal → Option LongRefusal → Option LongRefusal
or_else (Some refusal) other = Some refusal
or_else None other = other

abbrev pub piece_refused : ℕ → ℕ → ℕ → Long → Option LongRefusal
piece_refused lo at hi s = or_else (range_refused s.held lo at) (range_refused s.held at hi)

-- the cell of the elements from a range's start on, up to so many after an index, the one there included, or excluded
abbrev pub cell_up_to : {C : Type 0} → (List (List ℕ) → List ℤ → C) → Bool → ℕ → ℕ → Long → ℕ → C
cell_up_to cell inclusive lo at s i = cell s.table (slice_of s.held lo (if inclusive then at + i + 1 else at + i))

-- a scan of a range, from an index on, as many cells as a buffer takes
abbrev pub piece_scanned : ℕ → ℕ → ℕ → ℕ → Long → SeriesScanned
piece_scanned lo at hi places s = long_scanned (piece_refused lo at hi s) s.edits (min places (hi - at))

abbrev pub piece_put : {C : Type 0} → (List (List ℕ) → List ℤ → C) → Bool → ℕ → ℕ → ℕ → List C → Long → List C
piece_put cell inclusive lo at hi old s = put_there (piece_refused lo at hi s) (min (length old) (hi - at)) (map (cell_up_to cell inclusive lo at s) (range_with_len 0 (min (length old) (hi - at)))) old

-- a read or a scan, if there is a series
abbrev pub read_in : ℕ → ℕ → ℕ → Option Long → SeriesScanned
read_in lo hi places None = unscanned_by unheld
read_in lo hi places (Some s) = elements_read lo hi places s

abbrev pub put_in : ℕ → ℕ → List ℤ → Option Long → List ℤ
put_in lo hi old None = old
put_in lo hi old (Some s) = elements_put lo hi old s

abbrev pub scanned_in : ℕ → ℕ → ℕ → ℕ → Option Long → SeriesScanned
scanned_in lo at hi places None = unscanned_by unheld
scanned_in lo at hi places (Some s) = piece_scanned lo at hi places s

abbrev pub column_in : {C : Type 0} → (List (List ℕ) → List ℤ → C) → Bool → ℕ → ℕ → ℕ → List C → Option Long → List C
column_in cell inclusive lo at hi old None = old
column_in cell inclusive lo at hi old (Some s) = piece_put cell inclusive lo at hi old s

-- a scan by the kind that a number names, or by all six (6), into the column that fits, which has so many places
abbrev pub scanned_by : ℕ → ℕ → ℕ → ℕ → ℕ → ℕ → ℕ → ℕ → ℕ → ℕ → Option Long → SeriesScanned
scanned_by number lo at hi sums extremes totals maps states values held =
    unwrap_or (slice_get (
    scanned_in lo at hi sums held
    ∷ scanned_in lo at hi extremes held
    ∷ scanned_in lo at hi extremes held
    ∷ scanned_in lo at hi totals held
    ∷ scanned_in lo at hi maps held
    ∷ scanned_in lo at hi states held
    ∷ scanned_in lo at hi values held
    ∷ []
    ) number) (unscanned_by unkind)
