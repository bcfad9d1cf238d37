-- What a loan of a series' elements leaves in the caller's slice.
use Rattle.std.specs.Prelude.{ℕ, ℤ, Option, Some, None, List}
use Rattle.lv_series.specs.Series.{range_refused, slice_of}
use Rattle.lv_series.specs.declared.refusals.LongRefusal.{LongRefusal}
use Rattle.livevec_c.specs.SeriesHeld.{Long}

-- the elements that were lent; or, if the loan was refused, what the slice was
abbrev pub lent_where : Option LongRefusal → List ℤ → List ℤ → List ℤ
lent_where None elements old = elements
lent_where (Some refusal) elements old = old

abbrev pub lent_of : ℕ → ℕ → List ℤ → Long → List ℤ
lent_of lo hi old s = lent_where (range_refused s.held lo hi) (slice_of s.held lo hi) old

abbrev pub lent_in : ℕ → ℕ → List ℤ → Option Long → List ℤ
lent_in lo hi old None = old
lent_in lo hi old (Some s) = lent_of lo hi old s
