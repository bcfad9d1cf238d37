-- Positions in a range of a series, and what a search for one answers. Indices are those under which the series keeps its elements, and the end
-- of a range is excluded.
use Rattle.std.specs.Prelude.{◌≡◌, ℕ, ℤ, ◌+◌, ◌-◌, ◌≤◌, Bool, true, false, Option, Some, None, Result, Ok, Err, List}
use Rattle.lv_bodies.specs.declared.kinds.Kind.{Kind}
use Rattle.lv_tree.specs.Searches.{FindsEnd, FindsStart}
use Rattle.lv_tree.specs.Where.{IsBestRun, IsEndReached, IsFirstGreatest, IsFirstIndex, IsFirstLeast, IsLastIndex, IsStartReached}
use Rattle.lv_tree.specs.declared.places.Bound.{Bound}
use Rattle.lv_tree.specs.declared.sought.Sought.{Sought}
use Rattle.lv_series.specs.declared.places.LongPlaced.{LongPlaced}
use Rattle.lv_series.specs.declared.places.LongRun.{LongRun}
use Rattle.lv_series.specs.declared.refusals.LongRefusal.{LongRefusal}
use Rattle.lv_series.specs.Series.{Held, RefusesAsked, SeriesState, keeps_kind, range_refused, with_kind}

-- a statement about a place in the list of the kept elements, counted from the first of them, made about an index, or about none
abbrev pub IsAtIndex : Held → (Option ℕ → Type 0) → Option ℕ → Type 0
IsAtIndex h is_place None = is_place None
IsAtIndex h is_place (Some i) = (h.first ≤ i) × is_place (Some (i - h.first))

-- the first, or the last, index of a range whose element is within a bound; none if no element of the range is
abbrev pub IsFirstIndexIn : Bound → Held → ℕ → ℕ → Option ℕ → Type 0
IsFirstIndexIn bound h lo hi index = IsAtIndex h (IsFirstIndex bound h.elements (lo - h.first) (hi - h.first)) index

abbrev pub IsLastIndexIn : Bound → Held → ℕ → ℕ → Option ℕ → Type 0
IsLastIndexIn bound h lo hi index = IsAtIndex h (IsLastIndex bound h.elements (lo - h.first) (hi - h.first)) index

-- the least end up to which the elements from lo on add up to a sum at least, or the greatest start from which on those up to hi do; none if
-- there is no such end, or start
abbrev pub IsEndReachedIn : ℤ → Held → ℕ → ℕ → Option ℕ → Type 0
IsEndReachedIn sum h lo hi end = IsAtIndex h (IsEndReached h.elements (lo - h.first) (hi - h.first) sum) end

abbrev pub IsStartReachedIn : ℤ → Held → ℕ → ℕ → Option ℕ → Type 0
IsStartReachedIn sum h lo hi start = IsAtIndex h (IsStartReached h.elements (lo - h.first) (hi - h.first) sum) start

-- the position of the first least element, of the first greatest one and of the best run of a range, or none if the range is empty
abbrev pub IsPlaceOfLeastIn : Held → ℕ → ℕ → Option LongPlaced → Type 0
IsPlaceOfLeastIn h lo hi None = lo ≡ hi
IsPlaceOfLeastIn h lo hi (Some p) = (h.first ≤ p.index) × IsFirstLeast h.elements (lo - h.first) (hi - h.first) (p.index - h.first) p.value

abbrev pub IsPlaceOfGreatestIn : Held → ℕ → ℕ → Option LongPlaced → Type 0
IsPlaceOfGreatestIn h lo hi None = lo ≡ hi
IsPlaceOfGreatestIn h lo hi (Some p) = (h.first ≤ p.index) × IsFirstGreatest h.elements (lo - h.first) (hi - h.first) (p.index - h.first) p.value

abbrev pub IsPlaceOfBestIn : Held → ℕ → ℕ → Option LongRun → Type 0
IsPlaceOfBestIn h lo hi None = lo ≡ hi
IsPlaceOfBestIn h lo hi (Some r) = (h.first ≤ r.from) × IsBestRun h.elements (lo - h.first) (hi - h.first) (r.from - h.first) (r.to - h.first) r.sum

-- the end at which a range comes to have what is sought, or the start, if it is looked for from the end back; none if the whole range has nothing
-- of that
abbrev pub Finds : Bool → Sought → List ℤ → ℕ → ℕ → Option ℕ → Type 0
Finds false sought xs lo hi place = FindsEnd sought xs lo hi place
Finds true sought xs lo hi place = FindsStart sought xs lo hi place

abbrev pub FindsIn : Bool → Sought → Held → ℕ → ℕ → Option ℕ → Type 0
FindsIn back sought h lo hi place = IsAtIndex h (Finds back sought h.elements (lo - h.first) (hi - h.first)) place

-- the end behind an element that was found
abbrev pub end_of : Option LongPlaced → Option ℕ
end_of None = None
end_of (Some p) = Some (p.index + 1)

-- a range can be searched by a kind: nothing refuses it, and the kind has a tree
pub record IsSearchable (s : SeriesState) (k : Kind) (lo hi : ℕ) : Type 0 where
  pub granted : range_refused s.held lo hi ≡ None
  pub kept : keeps_kind s.kinds k ≡ true

-- what a search by a kind answers, which makes the kind's tree first: nothing refuses the range, and the answer is one of its elements at the
-- last edit; or it was refused, and nothing has changed
abbrev pub Searches : {T : Type 0} → (Held → ℕ → ℕ → T → Type 0) → SeriesState → Kind → ℕ → ℕ → Result T LongRefusal → SeriesState → Type 0
Searches is_answer old k lo hi (Ok answer) new = (range_refused old.held lo hi ≡ None) × is_answer old.held lo hi answer × (new ≡ record old { kinds = with_kind k old.kinds })
Searches is_answer old k lo hi (Err refusal) new = RefusesAsked old k lo hi refusal new
