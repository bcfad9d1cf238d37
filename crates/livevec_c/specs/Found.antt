-- What a search of a range of a vector finds, for C.
use Rattle.std.specs.Prelude.{◌≡◌, ℕ, ℤ, pos, ◌+◌, Bool, true, false, Option, Some, None, List, length}
use Rattle.lv_geometry.specs.Numbers.{number_of}
use Rattle.lv_geometry.specs.declared.refusals.Refusal.{Refusal}
use Rattle.lv_edits.specs.History.{list_of}
use Rattle.lv_edits.specs.Ranges.{range_refusal}
use Rattle.lv_tree.specs.Where.{IsEndReached, IsFirstIndex, IsLastIndex, IsPlaceOfBest, IsPlaceOfGreatest, IsPlaceOfLeast, IsStartReached}
use Rattle.lv_tree.specs.declared.places.Placed.{Placed}
use Rattle.lv_tree.specs.declared.places.Run.{Run}
use Rattle.livevec_c.specs.declared.objects.Object.{Object}
use Rattle.livevec_c.specs.declared.objects.Object.TheVariants.{Vector}
use Rattle.livevec_c.specs.declared.places_found.Found.{Found}
use Rattle.livevec_c.specs.declared.wanted.Wanted.{Wanted}
use Rattle.livevec_c.specs.declared.wanted.Wanted.TheVariants.{Least, Greatest, Best, Reaches, ReachesBack, First, Last}
use Rattle.livevec_c.specs.Answers.{detail_of, high_half, low_half}
use Rattle.livevec_c.specs.Behind.{State}
use Rattle.livevec_c.specs.Only.{is_asked_by}
use Rattle.livevec_c.specs.Wanted.{kind_sought}

-- a search that was refused
abbrev pub unfound : ℕ → ℕ → Found
unfound refusal detail = record { refusal = refusal; detail = detail; edit = 0; lo = 0; hi = 0; value = pos 0; sum_low = 0; sum_high = pos 0; found = false }

-- a search after an edit that found nothing
abbrev pub nowhere : ℕ → Found
nowhere edit = record { refusal = 0; detail = 0; edit = edit; lo = 0; hi = 0; value = pos 0; sum_low = 0; sum_high = pos 0; found = false }

-- what was found: an element, from its index up to the next one; a run, with its sum in two halves; the part of the range, from its start on, that
-- reaches a sum
abbrev pub placed_at : ℕ → Option Placed → Found
placed_at edit None = nowhere edit
placed_at edit (Some p) = record { refusal = 0; detail = 0; edit = edit; lo = p.index; hi = p.index + 1; value = p.value; sum_low = 0; sum_high = pos 0; found = true }

abbrev pub run_at : ℕ → Option Run → Found
run_at edit None = nowhere edit
run_at edit (Some r) = record { refusal = 0; detail = 0; edit = edit; lo = r.from; hi = r.to; value = pos 0; sum_low = low_half r.sum; sum_high = high_half r.sum; found = true }

abbrev pub part_at : ℕ → ℕ → ℕ → Found
part_at edit lo hi = record { refusal = 0; detail = 0; edit = edit; lo = lo; hi = hi; value = pos 0; sum_low = 0; sum_high = pos 0; found = true }

abbrev pub end_at : ℕ → ℕ → Option ℕ → Found
end_at edit lo None = nowhere edit
end_at edit lo (Some end) = part_at edit lo end

-- the part of the range, up to its end, that reaches a sum; an element within a bound, from its index up to the next one
abbrev pub start_at : ℕ → ℕ → Option ℕ → Found
start_at edit hi None = nowhere edit
start_at edit hi (Some start) = part_at edit start hi

abbrev pub index_at : ℕ → Option ℕ → Found
index_at edit None = nowhere edit
index_at edit (Some i) = part_at edit i (i + 1)

-- what is found in a range of a list after an edit
abbrev pub FindsIn : Wanted → List ℤ → ℕ → ℕ → ℕ → Found → Type 0
FindsIn Least xs lo hi edit answer = (place : Option Placed) × (answer ≡ placed_at edit place) × IsPlaceOfLeast xs lo hi place
FindsIn Greatest xs lo hi edit answer = (place : Option Placed) × (answer ≡ placed_at edit place) × IsPlaceOfGreatest xs lo hi place
FindsIn Best xs lo hi edit answer = (run : Option Run) × (answer ≡ run_at edit run) × IsPlaceOfBest xs lo hi run
FindsIn (Reaches sum) xs lo hi edit answer = (end : Option ℕ) × (answer ≡ end_at edit lo end) × IsEndReached xs lo hi sum end
FindsIn (ReachesBack sum) xs lo hi edit answer = (start : Option ℕ) × (answer ≡ start_at edit hi start) × IsStartReached xs lo hi sum start
FindsIn (First bound) xs lo hi edit answer = (index : Option ℕ) × (answer ≡ index_at edit index) × IsFirstIndex bound xs lo hi index
FindsIn (Last bound) xs lo hi edit answer = (index : Option ℕ) × (answer ≡ index_at edit index) × IsLastIndex bound xs lo hi index

-- what is found in a range of a vector, if the range is not refused
abbrev pub FindsUnless : Option Refusal → Wanted → ℕ → ℕ → Found → State → Type 0
FindsUnless None wanted lo hi answer state = FindsIn wanted (list_of state.history.journal) lo hi (length state.history.journal) answer
FindsUnless (Some refusal) wanted lo hi answer state = answer ≡ unfound (number_of refusal) (detail_of refusal)

abbrev pub FindsVector : Wanted → ℕ → ℕ → Found → State → Type 0
FindsVector wanted lo hi answer state = FindsUnless (range_refusal state.history.journal lo hi) wanted lo hi answer state

-- a search of a vector, if it may be asked by that kind
abbrev pub FindsAsked : Bool → Wanted → ℕ → ℕ → Found → State → Type 0
FindsAsked true wanted lo hi answer state = FindsVector wanted lo hi answer state
FindsAsked false wanted lo hi answer state = answer ≡ unfound 113 0

-- a search of an object, which is to be a vector
abbrev pub FindsObject : Wanted → ℕ → ℕ → Found → Object → Type 0
FindsObject wanted lo hi answer (Vector state only) = FindsAsked (is_asked_by only (Some (kind_sought wanted))) wanted lo hi answer state
FindsObject wanted lo hi answer other = answer ≡ unfound 101 0

-- a search of the object in a slot, if it is known what is looked for
abbrev pub Finds : Option Wanted → ℕ → ℕ → Found → Option Object → Type 0
Finds None lo hi answer slot = answer ≡ unfound 113 0
Finds (Some wanted) lo hi answer None = answer ≡ unfound 101 0
Finds (Some wanted) lo hi answer (Some object) = FindsObject wanted lo hi answer object
