-- What a scan by one kind, or by all six, answers, and what it leaves in a column of the caller's, for the object in a slot.
use Rattle.std.specs.Prelude.{ℕ, ℤ, ◌+◌, ◌-◌, ◌^◌, ◌≤◌, ◌++◌, Bool, true, false, Option, Some, None, List, [], ◌∷◌, length, drop, nat_lt, slice_get, unwrap_or}
use Rattle.lv_geometry.specs.Numbers.{number_of}
use Rattle.lv_geometry.specs.declared.refusals.Refusal.{Refusal}
use Rattle.lv_bodies.specs.Automata.{table_of}
use Rattle.lv_bodies.specs.declared.kinds.Kind.{Kind}
use Rattle.lv_bodies.specs.declared.kinds.Kind.TheVariants as kinds
use Rattle.lv_edits.specs.Ranges.{range_refusal, slice_of}
use Rattle.livevec_c.specs.declared.columns.Scanned.{Scanned}
use Rattle.livevec_c.specs.declared.objects.Object.{Object}
use Rattle.livevec_c.specs.declared.objects.Object.TheVariants.{Vector}
use Rattle.livevec_c.specs.Answers.{detail_of}
use Rattle.livevec_c.specs.Behind.{State}
use Rattle.livevec_c.specs.Cells.{column_of}
use Rattle.livevec_c.specs.Only.{is_asked_by}

-- a summary may take so many elements more: it is within a number of elements that is at most 2 ^ 62 with them
pub record CanGoOnLong {S : Type 0} (within : S → ℕ → Type 0) (s : S) (more : ℕ) : Type 0 where
  pub count : ℕ
  pub count_within : within s count
  pub few : count + more ≤ 2 ^ 62

-- a scan that was refused
abbrev pub unscanned : ℕ → ℕ → Scanned
unscanned refusal detail = record { refusal = refusal; detail = detail; edit = 0; length = 0 }

-- what a scan answers, by why its range is refused, if it is, and whether the column is shorter: the last edit's number, and how many cells it wrote
abbrev pub scan_answered : Option Refusal → Bool → ℕ → ℕ → Scanned
scan_answered (Some refusal) short edit many = unscanned (number_of refusal) (detail_of refusal)
scan_answered None true edit many = unscanned 103 many
scan_answered None false edit many = record { refusal = 0; detail = 0; edit = edit; length = many }

-- the column then: the cells from its start on, and after them what it had; or the column as it was, if the scan was refused
abbrev pub column_after : {C : Type 0} → Option Refusal → Bool → List C → List C → List C
column_after (Some refusal) short cells old = old
column_after None true cells old = old
column_after None false cells old = cells ++ drop (length cells) old

-- a scan of a vector, into a column of so many places
abbrev pub scanned : ℕ → ℕ → ℕ → State → Scanned
scanned lo hi places state = scan_answered (range_refusal state.history.journal lo hi) (nat_lt places (hi - lo)) (length state.history.journal) (hi - lo)

abbrev pub filled : {C : Type 0} → (List (List ℕ) → List ℤ → C) → Bool → ℕ → ℕ → List C → State → List C
filled cell inclusive lo hi old state =
    column_after (range_refusal state.history.journal lo hi) (nat_lt (length old) (hi - lo)) (column_of (cell (table_of state.body.automaton)) inclusive (slice_of state.history.journal lo hi)) old

-- a scan of a vector, if it may be asked by the scan's kind, or by all six
abbrev pub scanned_asked : Bool → ℕ → ℕ → ℕ → State → Scanned
scanned_asked true lo hi places state = scanned lo hi places state
scanned_asked false lo hi places state = unscanned 113 0

abbrev pub filled_asked : {C : Type 0} → Bool → (List (List ℕ) → List ℤ → C) → Bool → ℕ → ℕ → List C → State → List C
filled_asked true cell inclusive lo hi old state = filled cell inclusive lo hi old state
filled_asked false cell inclusive lo hi old state = old

-- a scan of an object, which is to be a vector
abbrev pub object_scanned : Option Kind → ℕ → ℕ → ℕ → Object → Scanned
object_scanned asked lo hi places (Vector state only) = scanned_asked (is_asked_by only asked) lo hi places state
object_scanned asked lo hi places other = unscanned 101 0

abbrev pub object_filled : {C : Type 0} → Option Kind → (List (List ℕ) → List ℤ → C) → Bool → ℕ → ℕ → List C → Object → List C
object_filled asked cell inclusive lo hi old (Vector state only) = filled_asked (is_asked_by only asked) cell inclusive lo hi old state
object_filled asked cell inclusive lo hi old other = old

-- a scan of the object in a slot
abbrev pub scanned_behind : Option Kind → ℕ → ℕ → ℕ → Option Object → Scanned
scanned_behind asked lo hi places None = unscanned 101 0
scanned_behind asked lo hi places (Some object) = object_scanned asked lo hi places object

abbrev pub filled_behind : {C : Type 0} → Option Kind → (List (List ℕ) → List ℤ → C) → Bool → ℕ → ℕ → List C → Option Object → List C
filled_behind asked cell inclusive lo hi old None = old
filled_behind asked cell inclusive lo hi old (Some object) = object_filled asked cell inclusive lo hi old object

-- a scan by the kind that a number names, or by all six (6), into the column that fits, which has so many places
abbrev pub scanned_by : ℕ → ℕ → ℕ → ℕ → ℕ → ℕ → ℕ → ℕ → ℕ → Option Object → Scanned
scanned_by number lo hi sums extremes totals maps states values slot =
    unwrap_or (slice_get (
    scanned_behind (Some kinds.Sum) lo hi sums slot
    ∷ scanned_behind (Some kinds.Least) lo hi extremes slot
    ∷ scanned_behind (Some kinds.Greatest) lo hi extremes slot
    ∷ scanned_behind (Some kinds.Best) lo hi totals slot
    ∷ scanned_behind (Some kinds.Affine) lo hi maps slot
    ∷ scanned_behind (Some kinds.Automaton) lo hi states slot
    ∷ scanned_behind None lo hi values slot
    ∷ []
    ) number) (unscanned 113 0)
