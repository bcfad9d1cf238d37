-- What a query by one kind answers, for the object in a slot.
use Rattle.std.specs.Prelude.{◌≡◌, ℕ, Bool, true, false, Option, Some, None, length, nat_lt}
use Rattle.lv_geometry.specs.Numbers.{number_of}
use Rattle.lv_geometry.specs.declared.refusals.Refusal.{Refusal}
use Rattle.lv_bodies.specs.Automata.{table_of}
use Rattle.lv_bodies.specs.Plain.{plain_value_with}
use Rattle.lv_bodies.specs.declared.kinds.Kind.{Kind}
use Rattle.lv_bodies.specs.declared.kinds.Shown.{Shown}
use Rattle.lv_edits.specs.Ranges.{range_refusal, slice_of}
use Rattle.livevec_c.specs.declared.objects.Object.{Object}
use Rattle.livevec_c.specs.declared.objects.Object.TheVariants.{Vector}
use Rattle.livevec_c.specs.declared.results.Reduced.{Reduced}
use Rattle.livevec_c.specs.Answers.{detail_of, unreduced}
use Rattle.livevec_c.specs.Behind.{Six, State}
use Rattle.livevec_c.specs.Only.{is_asked_by}
use Rattle.livevec_c.specs.Seats.{values_for}

-- a value by one kind after an edit, and whether there is an element; or why there is none
abbrev pub valued : Option Refusal → ℕ → Bool → Shown → Reduced
valued None edit any value = record { refusal = 0; detail = 0; edit = edit; cells = 0; summaries = 0; values = values_for any value }
valued (Some refusal) edit any value = unreduced (number_of refusal) (detail_of refusal)

-- a value of a vector: the plain value of the elements of a range, by the vector's own table, after its last edit
abbrev pub value_of : Kind → ℕ → ℕ → State → Reduced
value_of kind lo hi state =
    valued (range_refusal state.history.journal lo hi) (length state.history.journal) (nat_lt lo hi) (plain_value_with (table_of state.body.automaton) kind (slice_of state.history.journal lo hi))

-- a query of a vector, if it may be asked by that kind
abbrev pub value_asked : Bool → Kind → ℕ → ℕ → State → Reduced
value_asked true kind lo hi state = value_of kind lo hi state
value_asked false kind lo hi state = unreduced 113 0

-- a query of an object, which is to be a vector
abbrev pub object_value : Kind → ℕ → ℕ → Object → Reduced
object_value kind lo hi (Vector state only) = value_asked (is_asked_by only (Some kind)) kind lo hi state
object_value kind lo hi other = unreduced 101 0

-- a query of the object in a slot, by a kind, if there is one
abbrev pub value_behind : Option Kind → ℕ → ℕ → Option Object → Reduced
value_behind None lo hi slot = unreduced 113 0
value_behind (Some kind) lo hi None = unreduced 101 0
value_behind (Some kind) lo hi (Some object) = object_value kind lo hi object

-- a query by all six kinds, each by its own tree or as the library reduces, or by one kind
abbrev pub ValuesBy : Bool → Bool → Option Kind → ℕ → ℕ → Reduced → Option Object → Type 0
ValuesBy true trees kind lo hi answer slot = Six trees lo hi answer slot
ValuesBy false trees kind lo hi answer slot = answer ≡ value_behind kind lo hi slot
