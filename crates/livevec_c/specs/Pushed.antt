-- What many pushes or writes at once do and answer, for the object in a slot.
use Rattle.std.specs.Prelude.{◌≡◌, ℕ, ℤ, Bool, true, false, Option, Some, None, Result, Ok, Err, List, length}
use Rattle.lv_geometry.specs.Numbers.{number_of}
use Rattle.lv_geometry.specs.declared.refusals.Refusal.{Refusal}
use Rattle.lv_edits.specs.Kept.{IsLegalInLimits}
use Rattle.lv_edits.specs.Pushes.{AnswersAll}
use Rattle.lv_live.specs.State.{SameRefresh}
use Rattle.livevec_c.specs.declared.objects.Object.{Object}
use Rattle.livevec_c.specs.declared.objects.Object.TheVariants.{Vector}
use Rattle.livevec_c.specs.declared.writes.Many.{Many}
use Rattle.livevec_c.specs.Answers.{detail_of}
use Rattle.livevec_c.specs.Behind.{State}
use Rattle.livevec_c.specs.Written.{WritesObject, unwritten}

-- the answer to so many pushes: all of them are made, or none
abbrev pub pushed_by : ℕ → Result ℕ Refusal → Many
pushed_by many (Ok edit) = record { refusal = 0; detail = 0; edit = edit; done = many; place = 0 }
pushed_by many (Err refusal) = unwritten (number_of refusal) (detail_of refusal) 0

-- pushes of a vector: they are answered as the library answers them, and the summaries and claims stay
abbrev pub PushesVector : List ℤ → Many → State → State → Type 0
PushesVector xs answer old new =
    IsLegalInLimits new.history × SameRefresh old new
    × ((r : Result ℕ Refusal) × (answer ≡ pushed_by (length xs) r) × AnswersAll old.history xs r new.history)

-- pushes of an object, which is to be a vector
abbrev pub PushesObject : List ℤ → Many → Object → Object → Type 0
PushesObject xs answer (Vector old only) new = (state : State) × (new ≡ Vector state only) × PushesVector xs answer old state
PushesObject xs answer other new = (answer ≡ unwritten 101 0 0) × (new ≡ other)

-- pushes of an object, or writes
abbrev pub EditsAll : Bool → List ℕ → List ℤ → Many → Object → Object → Type 0
EditsAll true indices xs answer old new = PushesObject xs answer old new
EditsAll false indices xs answer old new = WritesObject indices xs answer old new

-- pushes or writes of the object in a slot
abbrev pub EditsAllBehind : Bool → List ℕ → List ℤ → Many → Option Object → Option Object → Type 0
EditsAllBehind pushes indices xs answer None new = (answer ≡ unwritten 101 0 0) × (new ≡ None)
EditsAllBehind pushes indices xs answer (Some old) new = (object : Object) × (new ≡ Some object) × EditsAll pushes indices xs answer old object
