-- What the calls of a seat do and answer, for the object in its slot.
use Rattle.std.specs.Prelude.{◌≡◌, ℕ, pos, Bool, Option, Some, None, Err, unwrap_or}
use Rattle.lv_geometry.specs.Numbers.{number_of}
use Rattle.lv_bodies.specs.declared.kinds.Shown.{Shown}
use Rattle.lv_bodies.specs.declared.kinds.Shown.TheVariants as shown
use Rattle.lv_machine.specs.declared.events.Call.{Call}
use Rattle.lv_machine.specs.declared.outcomes.Said.{Said}
use Rattle.lv_machine.specs.declared.outcomes.Said.TheVariants as said
use Rattle.lv_board.specs.Sharing.{Makes}
use Rattle.livevec_c.specs.declared.kind_seats.KindSeat.{KindSeat}
use Rattle.livevec_c.specs.declared.objects.Object.{Object}
use Rattle.livevec_c.specs.declared.objects.Object.TheVariants.{Seat}
use Rattle.livevec_c.specs.declared.results.Edited.{Edited}
use Rattle.livevec_c.specs.declared.values.PlainValues.{PlainValues}
use Rattle.livevec_c.specs.declared.results.Reduced.{Reduced}
use Rattle.livevec_c.specs.Answers.{detail_of, edited_by, high_half, low_half, received, unedited, unreduced, valueless, word_of}
use Rattle.livevec_c.specs.Kinds.{sat_at}

-- ---- the library's answer to a call, for C, and the answer if a slot holds no seat

-- the answer to a call: an edit's receipt; or the number of the last edit, with the element that was read, with how many elements there are, or
-- with the last edit that touched the block that was refreshed
abbrev pub told_for : Option (Said Shown) → Edited
told_for (Some (said.Did receipt)) = received receipt
told_for (Some (said.Read read)) = record { refusal = 0; detail = 0; edit = read.edit; place = 0; value = read.value }
told_for (Some (said.Sized sized)) = record { refusal = 0; detail = 0; edit = sized.edit; place = sized.size; value = pos 0 }
told_for (Some (said.Refreshed refreshed)) = record { refusal = 0; detail = 0; edit = refreshed.edit; place = refreshed.version; value = pos 0 }
told_for (Some (said.Refused refusal)) = edited_by (Err refusal)
told_for _ = unedited

-- the value of a kind among the plain values, and whether there is an element
abbrev pub values_for : Bool → Shown → PlainValues
values_for any (shown.Sum s) = record valueless { sum = s; any = word_of any }
values_for any (shown.Least x) = record valueless { least = unwrap_or x (pos 0); any = word_of any }
values_for any (shown.Greatest x) = record valueless { greatest = unwrap_or x (pos 0); any = word_of any }
values_for any (shown.Best x) = record valueless { best_low = low_half (unwrap_or x (pos 0)); best_high = high_half (unwrap_or x (pos 0)); any = word_of any }
values_for any (shown.Affine a b) = record valueless { affine_a = a; affine_b = b; any = word_of any }
values_for any (shown.Automaton states) = record valueless { automaton = states; any = word_of any }

abbrev pub reduced_for : Bool → Option (Said Shown) → Reduced
reduced_for any (Some (said.Answered answer)) = record { refusal = 0; detail = 0; edit = answer.edit; cells = answer.cells_read; summaries = answer.summaries_read; values = values_for any answer.value }
reduced_for any (Some (said.Refused refusal)) = unreduced (number_of refusal) (detail_of refusal)
reduced_for any _ = unreduced 101 0

-- ---- what a call does

-- a call of a seat is made as the library makes it; nothing has changed but what the seat knows
abbrev pub CallsSeat : ℕ → Call → Option (Said Shown) → KindSeat → KindSeat → Type 0
CallsSeat tries asked end old new = (said : Said Shown) × (end ≡ Some said) × Makes tries asked (sat_at old) said (sat_at new)

-- a call of an object: of a seat only
abbrev pub CallsObject : ℕ → Call → Option (Said Shown) → Object → Object → Type 0
CallsObject tries asked end (Seat old) new = (seat : KindSeat) × (new ≡ Seat seat) × CallsSeat tries asked end old seat
CallsObject tries asked end other new = (end ≡ None) × (new ≡ other)

-- a call of the object in a slot
abbrev pub Calls : ℕ → Call → Option (Said Shown) → Option Object → Option Object → Type 0
Calls tries asked end None new = (end ≡ None) × (new ≡ None)
Calls tries asked end (Some old) new = (object : Object) × (new ≡ Some object) × CallsObject tries asked end old object

-- a call of the object in a slot, and its answer for C
abbrev pub Answers : {A : Type 0} → (Option (Said Shown) → A) → ℕ → Call → A → Option Object → Option Object → Type 0
Answers answer_for tries asked answer old new = (end : Option (Said Shown)) × (answer ≡ answer_for end) × Calls tries asked end old new

-- a call that a number names, if there is such a call
abbrev pub CallsBy : ℕ → Option Call → Edited → Option Object → Option Object → Type 0
CallsBy tries None answer old new = (answer ≡ unedited) × (new ≡ old)
CallsBy tries (Some asked) answer old new = Answers told_for tries asked answer old new
