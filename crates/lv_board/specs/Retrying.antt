-- The result of several tries of one update, made one after the other.
use Rattle.std.specs.Prelude.{◌≡◌, ◌⊎◌, ℕ, zero, suc, ◌+◌, ◌<◌, Result, Ok, Err, List, ◌∷◌}
use Rattle.lv_geometry.specs.declared.refusals.Refusal.{Refusal}
use Rattle.lv_geometry.specs.declared.refusals.Refusal.TheVariants.{Contended, Overtaken}
use Rattle.lv_edits.specs.declared.edit.Edit.{Edit}
use Rattle.lv_edits.specs.declared.receipt.Receipt.{Receipt}
use Rattle.lv_machine.specs.declared.entries.Entry.{Entry}
use Rattle.lv_machine.specs.History.{Ends, own}
use Rattle.lv_machine.specs.Terms.{Terms}
use Rattle.lv_board.specs.declared.actors.Actor.{Actor}
use Rattle.lv_board.specs.Calls.{TryAnswers}

-- The try failed only because of another seat's update: that came first, or a word of it was found.
abbrev pub IsOutrun : Result Receipt Refusal → Type 0
IsOutrun (Ok receipt) = ⊥
IsOutrun (Err refusal) = (number : ℕ) × ((refusal ≡ Contended number) ⊎ (refusal ≡ Overtaken number))

-- This many tries of an update were made, one after the other, and all failed because of other seats.
abbrev pub AreOutrun : Terms → Edit → ℕ → Actor → Actor → Type 0
AreOutrun t edit zero x y = y ≡ x
AreOutrun t edit (suc n) x y = (m : Actor) × (refusal : Refusal) × AreOutrun t edit n x m × TryAnswers t m y edit (Err refusal) × IsOutrun (Err refusal)

-- The entries of an actor's own after tries of an update. If it was accepted, it is the last of them, and there is no other new one.
abbrev pub own_after : Actor → Edit → Result Receipt Refusal → List Entry
own_after x edit (Ok receipt) = record { actor = x.number; edit = edit } ∷ own x.number x.known
own_after x edit (Err refusal) = own x.number x.known

-- What an actor knew before its tries of an update is an earlier state of what it knows after them. Its only new entry is the update, if that was
-- accepted.
pub record HasTried (x y : Actor) (edit : Edit) (result : Result Receipt Refusal) : Type 0 where
  pub number : y.number ≡ x.number
  pub known : Ends x.known y.known
  pub own_is : own x.number y.known ≡ own_after x edit result

-- At most `tries` tries of an update were made, one after the other. All but the last failed because of other seats, and the result is that of
-- the last one. If that failed in the same way, all `tries` were made.
pub record AnswersWithin (t : Terms) (tries : ℕ) (x y : Actor) (edit : Edit) (result : Result Receipt Refusal) : Type 0 where
  pub before : Actor
  pub outrun : ℕ
  pub first : AreOutrun t edit outrun x before
  pub last : TryAnswers t before y edit result
  pub few : outrun < tries
  pub all : IsOutrun result → outrun + 1 ≡ tries
  pub tried : HasTried x y edit result
