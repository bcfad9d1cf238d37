-- What a slot ends as once the object that it holds is no longer lent to be read.
use Rattle.std.specs.Prelude.{◌≡◌, ⊤}
use Rattle.std.specs.Borrow.{Fml, MutBor, follows_so}
use mathlib.Core.Option.{none}
use Rattle.livevec_c.specs.declared.slots.Slot.{Slot}
use Rattle.livevec_c.specs.contracts.slots.Slot as slot

-- the slot holds what it held
abbrev pub Keeps : MutBor Slot → Fml
Keeps s = follows_so slot.the_row slot.the_row s.ghost_name none (λ _ _. ⊤) (λ last. last.raw.inner ≡ s.now.raw.inner)
