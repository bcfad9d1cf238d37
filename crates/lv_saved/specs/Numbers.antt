-- The numbers of refusals.
use Rattle.std.specs.Prelude.{ℕ}
use Rattle.lv_saved.specs.declared.refusals.LoadRefusal.{LoadRefusal}
use Rattle.lv_saved.specs.declared.refusals.LoadRefusal.TheVariants.{Damaged, NoMemory}

-- the number of a refusal
abbrev pub number_of : LoadRefusal → ℕ
number_of Damaged = 22
number_of NoMemory = 6
