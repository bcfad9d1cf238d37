-- The result of the test whether a number is short, before it is pushed or written at a board.
use Rattle.std.proofs.Common.{◌≡◌, ℤ, Bool, true, false, sym, ap, ◌∙◌, arith}
use Rattle.std.proofs.lemmas.Int.{ints}
use Rattle.lv_bodies.specs.Parts.{IsShort}
use Rattle.lv_machine.specs.Calls.{is_short}

pub short_is : (x : ℤ) → is_short x ≡ true → IsShort x
short_is x is = grind (arith, ints)

pub wide_is : (x : ℤ) → is_short x ≡ false → ¬ IsShort x
wide_is x is = λ short. grind (arith, ints)

-- the number that was tested is the one that was given
pub fits : (x y : ℤ) (found : Bool) → y ≡ x → found ≡ is_short y → found ≡ true → IsShort x
fits x y found same told is = short_is x (ap is_short (sym same) ∙ sym told ∙ is)

pub too_wide : (x y : ℤ) (found : Bool) → y ≡ x → found ≡ is_short y → found ≡ false → ¬ IsShort x
too_wide x y found same told is = wide_is x (ap is_short (sym same) ∙ sym told ∙ is)
