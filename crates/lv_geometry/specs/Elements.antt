-- What an element of the vector may be.
use Rattle.std.specs.Prelude.{ℤ, FitsSigned}
use Rattle.std.specs.Int.{w64}

-- a number of 64 bits with a sign
abbrev pub IsElement : ℤ → Type 0
IsElement x = FitsSigned w64 x
