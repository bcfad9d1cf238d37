-- What the loop keeps in `numeral`: the number that the digits so far denote, which fits into 64 bits.
use Rattle.std.proofs.Common.{◌≡◌, ◌^◌, ◌<◌, drop}
use Rattle.lv_lines.specs.Numbers.{numeral_in}
use Rattle.lv_lines.proofs.ReadDigits.{numeral_from}
use Rattle.lv_lines.proofs.numbers.numeral.Given as goal

-- what is read and what is left give what all give
abbrev pub invariant-loop-digit : goal.invariant-loop-digit
invariant-loop-digit l = (numeral_from l.value (drop l.digit-index l.digits) ≡ numeral_in l.digits) × (l.value < 2 ^ 64)
