-- Proof of `numeral`: the number that one or more digits denote, if it fits into 64 bits.
use Rattle.std.proofs.Common.{arith, ◌∙◌, sym}
use Rattle.lv_lines.proofs.ReadDigits.{overflow}
use Rattle.lv_lines.proofs.numbers.numeral.Goals as goal

pub returns-in_err-checked_mul : goal.returns-in_err-checked_mul
returns-in_err-checked_mul c =
    let digit = sym c.is_ascii_digit.ensures.value ∙ c.if-not-is_ascii_digit.false in
    c.from_residual.ensures
    ∙ sym (overflow c.loop-digit.value c.loop-digit.digit-index c.args.digits.now _ (omega arith) digit c.loop-digit.invariant.0 (omega (arith, c.in_err-checked_mul.ensures)))

pub returns-in_err-value : goal.returns-in_err-value
returns-in_err-value c =
    let digit = sym c.is_ascii_digit.ensures.value ∙ c.if-not-is_ascii_digit.false in
    c.from_residual-in_err-value.ensures
    ∙ sym (overflow c.loop-digit.value c.loop-digit.digit-index c.args.digits.now _ (omega arith) digit c.loop-digit.invariant.0 (omega (arith, c.in_err-value.ensures)))
