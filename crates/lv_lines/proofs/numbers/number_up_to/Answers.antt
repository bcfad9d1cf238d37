-- Proof of `number_up_to`: the number up to a bound that a word is.
use Rattle.std.proofs.Common.{nat_le, sym, ap, ◌∙◌}
use Rattle.lv_lines.specs.Numbers.{numeral_in, number_up_to, allowed}
use Rattle.lv_lines.proofs.ReadDigits.{no_number, read_in_64}
use Rattle.lv_lines.proofs.numbers.number_up_to.Goals as goal

pub returns-in_err-numeral-clause-number : goal.returns-in_err-numeral-clause-number
unfolding number_up_to
returns-in_err-numeral-clause-number c =
    c.from_residual.ensures
    ∙ sym (no_number c.args.most (numeral_in c.args.word.now) c.ranges.most.fits (sym c.numeral.ensures ∙ c.in_err-numeral.was))

pub returns-clause-number : goal.returns-clause-number
unfolding number_up_to
returns-clause-number c =
    let word = c.args.word.now in
    let n = c.in_ok-numeral.field-0 in
    c.fit.ensures.number ∙ ap (allowed (λ n. nat_le n c.args.most)) (sym (read_in_64 (numeral_in word) n (sym c.numeral.ensures ∙ c.in_ok-numeral.was)))
