-- Proof of `positive_at`: the element at the start of a text that begins with a digit.
use Rattle.std.proofs.Common.{ℕ, List, ◌<◌, Some, drop, take, pos, refl, sym, ap, ◌∙◌, arith}
use Rattle.std.specs.Int.{w64}
use Rattle.std.proofs.lemmas.Int.{to_z-of_z}
use Rattle.lv_lines.specs.Words.{first_read}
use Rattle.lv_lines.specs.Numbers.{element_in}
use Rattle.lv_lines.proofs.ReadFirst.{first_cut, fits_element, positive_read}
use Rattle.lv_lines.proofs.numbers.positive_at.Goals as goal

pub returns-in_err-fit_positive : goal.returns-in_err-fit_positive
returns-in_err-fit_positive c =
    let read = c.front_digits-value in
    let text = c.args.text.now in
    let some : 0 < read.result.1 = omega arith in
    let cut = first_cut text text c.split_at.result.1.now read.result.1 refl some read.ensures.few read.ensures.digits c.split_at.ensures.back (c.ends_word.ensures c.if-ends_word.true) in
    let word = positive_read (take read.result.1 text) read.result.0 (read.ensures.value some) in
    rw c.from_residual.ensures (ap (first_read element_in) cut ∙ word ∙ sym c.fit_positive.ensures ∙ c.in_err-fit_positive.was)

pub returns-then-ends_word : goal.returns-then-ends_word
returns-then-ends_word c =
    let read = c.front_digits-value in
    let text = c.args.text.now in
    let some : 0 < read.result.1 = omega arith in
    let cut = first_cut text text c.split_at.result.1.now read.result.1 refl some read.ensures.few read.ensures.digits c.split_at.ensures.back (c.ends_word.ensures c.if-ends_word.true) in
    let word = positive_read (take read.result.1 text) read.result.0 (read.ensures.value some) in
    let fit = sym c.fit_positive.ensures ∙ c.in_ok-fit_positive.was in
    let whole = to_z-of_z w64 c.in_ok-fit_positive.field-0 (fits_element (pos read.result.0) c.in_ok-fit_positive.field-0 fit) in
    (ap (first_read element_in) cut ∙ word ∙ fit ∙ ap Some (sym whole), ap (λ (words : List (List ℕ)). drop 1 words) cut)
