-- Proof of `negative_at`: the element at the start of a text that begins with `-`.
use Rattle.std.proofs.Common.{ℕ, List, ◌<◌, Some, drop, take, pos, neg_ℤ, sym, ap, ◌∙◌, arith}
use Rattle.std.specs.Int.{w64}
use Rattle.std.proofs.lemmas.Int.{to_z-of_z}
use Rattle.lv_lines.specs.Words.{first_read}
use Rattle.lv_lines.specs.Numbers.{element_in}
use Rattle.lv_lines.proofs.ReadFirst.{fits_element, negative_cut, negative_read}
use Rattle.lv_lines.proofs.numbers.negative_at.Goals as goal

pub returns-in_err-fit_negative : goal.returns-in_err-fit_negative
returns-in_err-fit_negative c =
    let read = c.front_digits-value in
    let digits = c.split_at.result.1.now in
    let some : 0 < read.result.1 = omega arith in
    let cut = negative_cut c.args.text.now digits c.split_at-2.result.1.now read.result.1 c.requires.some c.requires.minus c.split_at.ensures.back read.ensures.few read.ensures.digits c.split_at-2.ensures.back (c.ends_word.ensures c.if-ends_word.true) in
    let word = negative_read (take read.result.1 digits) read.result.0 (read.ensures.value some) in
    rw c.from_residual.ensures (ap (first_read element_in) cut ∙ word ∙ sym c.fit_negative.ensures ∙ c.in_err-fit_negative.was)

pub returns-then-ends_word : goal.returns-then-ends_word
returns-then-ends_word c =
    let read = c.front_digits-value in
    let digits = c.split_at.result.1.now in
    let some : 0 < read.result.1 = omega arith in
    let cut = negative_cut c.args.text.now digits c.split_at-2.result.1.now read.result.1 c.requires.some c.requires.minus c.split_at.ensures.back read.ensures.few read.ensures.digits c.split_at-2.ensures.back (c.ends_word.ensures c.if-ends_word.true) in
    let word = negative_read (take read.result.1 digits) read.result.0 (read.ensures.value some) in
    let fit = sym c.fit_negative.ensures ∙ c.in_ok-fit_negative.was in
    let whole = to_z-of_z w64 c.in_ok-fit_negative.field-0 (fits_element (neg_ℤ (pos read.result.0)) c.in_ok-fit_negative.field-0 fit) in
    (ap (first_read element_in) cut ∙ word ∙ fit ∙ ap Some (sym whole), ap (λ (words : List (List ℕ)). drop 1 words) cut)
