-- Proof of `first_up_to`: the number up to a bound that the first word is, and the bytes after it.
use Rattle.std.proofs.Common.{ℕ, List, ◌<◌, drop, take, sym, ap, ◌∙◌, arith}
use Rattle.lv_lines.specs.Words.{first_read}
use Rattle.lv_lines.specs.Numbers.{number_up_to}
use Rattle.lv_lines.proofs.ReadFirst.{first_cut, number_read}
use Rattle.lv_lines.proofs.numbers.first_up_to.Goals as goal

pub returns-in_err-fit-clause-read : goal.returns-in_err-fit-clause-read
returns-in_err-fit-clause-read c =
    let read = c.front_digits-value in
    let text = c.in_ok-text.text.now in
    let some : 0 < read.result.1 = omega arith in
    let cut = first_cut c.args.bytes.now text c.split_at.result.1.now read.result.1 c.in_ok-text.ensures.0 some read.ensures.few read.ensures.digits c.split_at.ensures.back (c.ends_word.ensures c.if-ends_word.true) in
    let word = number_read c.args.most (take read.result.1 text) read.result.0 (read.ensures.value some) in
    rw c.from_residual-in_err-fit.ensures (ap (first_read (number_up_to c.args.most)) cut ∙ word ∙ sym c.fit.ensures.number ∙ c.in_err-fit.was)

pub returns-then-ends_word-clause-read : goal.returns-then-ends_word-clause-read
returns-then-ends_word-clause-read c =
    let read = c.front_digits-value in
    let text = c.in_ok-text.text.now in
    let some : 0 < read.result.1 = omega arith in
    let cut = first_cut c.args.bytes.now text c.split_at.result.1.now read.result.1 c.in_ok-text.ensures.0 some read.ensures.few read.ensures.digits c.split_at.ensures.back (c.ends_word.ensures c.if-ends_word.true) in
    let word = number_read c.args.most (take read.result.1 text) read.result.0 (read.ensures.value some) in
    (ap (first_read (number_up_to c.args.most)) cut ∙ word ∙ sym c.fit.ensures.number ∙ c.in_ok-fit.was, ap (λ (words : List (List ℕ)). drop 1 words) cut)
