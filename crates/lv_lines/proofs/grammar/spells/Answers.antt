-- Proof of `spells`: whether a word is this text.
use Rattle.std.proofs.Common.{length, take, nat_eq, take_all, ap, ◌∙◌, arith}
use Rattle.std.specs.Cmp.Lexicographic.{pointwise, nat_list_eq_equiv}
use Rattle.lv_lines.proofs.grammar.spells.Goals as goal

pub returns-then-word-text : goal.returns-then-word-text
returns-then-word-text c =
    let word = c.args.word.now in
    let text = c.args.text.now in
    c.starts_with.ensures.value
    ∙ ap (λ bytes. pointwise nat_eq bytes (take (length bytes) word)) c.as_bytes.ensures.value
    ∙ ap (pointwise nat_eq text) (take_all (length text) word (omega (arith, c.if-word-text.true)))
    ∙ nat_list_eq_equiv.symm text word
