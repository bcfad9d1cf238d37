-- Proof of `put_reduced`: the value of a kind over a range, or why the range is rejected.
use Rattle.std.proofs.Common.{ap, ap₂, ◌∙◌}
use Rattle.lv_lines.specs.Texts.{answer_text}
use Rattle.lv_script.specs.Inside.{known_of}
use Rattle.lv_script.specs.declared.long_commands.LongCommand.TheVariants as command
use Rattle.lv_script.proofs.KnownLaws.{reduce_granted, told_still}
use Rattle.lv_script.proofs.series_scripts.answers.put_reduced.Goals as goal

pub returns-in-Ok-clause-answer : goal.returns-in-Ok-clause-answer
returns-in-Ok-clause-answer c =
    let s = c.args.series.now in
    let kind = c.args.kind in
    let lo = c.args.lo in
    let hi = c.args.hi in
    let same = c.show_value.ensures.same in
    let text = answer_text c.edits.result kind c.in-Ok.value in
    let edit = c.edits.ensures ∙ ap (λ s. s.edits) same in
    let granted = reduce_granted s kind lo hi text c.in-Ok.ensures.value.0 (ap₂ (λ edit value. answer_text edit kind value) edit c.in-Ok.ensures.value.1) in (
      text,
      λ queries. told_still s c.show_value.new.series same queries (known_of s queries) (command.Reduce kind lo hi) text (granted queries),
      c.put_answer.ensures.text,
    )
