-- Proof of `put_index_of`: the index of what is looked for in a range, or why there is no answer.
use Rattle.std.proofs.Common.{ap, ◌∙◌}
use Rattle.lv_lines.specs.Texts.{refused_by}
use Rattle.lv_script.specs.LongTexts.{index_text}
use Rattle.lv_script.proofs.KnownLaws.{find_granted, find_refused, ready_still}
use Rattle.lv_script.proofs.series_scripts.answers.put_index_of.Goals as goal

pub returns-in-Ok-clause-answer : goal.returns-in-Ok-clause-answer
returns-in-Ok-clause-answer c =
    let old = c.args.series.now in
    let new = c.index_of.new.series in
    let text = index_text c.edits.result c.in-Ok.index in
    let edit = c.edits.ensures ∙ ap (λ s. s.edits) c.in-Ok.ensures.2 in
    (text, find_granted old new c.args.lo c.args.hi c.args.sought c.in-Ok.index text c.in-Ok.ensures (ap (λ edit. index_text edit c.in-Ok.index) edit), c.put_index.ensures.text)

pub returns-in-Ok-clause-ready : goal.returns-in-Ok-clause-ready
returns-in-Ok-clause-ready c = ready_still c.args.series.now c.index_of.new.series c.in-Ok.ensures.2

pub returns-in-Err-clause-answer : goal.returns-in-Err-clause-answer
returns-in-Err-clause-answer c =
    let text = refused_by c.number.result in
    (text, find_refused c.args.series.now c.index_of.new.series c.args.lo c.args.hi c.args.sought c.in-Err.refusal text c.in-Err.ensures (ap refused_by c.number.ensures), c.put_refused.ensures.text)

pub returns-in-Err-clause-ready : goal.returns-in-Err-clause-ready
returns-in-Err-clause-ready c = ready_still c.args.series.now c.index_of.new.series c.in-Err.ensures.1
