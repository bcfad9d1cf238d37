-- Proof of `put_run_of`: where the run of a range with the greatest sum is, or why there is no answer.
use Rattle.std.proofs.Common.{ap, ◌∙◌}
use Rattle.lv_lines.specs.Texts.{refused_by}
use Rattle.lv_script.specs.LongTexts.{run_text}
use Rattle.lv_script.proofs.KnownLaws.{run_granted, run_refused, ready_still}
use Rattle.lv_script.proofs.series_scripts.answers.put_run_of.Goals as goal

pub returns-in-Ok-clause-answer : goal.returns-in-Ok-clause-answer
returns-in-Ok-clause-answer c =
    let old = c.args.series.now in
    let new = c.run_of.new.series in
    let text = run_text c.edits.result c.in-Ok.run' in
    let edit = c.edits.ensures ∙ ap (λ s. s.edits) c.in-Ok.ensures.2 in
    (text, run_granted old new c.args.lo c.args.hi c.in-Ok.run' text c.in-Ok.ensures (ap (λ edit. run_text edit c.in-Ok.run') edit), c.put_run.ensures.text)

pub returns-in-Ok-clause-ready : goal.returns-in-Ok-clause-ready
returns-in-Ok-clause-ready c = ready_still c.args.series.now c.run_of.new.series c.in-Ok.ensures.2

pub returns-in-Err-clause-answer : goal.returns-in-Err-clause-answer
returns-in-Err-clause-answer c =
    let text = refused_by c.number.result in
    (text, run_refused c.args.series.now c.run_of.new.series c.args.lo c.args.hi c.in-Err.refusal text c.in-Err.ensures (ap refused_by c.number.ensures), c.put_refused.ensures.text)

pub returns-in-Err-clause-ready : goal.returns-in-Err-clause-ready
returns-in-Err-clause-ready c = ready_still c.args.series.now c.run_of.new.series c.in-Err.ensures.1
