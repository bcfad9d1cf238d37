-- Proof of `put_named_answer`: what a query answers: what it was told last.
use Rattle.std.proofs.Common.{ap, sym}
use Rattle.lv_lines.specs.Texts.{refused_by}
use Rattle.lv_script.proofs.KnownLaws.{answer_refused, answer_told}
use Rattle.lv_script.proofs.series_scripts.answers.put_named_answer.Goals as goal

pub returns-in-Some-clause-answer : goal.returns-in-Some-clause-answer
returns-in-Some-clause-answer c =
    (_, answer_told c.args.series.now c.args.queries.now c.args.name c.in-Some.place _ c.edits.result c.told.result.now c.told.ensures.told c.requires.told (sym c.in-Some.ensures) c.edits.ensures, c.put_named.ensures.text)

pub returns-in-None-clause-answer : goal.returns-in-None-clause-answer
returns-in-None-clause-answer c =
    let text = refused_by c.number.result in
    (text, answer_refused c.args.series.now c.args.queries.now c.args.name text (sym c.in-None.ensures) (ap refused_by c.number.ensures), c.put_refused.ensures.text)
