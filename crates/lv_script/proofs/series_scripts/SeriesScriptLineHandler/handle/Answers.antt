-- Proof of `SeriesScriptLineHandler::handle`.
use Rattle.std.proofs.Common.{subst}
use Rattle.lv_lines.specs.declared.lines.Line.{Line}
use Rattle.lv_lines.specs.Texts.{unasked_text}
use Rattle.lv_lines.proofs.ReplyLemmas.{Writes-asked, Writes-unasked, asked_fault, asked_ok, is_asked}
use Rattle.lv_script.specs.declared.long_commands.LongCommand.{LongCommand}
use Rattle.lv_script.specs.Inside.{SeriesStep, known_of}
use Rattle.lv_script.specs.Interpreter.{PlainLine}
use Rattle.lv_script.specs.PlainSeriesScript.{series_script}
use Rattle.lv_script.proofs.EventLaws.{fails_after, replies_after}
use Rattle.lv_script.proofs.InterpreterLaws.{unasked_plain}
use Rattle.lv_script.proofs.series_scripts.SeriesScriptLineHandler.handle.Goals as goal

pub returns-in-Some-clause-ok : goal.returns-in-Some-clause-ok
unfolding SeriesStep
returns-in-Some-clause-ok g c =
    let self = c.self.inside in
    let new = c.answer.new in
    let line = c.read_long_line.result in
    let is = is_asked line c.in-Some.command c.in-Some.ensures.command in
    rw (← c.self.view_is) (replies_after SeriesStep _ _ c.answer.result _ _ c.args.number c.args.line.now
    (Writes-asked c.args.number line c.in-Some.command _ c.in_ok-make_room.ensures.ok is c.command_of.ensures.text)
    (rw c.read_long_line.ensures at (asked_ok (λ line reply. PlainLine series_script (known_of self.series self.queries.queries) c.args.number line reply (known_of new.series new.queries.queries)) _ line c.in-Some.command is c.answer.result c.answer.ensures.ok)))

pub returns-in-Some-clause-fault : goal.returns-in-Some-clause-fault
unfolding SeriesStep
returns-in-Some-clause-fault g c =
    let self = c.self.inside in
    let new = c.answer.new in
    let line = c.read_long_line.result in
    let is = is_asked line c.in-Some.command c.in-Some.ensures.command in
    rw (← c.self.view_is) (fails_after SeriesStep _ c.answer.result _ _ c.args.number c.args.line.now
    (Writes-asked c.args.number line c.in-Some.command _ c.in_ok-make_room.ensures.ok is c.command_of.ensures.text)
    (rw c.read_long_line.ensures at (asked_fault (λ line reply. PlainLine series_script (known_of self.series self.queries.queries) c.args.number line reply (known_of new.series new.queries.queries)) _ line c.in-Some.command is c.answer.result c.answer.ensures.fault)))

pub returns-in-None-clause-ok : goal.returns-in-None-clause-ok
unfolding SeriesStep
returns-in-None-clause-ok g c =
    let line = c.read_long_line.result in
    let known = known_of c.self.inside.series c.self.inside.queries.queries in
    rw (← c.self.view_is) record {
      reply = unasked_text c.args.number line;
      answered = subst (λ (l : Line LongCommand). PlainLine series_script known c.args.number l (unasked_text c.args.number line) known) c.read_long_line.ensures (unasked_plain series_script known c.args.number line c.in-None.ensures.command);
      written = Writes-unasked c.args.number line _ c.in_ok-make_room.ensures.ok c.command_of.ensures.text;
    }
