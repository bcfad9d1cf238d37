-- Proof of the script's `handle`: a line of a script is answered by the vector.
use Rattle.std.proofs.Common.{refl, subst}
use Rattle.lv_lines.specs.declared.command.Command.{Command}
use Rattle.lv_lines.specs.declared.lines.Line.{Line}
use Rattle.lv_lines.specs.Texts.{unasked_text}
use Rattle.lv_lines.proofs.ReplyLemmas.{Writes-asked, Writes-unasked, asked_fault, asked_ok, is_asked}
use Rattle.lv_script.specs.Script.{LineAnswer, ScriptStep}
use Rattle.lv_script.specs.Scripted.{BoundedStep, state_of}
use Rattle.lv_script.proofs.BoundedLaws.{fails_within, few_named, replies_within, step_within}
use Rattle.lv_script.proofs.EventLaws.{fails_after, replies_after, unasked_line}
use Rattle.lv_script.proofs.scripts.ScriptLineHandler.handle.Goals as goal

pub returns-in-Some-clause-ok : goal.returns-in-Some-clause-ok
unfolding ScriptStep
returns-in-Some-clause-ok g c =
    let self = c.self.inside in
    let new = c.answer.new in
    let old_state = state_of self.standing self.issued.jobs in
    let new_state = state_of new.standing new.issued.jobs in
    let line = c.read_line.result in
    let is = is_asked line c.in-Some.command c.in-Some.ensures.command in
    rw (← c.self.view_is) (replies_after BoundedStep _ _ c.answer.result _ _ c.args.number c.args.line.now
    (Writes-asked c.args.number line c.in-Some.command _ c.in_ok-make_room.ensures.ok is c.command_of.ensures.text)
    (replies_within old_state new_state self.issued.most new.issued.most c.args.number c.args.line.now _ c.answer.ensures.most (few_named self.issued.jobs new.issued.jobs self.issued.most new.issued.most c.answer.ensures.few)
    c.answer.result (rw c.read_line.ensures at (asked_ok (λ line reply. LineAnswer old_state c.args.number line reply new_state) _ line c.in-Some.command is c.answer.result c.answer.ensures.ok))))

pub returns-in-Some-clause-fault : goal.returns-in-Some-clause-fault
unfolding ScriptStep
returns-in-Some-clause-fault g c =
    let self = c.self.inside in
    let new = c.answer.new in
    let old_state = state_of self.standing self.issued.jobs in
    let new_state = state_of new.standing new.issued.jobs in
    let line = c.read_line.result in
    let is = is_asked line c.in-Some.command c.in-Some.ensures.command in
    rw (← c.self.view_is) (fails_after BoundedStep _ c.answer.result _ _ c.args.number c.args.line.now
    (Writes-asked c.args.number line c.in-Some.command _ c.in_ok-make_room.ensures.ok is c.command_of.ensures.text)
    (fails_within old_state new_state self.issued.most new.issued.most c.args.number c.args.line.now _ c.answer.ensures.most (few_named self.issued.jobs new.issued.jobs self.issued.most new.issued.most c.answer.ensures.few)
    c.answer.result (rw c.read_line.ensures at (asked_fault (λ line reply. LineAnswer old_state c.args.number line reply new_state) _ line c.in-Some.command is c.answer.result c.answer.ensures.fault))))

pub returns-in-None-clause-ok : goal.returns-in-None-clause-ok
unfolding ScriptStep
returns-in-None-clause-ok g c =
    let self = c.self.inside in
    let line = c.read_line.result in
    let state = state_of self.standing self.issued.jobs in
    rw (← c.self.view_is) record {
      reply = unasked_text c.args.number line;
      answered = record {
        step = subst (λ (l : Line Command). LineAnswer state c.args.number l (unasked_text c.args.number line) state) c.read_line.ensures (unasked_line self.standing self.issued.jobs c.args.number line c.in-None.ensures.command);
        most = refl;
        few = λ few. few;
      };
      written = Writes-unasked c.args.number line _ c.in_ok-make_room.ensures.ok c.command_of.ensures.text;
    }
