-- Proof of the player's `handle`: a line of a schedule is answered on the machine.
use Rattle.std.proofs.Common.{◌≡◌, refl, subst, sym, ap, ◌∙◌}
use Rattle.lv_lines.specs.declared.lines.Line.{Line}
use Rattle.lv_machine.specs.declared.events.Event.{Event}
use Rattle.lv_lines.specs.Texts.{unasked_text}
use Rattle.lv_lines.proofs.OutputLemmas.{Writes-put, Writes-trans}
use Rattle.lv_lines.proofs.ReplyLemmas.{Writes-asked, Writes-unasked, is_asked}
use Rattle.lv_script.specs.Schedule.{ScheduleStep, event_text, line_text, machine_after}
use Rattle.lv_script.proofs.Playing.{unasked_event}
use Rattle.lv_script.proofs.schedules.PlayerLineHandler.handle.Goals as goal

pub returns-in-Some-clause-ok : goal.returns-in-Some-clause-ok
unfolding ScheduleStep
returns-in-Some-clause-ok g c =
    let machine = c.args.self.now.machine.now in
    let line = c.read_schedule_line.result in
    let is = is_asked line c.in-Some.event c.in-Some.ensures.command in
    let says = sym is ∙ c.read_schedule_line.ensures in
    record {
      reply = event_text machine c.in-Some.event;
      answered = record { place = refl; answered = (ap (line_text machine c.args.number) says, c.answer_event.ensures.machine ∙ ap (machine_after machine) says) };
      written = Writes-trans (Writes-asked c.args.number line c.in-Some.event _ c.in_ok-make_room.ensures.ok is c.command_of.ensures.text) (Writes-put _ _ _ _ c.answer_event.ensures.text);
    }

pub returns-in-None-clause-ok : goal.returns-in-None-clause-ok
unfolding ScheduleStep
returns-in-None-clause-ok g c =
    let machine = c.args.self.now.machine.now in
    let line = c.read_schedule_line.result in
    record {
      reply = unasked_text c.args.number line;
      answered = record { place = refl; answered = subst (λ (l : Line Event). (unasked_text c.args.number line ≡ line_text machine c.args.number l) × (machine ≡ machine_after machine l)) c.read_schedule_line.ensures (unasked_event machine c.args.number line c.in-None.ensures.command) };
      written = Writes-unasked c.args.number line _ c.in_ok-make_room.ensures.ok c.command_of.ensures.text;
    }
