-- Proof of `Machine::run`: does a list of events, and returns the outcome of each.
use Rattle.std.proofs.Common.{◌∙◌, ap, sym, refl, take, arith}
use Rattle.std.proofs.lemmas.Grind.{take_at_read}
use Rattle.std.proofs.lemmas.List.{take_all}
use Rattle.lv_machine.specs.Machine.{machine_run}
use Rattle.lv_machine.proofs.RunLaws.{run-nil, run_more, run_says_more}
use Rattle.lv_machine.proofs.machines.Machine.run.Goals as goal

-- refused before the first event, and nothing has changed
pub returns-in_default-clause-err : goal.returns-in_default-clause-err
returns-in_default-clause-err g c = refl

pub returns-in_default-clause-unchanged : goal.returns-in_default-clause-unchanged
returns-in_default-clause-unchanged g c = refl

pub loop-event-init : goal.loop-event-init
loop-event-init g c =
    let none = run-nil (g.B.Body.operations c.args.self.now.body) g.B.Parted.PARTS g.B.Parted.parts_of g.B.Parted.whole_of c.args.self.now in
    record {
      state = ap (λ r. r.0) (sym none);
      said = c.in-Ok.ensures.items ∙ ap (λ r. r.1) (sym none);
      room = omega (arith, c.in-Ok.ensures.len, c.in-Ok.ensures.capacity);
      events = refl;
    }

pub loop-event-preserved : goal.loop-event-preserved
loop-event-preserved g c =
    let i = c.loop-event.invariant in
    let pushed = c.push_reserved.ensures in
    record {
      state = run_more g.B.Body.operations g.B.Parted.PARTS g.B.Parted.parts_of g.B.Parted.whole_of c.args.self.now c.loop-event.self (take c.loop-event.event-index c.args.events.now) _ _ (take_at_read c.args.events.now c.loop-event.event-index _ c.loop-event-test.true).1 i.state _ c.step-outcome.ensures.state;
      said = run_says_more g.B.Body.operations g.B.Parted.PARTS g.B.Parted.parts_of g.B.Parted.whole_of c.args.self.now c.loop-event.self (take c.loop-event.event-index c.args.events.now) _ _ (take_at_read c.args.events.now c.loop-event.event-index _ c.loop-event-test.true).1 i.state _ _ _ i.said c.step-outcome.ensures.outcome pushed.items;
      room = omega (arith, i.room, pushed.len, pushed.capacity, c.loop-event-test.true);
      events = refl;
    }

pub push_reserved-requires : goal.push_reserved-requires
push_reserved-requires g c = omega (arith, c.loop-event.invariant.room, c.loop-event-test.true)

-- at the end of the loop all events were done
pub returns-clause-state : goal.returns-clause-state
returns-clause-state g c =
    let all = take_all c.loop-event.event-index c.args.events.now (omega (arith, c.loop-event-test.false)) in
    c.loop-event.invariant.state
    ∙ ap (λ events. (machine_run (g.B.Body.operations c.args.self.now.body) g.B.Parted.PARTS g.B.Parted.parts_of g.B.Parted.whole_of c.args.self.now events).0) all

pub returns-clause-outcomes : goal.returns-clause-outcomes
returns-clause-outcomes g c =
    let all = take_all c.loop-event.event-index c.args.events.now (omega (arith, c.loop-event-test.false)) in
    c.loop-event.invariant.said
    ∙ ap (λ events. (machine_run (g.B.Body.operations c.args.self.now.body) g.B.Parted.PARTS g.B.Parted.parts_of g.B.Parted.whole_of c.args.self.now events).1) all
