-- Loop invariants of `Machine::run`: does a list of events, and returns the outcome of each.
use Rattle.std.proofs.Common.{◌≡◌, ◌+◌, ◌≤◌, ◌-◌, length, take, vec_capacity, vec_len}
use Rattle.lv_machine.specs.Machine.{machine_run}
use Rattle.lv_machine.proofs.machines.Machine.run.Given as goal

-- the events so far were done, and there is room for the outcomes of the others
abbrev pub invariant-loop-event : goal.invariant-loop-event
invariant-loop-event g l =
    let run = machine_run (g.B.Body.operations l.initial.self.body) g.B.Parted.PARTS g.B.Parted.parts_of g.B.Parted.whole_of l.initial.self (take l.event-index l.events) in
    record {
      state : l.self ≡ run.0;
      said : l.outcomes.items ≡ run.1;
      room : vec_len l.outcomes + (length l.events - l.event-index) ≤ vec_capacity l.outcomes;
      events : l.events ≡ l.initial.events;
    }
