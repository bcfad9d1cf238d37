-- Loop invariants of `idle_actors`: this many actors at the start.
use Rattle.std.proofs.Common.{◌≡◌, ◌+◌, ◌≤◌, ◌-◌, replicate, vec_capacity, vec_len}
use Rattle.lv_machine.specs.Machine.{idle}
use Rattle.lv_machine.proofs.machines.idle_actors.Given as goal

-- this many idle actors are there, and there is room for the others
abbrev pub invariant-loop-number : goal.invariant-loop-number
invariant-loop-number g l = record {
  items : l.actors.items ≡ replicate l._number idle;
  room : vec_len l.actors + (l.count - l._number) ≤ vec_capacity l.actors;
}
