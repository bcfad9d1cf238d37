-- What the loop keeps in `put_states`: the states of an automaton, with one space between.
use Rattle.std.proofs.Common.{◌≡◌, ◌+◌, ◌*◌, ◌≤◌, ◌∷◌, ◌++◌, take, vec_len, vec_capacity, decimal}
use Rattle.std.specs.List.{flat_map}
use Rattle.lv_lines.proofs.replies.put_states.Given as goal

-- each state read so far is after a space
abbrev pub invariant-loop-state : goal.invariant-loop-state
invariant-loop-state l = record {
  text : l.held.items ≡ l.initial.held.items ++ flat_map (λ q. 32 ∷ decimal q) (take l.state-index l.state-items);
  few : vec_len l.held ≤ vec_len l.initial.held + 21 * l.state-index;
  room : vec_capacity l.initial.held ≤ vec_capacity l.held;
}
