-- What the loop keeps in `take_lines`: takes bytes of lines that have seals.
use Rattle.std.proofs.Common.{◌≡◌, ◌+◌, ◌<◌, ◌≤◌, ℕ, List, false, ◌++◌, length}
use Rattle.std.specs.Prelude.{vec_len, vec_capacity}
use Rattle.lv_lines.specs.Input.{has_end}
use Rattle.lv_transcript.specs.declared.unsealer.Form.TheVariants.{Sealed}
use Rattle.lv_transcript.specs.Unsealing.{Takes}
use Rattle.lv_transcript.proofs.unsealer.take_lines.Given as goal

-- the bytes before the rest were taken
abbrev pub invariant-loop-end : goal.invariant-loop-end
invariant-loop-end l = record {
  done : List ℕ;
  cut : l.bytes ≡ done ++ l.rest;
  taken : Takes Sealed l.fn.hash l.fn.kept.items l.fn.ready.items done Sealed l.hash l.kept.items l.ready.items;
  begun : has_end l.kept.items ≡ false;
  room : vec_len l.ready + length l.kept.items + length l.rest < vec_capacity l.ready;
  capacity : vec_capacity l.fn.ready ≤ vec_capacity l.ready;
}

abbrev pub decreases-loop-end : goal.decreases-loop-end
decreases-loop-end l = length l.rest
