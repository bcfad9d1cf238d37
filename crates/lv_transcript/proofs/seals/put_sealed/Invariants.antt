-- What the loop keeps in `put_sealed`: puts bytes of a log's text as they are in its file.
use Rattle.std.proofs.Common.{◌≡◌, ◌+◌, ◌*◌, ◌^◌, ◌<◌, ◌≤◌, ℕ, List, ◌++◌, length}
use Rattle.std.specs.Prelude.{vec_len, vec_capacity}
use Rattle.lv_transcript.proofs.SealLaws.{AreSealed}
use Rattle.lv_transcript.proofs.seals.put_sealed.Given as goal

-- the bytes before the rest were put
abbrev pub invariant-loop-end : goal.invariant-loop-end
invariant-loop-end l = record {
  done : List ℕ;
  cut : l.text ≡ done ++ l.rest;
  sealed : AreSealed l.fn.held.items l.fn.hash l.fn.count done l.held.items l.hash l.count;
  few : length l.rest ≤ 4096;
  within : l.count + 18 * length l.rest < 2 ^ 63 + 2 ^ 20;
  room : vec_len l.held + 18 * length l.rest ≤ vec_capacity l.held;
  capacity : vec_capacity l.fn.held ≤ vec_capacity l.held;
}

abbrev pub decreases-loop-end : goal.decreases-loop-end
decreases-loop-end l = length l.rest
