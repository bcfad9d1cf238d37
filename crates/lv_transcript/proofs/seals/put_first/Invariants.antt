-- What the loop keeps in `put_first`: puts bytes of the first line, which has the version.
use Rattle.std.proofs.Common.{◌≡◌, ◌+◌, ◌≤◌, ℕ, length, take}
use Rattle.std.specs.Prelude.{vec_len, vec_capacity}
use Rattle.lv_transcript.specs.Seals.{sealed_behind}
use Rattle.lv_transcript.proofs.SealLaws.{AreSealed}
use Rattle.lv_transcript.proofs.seals.put_first.Given as goal

-- the bytes so far were put
abbrev pub invariant-loop-byte : goal.invariant-loop-byte
invariant-loop-byte l = record {
  sealed : AreSealed l.fn.held.items l.fn.hash l.fn.count (take l.byte-index l.piece) l.held.items l.hash l.count;
  count : l.count ≡ l.fn.count + l.byte-index;
  len : vec_len l.held ≡ vec_len l.fn.held + l.byte-index;
  capacity : vec_capacity l.fn.held ≤ vec_capacity l.held;
}
