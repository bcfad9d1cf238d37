-- What the loop keeps in `follow_writes`: takes note of writes that were made at indices, after so many edits, one by one.
use Rattle.std.proofs.Common.{take}
use Rattle.lv_live.specs.Written.{WritesFollow}
use Rattle.lv_live.proofs.writing.follow_writes.Given as goal

-- the writes so far are followed
abbrev pub invariant-loop-place : goal.invariant-loop-place
invariant-loop-place g l = WritesFollow l.fn.table l.table l.fn.claims l.claims (take l.place l.indices) l.edit
