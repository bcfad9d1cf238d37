-- What the loop keeps in `Replay::bring_up`: makes the edits of a journal up to one of them.
use Rattle.std.proofs.Common.{◌≡◌, take}
use Rattle.lv_edits.specs.History.{list_of}
use Rattle.lv_transcript.specs.Blocks.{AreKept}
use Rattle.lv_transcript.proofs.plain_ranges.Replay.bring_up.Given as goal

-- the edits before i were made
abbrev pub invariant-loop-i : goal.invariant-loop-i
invariant-loop-i l = record { reached : l.self.edit ≡ l.i; list : l.self.list.items ≡ list_of (take l.i l.journal); kept : AreKept l.self.folds l.self.list.items }
