-- What the loop keeps in `remake`: makes edits one after the other, up to the first that is refused.
use Rattle.std.proofs.Common.{◌≡◌, ◌+◌, drop, length}
use Rattle.lv_edits.specs.Batches.{verdict_of_edits, with_edits}
use Rattle.lv_edits.specs.Kept.{IsLegalInLimits}
use Rattle.lv_live.specs.State.{SameRefresh}
use Rattle.livevec_c.specs.Written.{accepted_before}
use Rattle.livevec_c.proofs.restores.remake.Given as goal

-- what becomes of those that are left is what becomes of all
abbrev pub invariant-loop-edit : goal.invariant-loop-edit
invariant-loop-edit l =
    record {
      left : verdict_of_edits l.vector.history (drop l.edit-index l.edits) ≡ verdict_of_edits l.initial.vector.history l.edits;
      made : with_edits l.vector.history (drop l.edit-index l.edits) ≡ with_edits l.initial.vector.history l.edits;
      count : length l.vector.history.journal + accepted_before l.vector.history (drop l.edit-index l.edits) ≡ length l.initial.vector.history.journal + accepted_before l.initial.vector.history l.edits;
      refresh : SameRefresh l.initial.vector l.vector;
      limits : IsLegalInLimits l.vector.history;
    }
