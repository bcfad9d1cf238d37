-- What the loop keeps in `make_all`: the updates so far were made one after the other; the only error is `NoMemory`.
use Rattle.std.proofs.Common.{◌≡◌, take}
use Rattle.lv_edits.specs.Kept.{IsLegalInLimits}
use Rattle.lv_live.specs.State.{SameRefresh}
use Rattle.lv_script.proofs.RestoredLaws.{with_edits}
use Rattle.lv_script.proofs.restored.make_all.Given as goal

-- the edits so far were made
abbrev pub invariant-loop-edit : goal.invariant-loop-edit
invariant-loop-edit l =
    record {
      history : l.standing.live.history ≡ with_edits l.initial.standing.live.history (take l.edit-index l.edits);
      refresh : SameRefresh l.initial.standing.live l.standing.live;
      queries : l.standing.queries ≡ l.initial.standing.queries;
      limits : IsLegalInLimits l.standing.live.history;
    }
