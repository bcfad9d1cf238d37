-- Loop invariants of `Desk::begin`: makes updates, one after the other, with a share that has all parts and counts none, so that they are all
-- updates that there are.
use Rattle.std.proofs.Common.{◌≡◌, take}
use Rattle.lv_hub.proofs.desks.Desk.begin.Given as goal

-- the updates so far are all that there are
abbrev pub invariant-loop-edit : goal.invariant-loop-edit
invariant-loop-edit g l =
    record {
      edits : l.self.edits ≡ take l.edit-index l.edits;
      share : l.share ≡ record l.fn.share { count = l.edit-index; seen = take l.edit-index l.edits };
    }
