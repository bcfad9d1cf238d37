-- Proof of `Edits::settle`: completes the write of the last edit, if it is still pending.
use Rattle.lv_store.proofs.ElementsLaws.{settled_alike}
use Rattle.lv_edits.specs.Inner.{noted}
use Rattle.lv_edits.proofs.HoldsLaws.{HoldsReplay-alike}
use Rattle.lv_edits.proofs.edits.Edits.settle.Goals as goal

pub invariant_of-self : goal.invariant_of-self
invariant_of-self c =
    let held = c.self.invariant in
    let settled = settled_alike c.self.inside.store held.sound in
    rw c.settle.ensures.state
    (HoldsReplay-alike _ _ (noted c.self.inside.journal) held settled.0 settled.1 settled.2 (rw c.settle.ensures.state at c.settle.ensures.sound))
