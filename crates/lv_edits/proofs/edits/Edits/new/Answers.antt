-- Proof of `Edits::new`: an empty vector, with no bucket open.
use Rattle.lv_edits.proofs.HoldsLaws.{HoldsReplay-empty}
use Rattle.lv_edits.proofs.edits.Edits.new.Goals as goal

pub invariant_of-result : goal.invariant_of-result
invariant_of-result c =
    rw (c.new.ensures.state, c.empty.ensures) (HoldsReplay-empty c.args.limits (rw c.new.ensures.state at c.new.ensures.sound))

pub returns-clause-limits : goal.returns-clause-limits
returns-clause-limits c = (invariant_of-result c).kept
