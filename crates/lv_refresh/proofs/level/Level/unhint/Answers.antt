-- Proof of `Level::unhint`: takes the hint at a node away.
use Rattle.std.proofs.Common.{refl}
use Rattle.lv_refresh.proofs.level.Level.unhint.Goals as goal

pub returns : goal.returns
returns c = rw (← c.self.view_is) record { claimed = refl; hints = c.clear.ensures.marks; room = c.clear.ensures.room; lighter = c.clear.ensures.lighter }
