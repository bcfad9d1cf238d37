-- Proof of `Level::unhint_word`: takes the hints at 64 nodes away, those of a word.
use Rattle.std.proofs.Common.{refl}
use Rattle.lv_refresh.proofs.level.Level.unhint_word.Goals as goal

pub returns : goal.returns
returns c = rw (← c.self.view_is) record { claimed = refl; hints = c.clear_word.ensures.marks; room = c.clear_word.ensures.room }
