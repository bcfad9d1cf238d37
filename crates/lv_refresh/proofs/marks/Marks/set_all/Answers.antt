-- Proof of `Marks::set_all`: marks every number that there is room for.
use Rattle.std.proofs.Common.{arith}
use Rattle.lv_refresh.proofs.MarkLaws.{is_marked-ones}
use Rattle.lv_refresh.proofs.marks.Marks.set_all.Goals as goal

pub returns-clause-marks : goal.returns-clause-marks
returns-clause-marks g c =
    λ j room.
    rw (c.fill.ensures.items (λ y same. same)) (is_marked-ones c.self.inside.words.len j (omega (arith, rw (← c.self.view_is) at room, c.self.inside.words.ok.0)))
