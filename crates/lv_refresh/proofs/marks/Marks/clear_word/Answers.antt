-- Proof of `Marks::clear_word`: takes the marks of 64 numbers away, those of a word.
use Rattle.std.proofs.Common.{refl}
use Rattle.lv_refresh.proofs.MarkLaws.{is_marked-cleared}
use Rattle.lv_refresh.proofs.OverLaws.{AreMarks-clear}
use Rattle.lv_refresh.proofs.marks.Marks.clear_word.Goals as goal

pub invariant_of-self : goal.invariant_of-self
invariant_of-self g c =
    AreMarks-clear c.self.inside.words.items (g.U.Upper.words c.self.inside.over) c.self.invariant (g.U.Upper.words c.clear.new.self) c.args.word 0 (rw (← c.self.view_is) at c.requires) refl c.clear.ensures.room c.clear.ensures.marks

pub returns-clause-marks : goal.returns-clause-marks
returns-clause-marks g c = λ j. rw (← c.self.view_is) (is_marked-cleared c.self.inside.words.items c.args.word j (rw (← c.self.view_is) at c.requires))
