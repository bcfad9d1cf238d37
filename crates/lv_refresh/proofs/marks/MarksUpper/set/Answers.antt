-- Proof of `Marks::set`: marks a number.
use Rattle.std.proofs.lemmas.List.{get_or_read}
use Rattle.lv_refresh.proofs.MarkLaws.{is_marked-set, word_inside}
use Rattle.lv_refresh.proofs.OverLaws.{AreMarks-more, AreMarks-set}
use Rattle.lv_refresh.proofs.marks.MarksUpper.set.Goals as goal

pub invariant_of-self : goal.invariant_of-self
invariant_of-self g c =
    let words = c.self.inside.words.items in
    let inside = word_inside words c.args.i (rw (← c.self.view_is) at c.requires) in
    AreMarks-set words (g.U.Upper.words c.self.inside.over) c.self.invariant (g.U.Upper.words c.set.new.self) c.args.i c.index-word.result.now inside c.set.ensures.room c.set.ensures.marks

pub invariant_of-self-else-word-eq0 : goal.invariant_of-self-else-word-eq0
invariant_of-self-else-word-eq0 g c =
    let words = c.self.inside.words.items in
    let inside = word_inside words c.args.i (rw (← c.self.view_is) at c.requires) in
    AreMarks-more words (g.U.Upper.words c.self.inside.over) c.self.invariant c.args.i c.index-word.result.now inside (get_or_read words _ _ inside c.index-word.ensures 0) c.if-word-eq0.false

pub returns-then-word-eq0-clause-marks : goal.returns-then-word-eq0-clause-marks
returns-then-word-eq0-clause-marks g c =
    let words = c.self.inside.words.items in
    let inside = word_inside words c.args.i (rw (← c.self.view_is) at c.requires) in
    λ j. rw (← c.self.view_is) (is_marked-set words c.args.i c.index-word.result.now j inside (get_or_read words _ _ inside c.index-word.ensures 0))

pub returns-else-word-eq0-clause-marks : goal.returns-else-word-eq0-clause-marks
returns-else-word-eq0-clause-marks g c =
    let words = c.self.inside.words.items in
    let inside = word_inside words c.args.i (rw (← c.self.view_is) at c.requires) in
    λ j. rw (← c.self.view_is) (is_marked-set words c.args.i c.index-word.result.now j inside (get_or_read words _ _ inside c.index-word.ensures 0))
