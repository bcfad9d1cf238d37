-- Proof of `Marks::clear`: takes the mark of a number away.
use Rattle.std.proofs.Common.{◌/◌}
use Rattle.std.proofs.lemmas.List.{get_or_read}
use Rattle.lv_refresh.proofs.MarkLaws.{clear_lighter, is_marked-clear, word_inside}
use Rattle.lv_refresh.proofs.OverLaws.{AreMarks-clear}
use Rattle.lv_refresh.proofs.marks.MarksUpper.clear.Goals as goal

pub invariant_of-self : goal.invariant_of-self
invariant_of-self g c =
    let words = c.self.inside.words.items in
    let inside = word_inside words c.args.i (rw (← c.self.view_is) at c.requires) in
    AreMarks-clear words (g.U.Upper.words c.self.inside.over) c.self.invariant (g.U.Upper.words c.clear.new.self) (c.args.i / 64) _ inside c.if-rest-eq0.true c.clear.ensures.room c.clear.ensures.marks

pub returns-then-rest-eq0-clause-marks : goal.returns-then-rest-eq0-clause-marks
returns-then-rest-eq0-clause-marks g c =
    let words = c.self.inside.words.items in
    let inside = word_inside words c.args.i (rw (← c.self.view_is) at c.requires) in
    λ j. rw (← c.self.view_is) (is_marked-clear words c.args.i c.index.result.now j inside (get_or_read words _ _ inside c.index.ensures 0))

pub returns-else-rest-eq0-clause-marks : goal.returns-else-rest-eq0-clause-marks
returns-else-rest-eq0-clause-marks g c =
    let words = c.self.inside.words.items in
    let inside = word_inside words c.args.i (rw (← c.self.view_is) at c.requires) in
    λ j. rw (← c.self.view_is) (is_marked-clear words c.args.i c.index.result.now j inside (get_or_read words _ _ inside c.index.ensures 0))

pub returns-then-rest-eq0-clause-lighter : goal.returns-then-rest-eq0-clause-lighter
returns-then-rest-eq0-clause-lighter g c =
    let words = c.self.inside.words.items in
    let inside = word_inside words c.args.i (rw (← c.self.view_is) at c.requires) in
    rw (← c.self.view_is) (clear_lighter words c.args.i c.index.result.now inside (get_or_read words _ _ inside c.index.ensures 0))

pub returns-else-rest-eq0-clause-lighter : goal.returns-else-rest-eq0-clause-lighter
returns-else-rest-eq0-clause-lighter g c =
    let words = c.self.inside.words.items in
    let inside = word_inside words c.args.i (rw (← c.self.view_is) at c.requires) in
    rw (← c.self.view_is) (clear_lighter words c.args.i c.index.result.now inside (get_or_read words _ _ inside c.index.ensures 0))
