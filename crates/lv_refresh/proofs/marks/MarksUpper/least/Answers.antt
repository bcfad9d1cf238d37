-- Proof of `Marks::least`: the least number that is marked.
use Rattle.std.proofs.Common.{◌<◌, ◌^◌, arith}
use Rattle.std.proofs.lemmas.List.{get_or_read}
use Rattle.std.proofs.lemmas.Nat.{trailing_le}
use Rattle.lv_refresh.proofs.OverLaws.{least_below, marked_inside}
use Rattle.lv_refresh.proofs.marks.MarksUpper.least.Goals as goal

pub overflow_add-result : goal.overflow_add-result
overflow_add-result g c =
    let words = c.self.inside.words.items in
    let inside = marked_inside (g.U.Upper.words c.self.inside.over) words c.in-Some.word c.self.invariant.over_is c.in-Some.ensures.marked in
    omega (arith, inside, c.self.invariant.few, trailing_le 64 c.index.result.now)

pub returns-clause-marked : goal.returns-clause-marked
returns-clause-marked g c =
    let words = c.self.inside.words.items in
    let inside = marked_inside (g.U.Upper.words c.self.inside.over) words c.in-Some.word c.self.invariant.over_is c.in-Some.ensures.marked in
    let small : c.index.result.now < 2 ^ 64 = omega arith in
    rw (← c.self.view_is) (least_below (g.U.Upper.words c.self.inside.over) words c.self.invariant.over_is c.in-Some.word c.index.result.now c.in-Some.ensures.marked c.in-Some.ensures.least (get_or_read words _ _ inside c.index.ensures 0) small).marked

pub returns-clause-room : goal.returns-clause-room
returns-clause-room g c =
    let words = c.self.inside.words.items in
    let inside = marked_inside (g.U.Upper.words c.self.inside.over) words c.in-Some.word c.self.invariant.over_is c.in-Some.ensures.marked in
    let small : c.index.result.now < 2 ^ 64 = omega arith in
    rw (← c.self.view_is) (least_below (g.U.Upper.words c.self.inside.over) words c.self.invariant.over_is c.in-Some.word c.index.result.now c.in-Some.ensures.marked c.in-Some.ensures.least (get_or_read words _ _ inside c.index.ensures 0) small).room

pub returns-clause-least : goal.returns-clause-least
returns-clause-least g c =
    let words = c.self.inside.words.items in
    let inside = marked_inside (g.U.Upper.words c.self.inside.over) words c.in-Some.word c.self.invariant.over_is c.in-Some.ensures.marked in
    let small : c.index.result.now < 2 ^ 64 = omega arith in
    rw (← c.self.view_is) (least_below (g.U.Upper.words c.self.inside.over) words c.self.invariant.over_is c.in-Some.word c.index.result.now c.in-Some.ensures.marked c.in-Some.ensures.least (get_or_read words _ _ inside c.index.ensures 0) small).least
