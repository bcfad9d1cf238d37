-- Proof of `FoldTree::turn_down`: the place behind the last leaf with which a test becomes true.
use Rattle.std.proofs.Common.{◌≡◌, ◌+◌, ◌-◌, ◌≤◌, refl, sym, ap, ◌∙◌, arith}
use Rattle.lv_tree.proofs.Found.{turn_back_folds, turn_back_sum}
use Rattle.lv_tree.proofs.Seen.{counted}
use Rattle.lv_tree.proofs.trees.FoldTree.turn_down.Goals as goal

pub find_turn-place-requires-clause-folds : goal.find_turn-place-requires-clause-folds
find_turn-place-requires-clause-folds g c =
    let inside = c.self.inside in
    let now = c.args.self.now in
    let xs = inside.cells.items in
    let k = counted now inside.body inside.first inside.room inside.lo inside.hi xs c.self.view_is c.self.invariant.inside in
    let a = c.args.from + inside.lo in
    let b = c.args.to + inside.lo in
    let high : b ≤ inside.hi = omega (arith, k.1, c.requires.last, c.self.invariant.order) in
    turn_back_folds g.B.Body.operations now inside.body inside.first inside.room inside.lo inside.hi xs c.self.view_is c.args.from c.args.to a b refl refl high c.as_slice.result.now c.as_slice.ensures.value c.args.end c.requires.folds

pub returns-clause-sum : goal.returns-clause-sum
returns-clause-sum g c =
    let inside = c.self.inside in
    let now = c.args.self.now in
    let xs = inside.cells.items in
    let t = c.find_turn-place.ensures in
    let at = c.find_turn-place.result.at in
    let k = counted now inside.body inside.first inside.room inside.lo inside.hi xs c.self.view_is c.self.invariant.inside in
    let b = c.args.to + inside.lo in
    let here : at - inside.lo + inside.lo ≡ at = omega (arith, t.low) in
    let high : b ≤ inside.hi = omega (arith, k.1, c.requires.last, c.self.invariant.order) in
    t.sum_is ∙ turn_back_sum g.B.Body.operations now inside.body inside.first inside.room inside.lo inside.hi xs c.self.view_is (at - inside.lo) c.args.to at b here refl high c.as_slice.result.now c.as_slice.ensures.value c.args.end

pub returns-clause-before : goal.returns-clause-before
returns-clause-before g c some =
    let t = c.find_turn-place.ensures in
    ap (g.T.Test.passes c.args.test.now) t.sum_is ∙ t.before (omega (arith, some, t.low))

pub returns-clause-after : goal.returns-clause-after
returns-clause-after g c some =
    let inside = c.self.inside in
    let now = c.args.self.now in
    let xs = inside.cells.items in
    let t = c.find_turn-place.ensures in
    let at = c.find_turn-place.result.at in
    let k = counted now inside.body inside.first inside.room inside.lo inside.hi xs c.self.view_is c.self.invariant.inside in
    let b = c.args.to + inside.lo in
    let here : at - inside.lo - 1 + inside.lo ≡ at - 1 = omega (arith, t.low, some) in
    let high : b ≤ inside.hi = omega (arith, k.1, c.requires.last, c.self.invariant.order) in
    let is = turn_back_sum g.B.Body.operations now inside.body inside.first inside.room inside.lo inside.hi xs c.self.view_is (at - inside.lo - 1) c.args.to (at - 1) b here refl high c.as_slice.result.now c.as_slice.ensures.value c.args.end in
    ap (g.T.Test.passes c.args.test.now) (sym is) ∙ t.after (omega (arith, some, t.low))
