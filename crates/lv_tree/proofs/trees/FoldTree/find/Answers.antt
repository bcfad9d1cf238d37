-- Proof of `FoldTree::find`: the first leaf with which a test becomes true.
use Rattle.std.proofs.Common.{◌+◌, ◌-◌, ◌≤◌, refl, arith}
use Rattle.lv_tree.proofs.Found.{found_folds, found_none, found_turn}
use Rattle.lv_tree.proofs.Seen.{counted}
use Rattle.lv_tree.proofs.trees.FoldTree.find.Goals as goal

pub find_turn-place-requires-clause-folds : goal.find_turn-place-requires-clause-folds
find_turn-place-requires-clause-folds g c =
    let inside = c.self.inside in
    let now = c.args.self.now in
    let xs = inside.cells.items in
    let k = counted now inside.body inside.first inside.room inside.lo inside.hi xs c.self.view_is c.self.invariant.inside in
    let a = c.args.from - inside.first + inside.lo in
    let b = c.args.to - inside.first + inside.lo in
    let high : b ≤ inside.hi = omega (arith, k.0, k.1, c.requires.first, c.requires.order, c.requires.last, c.self.invariant.order) in
    found_folds g.B.Body.operations now inside.body inside.first inside.room inside.lo inside.hi xs c.self.view_is c.args.from c.args.to a b refl refl high c.args.start c.as_slice.result.now c.as_slice.ensures.value c.requires.folds

pub returns-then-place-b-clause-turn : goal.returns-then-place-b-clause-turn
returns-then-place-b-clause-turn g c =
    let inside = c.self.inside in
    let place = c.find_turn-place.result in
    let now = c.args.self.now in
    let xs = inside.cells.items in
    let k = counted now inside.body inside.first inside.room inside.lo inside.hi xs c.self.view_is c.self.invariant.inside in
    let a = c.args.from - inside.first + inside.lo in
    let b = c.args.to - inside.first + inside.lo in
    let high : b ≤ inside.hi = omega (arith, k.0, k.1, c.requires.first, c.requires.order, c.requires.last, c.self.invariant.order) in
    found_none g.B.Body.operations now inside.body inside.first inside.room inside.lo inside.hi xs c.self.view_is c.args.from c.args.to a b refl refl high (g.T.Test.passes c.args.test.now) c.args.start c.as_slice.result.now place.at place.sum c.as_slice.ensures.value (omega (arith, c.if-place-b.true)) c.find_turn-place.ensures

pub returns-clause-turn : goal.returns-clause-turn
returns-clause-turn g c =
    let inside = c.self.inside in
    let place = c.find_turn-place.result in
    let now = c.args.self.now in
    let xs = inside.cells.items in
    let k = counted now inside.body inside.first inside.room inside.lo inside.hi xs c.self.view_is c.self.invariant.inside in
    let a = c.args.from - inside.first + inside.lo in
    let b = c.args.to - inside.first + inside.lo in
    let high : b ≤ inside.hi = omega (arith, k.0, k.1, c.requires.first, c.requires.order, c.requires.last, c.self.invariant.order) in
    found_turn g.B.Body.operations now inside.body inside.first inside.room inside.lo inside.hi xs c.self.view_is c.args.from c.args.to a b refl refl high (g.T.Test.passes c.args.test.now) c.args.start c.as_slice.result.now place.at (c.args.from + (place.at - a) - c.args.from) place.sum c.as_slice.ensures.value c.self.invariant.inside (omega arith) (omega (arith, c.if-place-b.false, c.find_turn-place.ensures.high)) c.find_turn-place.ensures
