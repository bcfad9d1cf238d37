-- Proof of `Claims::hint_above`: hints at the node one level up, if there is one.
use Rattle.std.proofs.Common.{◌≡◌, ◌+◌, ◌≤◌, ap, arith, length, sym}
use Rattle.lv_geometry.proofs.NodeLaws.{level_of_node}
use Rattle.lv_refresh.proofs.HintLaws.{AreClaims-hinted, HintsLevel-one, HintsNode-by_rows}
use Rattle.lv_refresh.proofs.RowLaws.{hint_of_parent, rows_at-thing}
use Rattle.lv_refresh.proofs.claims.Claims.hint_above.Goals as goal

pub at_mut-requires-clause-low : goal.at_mut-requires-clause-low
at_mut-requires-clause-low c = omega (arith, ap (λ n. n.level) c.parent-above.ensures)

pub hint-requires : goal.hint-requires
hint-requires c =
    let k = c.parent-above.result.level in
    let next : k ≡ c.args.node.level + 1 = ap (λ n. n.level) c.parent-above.ensures in
    let some : 1 ≤ c.args.node.level = (level_of_node c.args.node c.requires.member).0 in
    let room = hint_of_parent _ c.args.node k c.self.invariant (rw (← c.self.view_is) at c.requires.inside) (omega arith) (omega arith) c.if-above-le6.true in
    let rows = ap (λ rows. length rows.hints) (rows_at-thing c.self.inside.levels k (omega arith) c.if-above-le6.true) in
    omega (arith, room, rows, ap (λ changed. length changed.rows.hints) c.at_mut.ensures.thing, ap (λ n. n.number) c.parent-above.ensures)

pub invariant_of-self : goal.invariant_of-self
invariant_of-self c =
    let k = c.parent-above.result.level in
    let low : 1 ≤ k = omega (arith, ap (λ n. n.level) c.parent-above.ensures) in
    AreClaims-hinted _ _ k c.parent-above.result.number
    (HintsLevel-one c.self.inside.levels k c.parent-above.result.number c.hint.new.self low c.if-above-le6.true (rw c.at_mut.ensures.thing at c.hint.ensures))
    c.self.invariant

pub returns-then-above-le6 : goal.returns-then-above-le6
returns-then-above-le6 c =
    let k = c.parent-above.result.level in
    let low : 1 ≤ k = omega (arith, ap (λ n. n.level) c.parent-above.ensures) in
    rw (← c.self.view_is) (
    HintsNode-by_rows _ _ k c.parent-above.result.number
    (HintsLevel-one c.self.inside.levels k c.parent-above.result.number c.hint.new.self low c.if-above-le6.true (rw c.at_mut.ensures.thing at c.hint.ensures))
    _ (sym (ap (λ n. n.level) c.parent-above.ensures)) (sym (ap (λ n. n.number) c.parent-above.ensures)))
