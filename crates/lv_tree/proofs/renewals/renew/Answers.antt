-- Proof of `renew`: makes each node over a leaf the join of the two below it.
use Rattle.std.proofs.Common.{sym, ◌+◌, ◌*◌, ◌/◌, ◌<◌, ◌≤◌, ◌∙◌, length, arith, inl, inr}
use Rattle.lv_tree.proofs.Nodes.{IsPast, below_inside, goes_up, halves, parent, renewed, starts}
use Rattle.std.proofs.lemmas.Bool.{cases_lt}
use Rattle.std.proofs.lemmas.List.{get_or_read}
use Rattle.lv_tree.proofs.Stops.{stops}
use Rattle.lv_tree.proofs.renewals.renew.Goals as goal

pub up-init : goal.up-init
up-init g c =
    let body = c.args.body.now in
    let given = c.requires in
    starts (g.B.Joins.operations body) (g.B.Joins.is_within body) c.join_laws.ensures c.args.lo c.args.hi c.args.at given.octave c.args.cells.now given.folds given.low given.high given.inside given.but

pub is_past-requires : goal.is_past-requires
is_past-requires g c =
    let over = parent c.up.node c.up.width c.args.at c.up.invariant.low c.up.invariant.high in
    omega (arith, over.0, c.requires.high)

pub returns-then-is_past-clause-tree : goal.returns-then-is_past-clause-tree
returns-then-is_past-clause-tree g c =
    let body = c.args.body.now in
    let past : IsPast c.args.lo c.args.hi c.up.node c.up.width = elim (cases_lt (c.up.node / 2 * (c.up.width * 2)) c.args.lo) [
      | inl before ↦ inl before
      | inr low ↦ inr (c.is_past.ensures.past c.if-is_past.true low)
    ] in
    renewed (g.B.Joins.operations body) c.args.lo c.args.hi c.args.at c.requires.octave c.args.cells.now c.up.cells c.up.node c.up.width c.up.invariant past

pub join_below-next-requires-clause-inside : goal.join_below-next-requires-clause-inside
join_below-next-requires-clause-inside g c =
    let start = c.is_past.ensures.low c.if-is_past.false in
    let end : c.up.node / 2 * (c.up.width * 2) + c.up.width * 2 ≤ c.args.hi = c.is_past.ensures.high c.if-is_past.false in
    let near = below_inside c.args.lo c.args.hi c.up.node c.up.width c.up.invariant.level c.up.invariant.wide end in
    omega (arith, near, c.requires.inside, c.up.auto.cells)

pub join_below-next-requires-clause-may : goal.join_below-next-requires-clause-may
join_below-next-requires-clause-may g c =
    let body = c.args.body.now in
    let start = c.is_past.ensures.low c.if-is_past.false in
    let end : c.up.node / 2 * (c.up.width * 2) + c.up.width * 2 ≤ c.args.hi = c.is_past.ensures.high c.if-is_past.false in
    (halves (g.B.Joins.operations body) (g.B.Joins.is_within body) c.join_laws.ensures c.args.lo c.args.hi c.args.at c.requires.octave c.args.cells.now c.requires.folds c.up.cells c.up.node c.up.width c.up.invariant start end).may

pub up-preserved : goal.up-preserved
up-preserved g c =
    let body = c.args.body.now in
    let o = g.B.Joins.operations body in
    let start = c.is_past.ensures.low c.if-is_past.false in
    let end : c.up.node / 2 * (c.up.width * 2) + c.up.width * 2 ≤ c.args.hi = c.is_past.ensures.high c.if-is_past.false in
    let near = below_inside c.args.lo c.args.hi c.up.node c.up.width c.up.invariant.level c.up.invariant.wide end in
    let h = halves o (g.B.Joins.is_within body) c.join_laws.ensures c.args.lo c.args.hi c.args.at c.requires.octave c.args.cells.now c.requires.folds c.up.cells c.up.node c.up.width c.up.invariant start end in
    goes_up o (g.B.Joins.is_within body) c.join_laws.ensures c.args.lo c.args.hi c.args.at c.requires.octave c.args.cells.now c.requires.folds c.up.cells c.up.node c.up.width c.join_below-next.result c.up.invariant start end (omega (arith, near, c.requires.inside, c.up.auto.cells)) (c.join_below-next.ensures ∙ h.is)

pub returns-then-settles-clause-tree : goal.returns-then-settles-clause-tree
returns-then-settles-clause-tree g c =
    let body = c.args.body.now in
    let o = g.B.Joins.operations body in
    let start = c.is_past.ensures.low c.if-is_past.false in
    let end : c.up.node / 2 * (c.up.width * 2) + c.up.width * 2 ≤ c.args.hi = c.is_past.ensures.high c.if-is_past.false in
    let near = below_inside c.args.lo c.args.hi c.up.node c.up.width c.up.invariant.level c.up.invariant.wide end in
    let inside : c.up.node / 2 < length c.up.cells = omega (arith, near, c.requires.inside, c.up.auto.cells) in
    let h = halves o (g.B.Joins.is_within body) c.join_laws.ensures c.args.lo c.args.hi c.args.at c.requires.octave c.args.cells.now c.requires.folds c.up.cells c.up.node c.up.width c.up.invariant start end in
    let was = c.requires.was (c.settles.ensures.known c.if-settles.true) in
    let stays = sym (get_or_read c.up.cells (c.up.node / 2) _ inside c.index-cells-node.is o.identity) ∙ c.settles.ensures.same c.if-settles.true in
    stops o (g.B.Joins.is_within body) c.join_laws.ensures c.args.lo c.args.hi c.args.at c.requires.octave c.requires.low c.args.cells.now c.requires.folds was c.up.cells c.up.node c.up.width c.join_below-next.result c.up.invariant start end (c.join_below-next.ensures ∙ h.is) stays
