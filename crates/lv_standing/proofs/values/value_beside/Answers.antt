-- Proof of `value_beside`: the value of a kind over the elements from index `lo` up to `hi`, at the last edit.
use Rattle.std.proofs.Common.{◌≤◌, ◌+◌, Result, Ok, Err, IfOk, arith, inl}
use Rattle.lv_tree.proofs.KeptLaws.{near_short}
use Rattle.lv_standing.proofs.values.value_beside.Goals as goal

-- a fact also holds if a call succeeds
where_ok : {T E : Type 0} (P : Type 0) (result : Result T E) → P → IfOk result (λ _. P)
where_ok P (Ok x) holds = holds
where_ok P (Err e) holds = tt

pub returns-then-saturating_sub-le-SHORT-clause-caught_up : goal.returns-then-saturating_sub-le-SHORT-clause-caught_up
returns-then-saturating_sub-le-SHORT-clause-caught_up g c =
    let short : c.args.hi ≤ c.args.lo + 64 = omega (arith, c.saturating_sub.ensures, c.if-saturating_sub-le-SHORT.true) in
    where_ok _ c.folded.result (inl (near_short c.args.kind c.args.lo c.args.hi c.args.kinds.now short))
