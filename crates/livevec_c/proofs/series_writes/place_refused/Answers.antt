-- Proof of `place_refused`: the place of the first of some writes, one after another, that would be refused; 0 if none would be.
use Rattle.std.proofs.Common.{◌-◌, true, false, get_or, sym, ap, ◌∙◌, arith}
use Rattle.std.specs.Prelude.{is_err}
use Rattle.lv_series.specs.Series.{size_of}
use Rattle.livevec_c.proofs.SeriesWriteLaws.{free_before_first, free_before_next, kept_or_not, told_none, told_out, told_worn}
use Rattle.livevec_c.proofs.series_writes.place_refused.Goals as goal

pub loop-place-init : goal.loop-place-init
loop-place-init c = free_before_first _ _ _ c.args.indices.now

pub loop-place-preserved : goal.loop-place-preserved
loop-place-preserved c =
    let s = c.args.series.now in
    let kept = kept_or_not s.held (get_or c.args.indices.now c.loop-place.place 0) false (sym c.if-is_err.false ∙ c.is_err.ensures.value ∙ ap is_err c.get.ensures) in
    free_before_next s.held.first (size_of s.held) _ c.loop-place.place c.args.indices.now c.loop-place-test.true c.loop-place.invariant c.if-place-left.false kept

pub returns-then-place-left : goal.returns-then-place-left
returns-then-place-left c xs paired =
    told_worn c.args.series.now c.args.indices.now xs paired (omega (arith, c.edits-left.ensures, c.edits-left.type_inv)) (18446744073709551615 - c.edits-left.result) c.loop-place.place (ap (λ n. 18446744073709551615 - n) c.edits-left.ensures) c.loop-place.invariant c.loop-place-test.true
    c.if-place-left.true

pub returns-then-is_err : goal.returns-then-is_err
returns-then-is_err c xs paired =
    let s = c.args.series.now in
    let out = kept_or_not s.held (get_or c.args.indices.now c.loop-place.place 0) true (sym c.if-is_err.true ∙ c.is_err.ensures.value ∙ ap is_err c.get.ensures) in
    told_out s c.args.indices.now xs paired (omega (arith, c.edits-left.ensures, c.edits-left.type_inv)) (18446744073709551615 - c.edits-left.result) c.loop-place.place (ap (λ n. 18446744073709551615 - n) c.edits-left.ensures) c.loop-place.invariant c.loop-place-test.true c.if-place-left.false
    out

pub returns : goal.returns
returns c xs paired =
    told_none c.args.series.now c.args.indices.now xs paired (omega (arith, c.edits-left.ensures, c.edits-left.type_inv)) (18446744073709551615 - c.edits-left.result) c.loop-place.place (ap (λ n. 18446744073709551615 - n) c.edits-left.ensures) c.loop-place.invariant c.loop-place-test.false
