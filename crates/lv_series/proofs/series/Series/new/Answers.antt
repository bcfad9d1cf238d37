-- Proof of `Series::new`: no elements, and no trees over them.
use Rattle.std.proofs.Common.{sym, subst, arith}
use Rattle.std.proofs.lemmas.List.Elements.{All-nil}
use Rattle.lv_geometry.specs.Elements.{IsElement}
use Rattle.lv_series.specs.Blocks.{IsWindow}
use Rattle.lv_series.proofs.series.Series.new.Goals as goal

pub invariant_of-result : goal.invariant_of-result
invariant_of-result c = (
  subst (IsWindow 0 0) (sym c.new.ensures.items) (record { low = omega arith; high = omega arith; all = All-nil IsElement; few = omega arith; numbered = omega arith }),
  c.new-2.ensures.over 0 0 c.new.result.items,
)
