-- Proof of `forget`: without the elements before an index, and the leaves of their blocks.
use Rattle.std.proofs.Common.{◌≡◌, ◌+◌, ◌-◌, ◌*◌, ◌/◌, sym, subst, arith, drop}
use Rattle.lv_series.specs.Trees.{AreOver, from_blocks}
use Rattle.lv_series.proofs.TreeLaws.{all_expired}
use Rattle.lv_series.proofs.blocks.forget.Goals as goal

pub returns-then-gone-len-clause-over : goal.returns-then-gone-len-clause-over
returns-then-gone-len-clause-over c =
    let xs = c.args.elements.now.items in
    let none : c.args.base + 0 ≡ c.args.base = omega arith in
    subst (AreOver c.args.base c.args.to xs) (sym c.expire.ensures)
    (subst (λ k. AreOver k c.args.to xs (from_blocks (c.args.to / 8) c.args.trees.now)) none
    (all_expired c.args.base c.args.first xs c.requires.window c.args.trees.now c.requires.over c.args.to c.requires.low c.requires.high 0 (omega arith)))

pub shrink-requires-clause-over : goal.shrink-requires-clause-over
shrink-requires-clause-over c =
    let xs = c.args.elements.now.items in
    let whole = (c.args.to - 8 * c.args.base) / 8 in
    subst (λ ys. AreOver (c.args.base + whole) c.args.to ys c.expire.new.self) (sym c.remove_and_shrink.ensures)
    (subst (AreOver (c.args.base + whole) c.args.to (drop (8 * whole) xs)) (sym c.expire.ensures)
    (all_expired c.args.base c.args.first xs c.requires.window c.args.trees.now c.requires.over c.args.to c.requires.low c.requires.high whole (omega arith)))
