-- Proof of `fold_block`: the fold of the elements of a whole block, which are only copied if a write among them is pending.
use Rattle.std.proofs.Common.{◌+◌, ◌*◌, ◌^◌, ◌≤◌, arith}
use Rattle.std.proofs.lemmas.Bool.{and_parts, leb-true}
use Rattle.lv_geometry.specs.Nodes.{is_below, is_node}
use Rattle.lv_refresh.proofs.computing.fold_block.Goals as goal

pub overflow_mul-first : goal.overflow_mul-first
overflow_mul-first g c =
    let below : (c.args.block.number + 1) * 8 ^ c.args.block.level ≤ c.args._table.now.size = leb-true ((c.args.block.number + 1) * 8 ^ c.args.block.level) c.args._table.now.size (and_parts (is_node c.args.block) (is_below c.args.block c.args._table.now.size) c.requires.whole).1 in
    let eighth = rw c.requires.level at below in
    omega (arith, eighth, c.requires.agrees.size, c.size-size.ensures.limits.few)

pub overflow_add-first : goal.overflow_add-first
overflow_add-first g c =
    let below : (c.args.block.number + 1) * 8 ^ c.args.block.level ≤ c.args._table.now.size = leb-true ((c.args.block.number + 1) * 8 ^ c.args.block.level) c.args._table.now.size (and_parts (is_node c.args.block) (is_below c.args.block c.args._table.now.size) c.requires.whole).1 in
    let eighth = rw c.requires.level at below in
    omega (arith, eighth, c.requires.agrees.size, c.size-size.ensures.limits.few)
