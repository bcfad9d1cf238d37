-- The place of each word of the lock-free form: the descriptor first, then 16 places for each block.
use Rattle.std.specs.Prelude.{ℕ, ◌+◌, ◌-◌, ◌*◌, ◌/◌, ◌%◌}
use Rattle.lv_geometry.specs.Bounds.{Bounds}
use Rattle.lv_machine.specs.Terms.{blocks_of}

-- Place r of block b: 0 to 7 for its cells, 8 for its mark, and from 9 on for its parts.
unfoldable pub place : ℕ → ℕ → ℕ
place b r = 1 + 16 * b + r

-- The place of the cell of an index.
abbrev pub cell_place : ℕ → ℕ
cell_place i = place (i / 8) (i % 8)

-- The place of a block's mark.
abbrev pub mark_place : ℕ → ℕ
mark_place b = place b 8

-- The place of a part of a block's aggregate.
abbrev pub part_place : ℕ → ℕ → ℕ
part_place b p = place b (9 + p)

-- The block of the word at a place, and which of the block's words it is.
abbrev pub block_at : ℕ → ℕ
block_at at = (at - 1) / 16

abbrev pub row_at : ℕ → ℕ
row_at at = (at - 1) % 16

-- The number of words.
abbrev pub count_of : Bounds → ℕ
count_of limits = 1 + 16 * blocks_of limits
