-- Proof of `index`: the index that is stored at a place. It is the inverse of `place`.
use Rattle.lv_geometry.proofs.HighestBits.{place_of_cell}
use Rattle.lv_geometry.proofs.cells.index.Goals as goal

pub returns-clause-highest_bit : goal.returns-clause-highest_bit
returns-clause-highest_bit c = rw c.capacity.ensures.value (place_of_cell c.args.place c.requires.cell)
