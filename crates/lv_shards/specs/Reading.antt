-- The fold of at least one element by each of the six, as the six summaries.
use Rattle.std.specs.Prelude.{Some}
use Rattle.lv_bodies.specs.Six.{SixSummary}
use Rattle.lv_shards.specs.declared.filled.Filled.{Filled}

-- of some elements there is a least, a greatest and a best run
abbrev pub six_of : Filled → SixSummary
six_of f = (f.sum, (Some f.least, (Some f.greatest, (Some f.run, (f.map, f.states)))))
