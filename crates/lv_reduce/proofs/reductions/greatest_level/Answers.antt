-- Proof of `greatest_level`: the greatest level, at most 6, at which a node begins at index `at` and ends at or before `hi`; 0 means a single
-- cell.
use Rattle.std.proofs.Common.{◌/◌, arith}
use Rattle.lv_reduce.proofs.Zeros.{bits_by_fits, fits_by_bits}
use Rattle.lv_reduce.proofs.reductions.greatest_level.Goals as goal

pub returns-clause-fits : goal.returns-clause-fits
returns-clause-fits c =
    let level = c.min-2.result / 3 in
    fits_by_bits c.args.at c.args.hi c.ilog2.result level c.requires (omega arith) c.ilog2.ensures.power_le (omega arith) (omega arith)

pub returns-clause-greatest : goal.returns-clause-greatest
returns-clause-greatest c = λ level low fits.
    let few = bits_by_fits c.args.at c.args.hi c.ilog2.result level c.requires (omega arith) c.ilog2.ensures.next_power_gt low fits in
    omega arith
