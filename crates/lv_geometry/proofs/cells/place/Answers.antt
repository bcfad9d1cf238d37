-- Proof of `place`: the place of index `i`, in constant time: the bucket is found by counting bits.
use Rattle.std.proofs.Common.{◌≡◌, ◌+◌, ◌-◌, ◌*◌, ◌^◌, ◌%◌, ◌≤◌, arith}
use Rattle.std.proofs.lemmas.Nat.{one_shl}
use Rattle.lv_geometry.specs.Cells.{IsPlaceOf}
use Rattle.lv_geometry.proofs.HighestBits.{from_third_bit, twice, cell_of_place, index_of_place, one_place, place_of_cell, few_buckets}
use Rattle.lv_geometry.proofs.cells.place.Goals as goal

pub overflow_sub-result : goal.overflow_sub-result
overflow_sub-result c =
    from_third_bit (c.args.i + 8) c.ilog2-highest.result (omega arith) (omega (arith, c.ilog2-highest.ensures.next_power_gt))

lies : (c : goal.After-ilog2-highest) → IsPlaceOf c.args.i record { bucket = c.ilog2-highest.result - 3; cell = c.args.i + 8 - 1 * 2 ^ c.ilog2-highest.result % 4294967296 }
lies c =
    let highest = c.ilog2-highest.result in
    let third : 3 ≤ highest = overflow_sub-result c in
    let same : highest - 3 + 3 ≡ highest = omega arith in
    rw (one_shl highest 32 (c.ilog2-highest.ensures.bound))
    record {
      bucket = rw same record { reached = c.ilog2-highest.ensures.power_le; last = omega (arith, twice highest, c.ilog2-highest.ensures.next_power_gt) };
      cell = rw same (omega (arith, c.ilog2-highest.ensures.power_le));
    }

pub returns-clause-highest_bit : goal.returns-clause-highest_bit
returns-clause-highest_bit c = lies c

pub returns-clause-cell : goal.returns-clause-cell
returns-clause-cell c = cell_of_place c.args.i _ (lies c)

pub returns-clause-back : goal.returns-clause-back
returns-clause-back c = index_of_place c.args.i _ (lies c)

pub returns-clause-only : goal.returns-clause-only
returns-clause-only c =
    λ other cell at. one_place c.args.i other _ (rw at at (place_of_cell other cell)) (lies c)

pub returns-clause-bucket : goal.returns-clause-bucket
returns-clause-bucket c = few_buckets c.args.i _ (lies c) c.requires
