-- Proof of `buckets_for`: the fewest buckets that hold `n` cells.
use Rattle.std.proofs.Common.{◌+◌, ◌-◌, arith}
use Rattle.std.proofs.lemmas.Nat.{pow_pos}
use Rattle.lv_geometry.proofs.HighestBits.{bucket_of_last, times_eight, twice}
use Rattle.lv_geometry.proofs.cells.buckets_for.Goals as goal

pub returns-clause-fewest : goal.returns-clause-fewest
returns-clause-fewest c =
    let p = c.place.result in
    record {
      enough = omega (arith, c.place.ensures.highest_bit.bucket.last, times_eight p.bucket, twice p.bucket, twice (p.bucket + 3), pow_pos p.bucket);
      fewest = λ fewer enough. bucket_of_last (c.args.n - 1) fewer p c.place.ensures.highest_bit (omega arith);
    }
