-- Proof of `capacity`: how many cells `k` open buckets hold.
use Rattle.std.proofs.Common.{◌^◌, ◌≤◌, arith}
use Rattle.std.proofs.lemmas.Nat.{one_shl}
use Rattle.std.proofs.Math.Pow.{pow_mono}
use Rattle.lv_geometry.proofs.cells.capacity.Goals as goal

pub overflow_mul-result : goal.overflow_mul-result
overflow_mul-result c =
    let most : 2 ^ c.args.k ≤ 2 ^ 17 = pow_mono c.requires in
    omega (arith, one_shl c.args.k 32 (omega arith))

pub returns-clause-bound : goal.returns-clause-bound
returns-clause-bound c =
    let most : 2 ^ c.args.k ≤ 2 ^ 17 = pow_mono c.requires in
    omega (arith, one_shl c.args.k 32 (omega arith))
