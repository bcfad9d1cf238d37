-- Proof of `blank_bucket`: a bucket of a number, with a blank in each of its cells.
use Rattle.std.proofs.Common.{◌≡◌, ℕ, take, ◌-◌, ◌*◌, ◌^◌, ◌%◌, ◌≤◌, [], arith}
use Rattle.std.proofs.Math.Pow.{pow_mono}
use Rattle.std.proofs.lemmas.List.{take_all}
use Rattle.lv_store.proofs.directories.blank_bucket.Goals as goal

-- nothing is there to take
take_none : {T : Type 0} (n : ℕ) → take {A = T} n [] ≡ []
take_none n = take_all n [] (omega arith)

pub returns-in-Ok-clause-ok : goal.returns-in-Ok-clause-ok
returns-in-Ok-clause-ok g c =
    let most : 2 ^ c.args.number ≤ 2 ^ 16 = pow_mono c.requires in
    let small : 8 * 2 ^ c.args.number % 18446744073709551616 ≡ 8 * 2 ^ c.args.number = omega arith in
    let all : 8 * 2 ^ c.args.number - 0 ≡ 8 * 2 ^ c.args.number = omega arith in
    rw (c.new-bucket.ensures.items, c.new-bucket.ensures.len, small, all, take_none (8 * 2 ^ c.args.number)) at c.in-Ok.ensures.items
