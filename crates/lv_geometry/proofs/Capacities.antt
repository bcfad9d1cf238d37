-- How much more buckets hold than fewer.
use Rattle.std.proofs.Common.{◌≡◌, ℕ, ◌+◌, ◌*◌, ◌^◌, ◌<◌, ◌≤◌, inl, inr, arith}
use Rattle.std.proofs.lemmas.Bool.{cases_lt}
use Rattle.std.proofs.lemmas.Nat.{pow_pos}
use Rattle.std.proofs.Math.Pow.{pow_mono}
use Rattle.lv_geometry.specs.Cells.{capacity_of}
use Rattle.lv_geometry.proofs.HighestBits.{twice}

-- how many cells the bucket of a number has
abbrev pub cells_in : ℕ → ℕ
cells_in k = 8 * 2 ^ k

-- more buckets hold no less
pub capacity_of_mono : (j k : ℕ) → j ≤ k → capacity_of j ≤ capacity_of k
capacity_of_mono j k fewer =
    let more : 2 ^ j ≤ 2 ^ k = pow_mono fewer in
    omega arith

-- 17 buckets hold 1048568 elements, and fewer no more
pub capacity_of_most : (k : ℕ) → k ≤ 17 → capacity_of k ≤ 1048568
capacity_of_most k few = capacity_of_mono k 17 few

-- what holds more has more buckets
pub capacity_of_fewer : (j k : ℕ) → capacity_of j < capacity_of k → j < k
capacity_of_fewer j k less =
    elim (cases_lt j k) [ inl below ↦ below | inr above ↦ let no_less = capacity_of_mono k j above in absurd (omega arith) ]

-- one bucket more holds its own cells more
pub capacity_of_next : (k : ℕ) → capacity_of (k + 1) ≡ capacity_of k + cells_in k
capacity_of_next k = omega (arith, twice k, pow_pos k)
