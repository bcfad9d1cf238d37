-- Powers of two, and the one place of each index.
use Rattle.std.proofs.Common.{◌≡◌, ℕ, ◌+◌, ◌*◌, ◌^◌, ◌<◌, ◌≤◌, ap, ◌∙◌, arith, inl, inr}
use Rattle.std.proofs.lemmas.Bool.{cases_lt}
use Rattle.std.proofs.lemmas.Nat.{pow-add, pow_pos}
use Rattle.std.proofs.Math.Pow.{pow_mono}
use Rattle.lv_geometry.specs.declared.places.Place.{Place}
use Rattle.lv_geometry.specs.Cells.{capacity_of, index_of, IsCell, IsHighestBit, IsPlaceOf}

-- eight times a power of two
pub times_eight : (k : ℕ) → 2 ^ (k + 3) ≡ 8 * 2 ^ k
times_eight k = omega (arith, pow-add 2 k 3)

-- twice a power of two
pub twice : (k : ℕ) → 2 ^ (k + 1) ≡ 2 * 2 ^ k
twice k = omega (arith, pow-add 2 k 1)

-- the highest bit of a number from 8 on is at least the third
pub from_third_bit : (n h : ℕ) → 8 ≤ n → n < 2 * 2 ^ h → 3 ≤ h
from_third_bit n h large next =
    elim (cases_lt h 3) [
      | inl below ↦ let few : h ≤ 2 = omega arith in let small : 2 ^ h ≤ 2 ^ 2 = pow_mono few in absurd (omega arith)
      | inr above ↦ above
    ]

-- a number has one highest bit
pub one_highest : (n h k : ℕ) → IsHighestBit n h → IsHighestBit n k → h ≤ k
one_highest n h k a b =
    elim (cases_lt k h) [
      | inl below ↦ let over : k + 1 ≤ h = omega arith in let more : 2 ^ (k + 1) ≤ 2 ^ h = pow_mono over in absurd (omega (arith, a.reached, b.last))
      | inr above ↦ above
    ]

-- a place with an existing cell is the place of its index
pub place_of_cell : (p : Place) → IsCell p → IsPlaceOf (index_of p) p
place_of_cell p h = record {
  bucket = record {
    reached = omega (arith, times_eight p.bucket, pow_pos p.bucket);
    last = omega (arith, times_eight p.bucket, twice (p.bucket + 3), pow_pos p.bucket);
  };
  cell = omega (arith, times_eight p.bucket, pow_pos p.bucket);
}

-- the place of an index is an existing cell of its bucket
pub cell_of_place : (i : ℕ) (p : Place) → IsPlaceOf i p → IsCell p
cell_of_place i p h = omega (arith, h.bucket.last, h.cell, times_eight p.bucket, twice (p.bucket + 3))

-- an index is the index of its place
pub index_of_place : (i : ℕ) (p : Place) → IsPlaceOf i p → index_of p ≡ i
index_of_place i p h = omega (arith, h.cell, times_eight p.bucket, pow_pos p.bucket)

-- an index has only one place
pub one_place : (i : ℕ) (p q : Place) → IsPlaceOf i p → IsPlaceOf i q → p ≡ q
one_place i p q a b =
    let up : p.bucket + 3 ≤ q.bucket + 3 = one_highest (i + 8) (p.bucket + 3) (q.bucket + 3) a.bucket b.bucket in
    let down : q.bucket + 3 ≤ p.bucket + 3 = one_highest (i + 8) (q.bucket + 3) (p.bucket + 3) b.bucket a.bucket in
    let bucket : p.bucket ≡ q.bucket = omega arith in
    let power : 2 ^ (p.bucket + 3) ≡ 2 ^ (q.bucket + 3) = ap (λ k. 2 ^ (k + 3)) bucket in
    let cell : p.cell ≡ q.cell = omega (arith, a.cell, b.cell) in
    ap (λ b. record p { bucket = b }) bucket ∙ ap (λ c. record q { cell = c }) cell

-- the bucket of the last of n cells is the last of the fewest that hold n
pub bucket_of_last : (n fewer : ℕ) (p : Place) → IsPlaceOf n p → n + 1 ≤ capacity_of fewer → p.bucket + 1 ≤ fewer
bucket_of_last n fewer p h enough =
    elim (cases_lt p.bucket fewer) [
      | inl below ↦ omega arith
      | inr above ↦ let small : 2 ^ fewer ≤ 2 ^ p.bucket = pow_mono above in absurd (omega (arith, h.cell, times_eight p.bucket))
    ]

-- each index below 1048568 is in one of the first 17 buckets
pub few_buckets : (i : ℕ) (p : Place) → IsPlaceOf i p → i < 1048568 → p.bucket ≤ 16
few_buckets i p h small =
    elim (cases_lt p.bucket 17) [
      | inl below ↦ omega arith
      | inr above ↦ let over : 20 ≤ p.bucket + 3 = omega arith in let large : 2 ^ 20 ≤ 2 ^ (p.bucket + 3) = pow_mono over in absurd (omega (arith, h.bucket.reached))
    ]
