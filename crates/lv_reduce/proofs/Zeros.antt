-- How far a number is aligned, by the zeros at its end.
use Rattle.std.proofs.Common.{◌≡◌, ℕ, zero, suc, ◌+◌, ◌-◌, ◌*◌, ◌/◌, ◌%◌, ◌^◌, ◌<◌, ◌≤◌, sym, ap, ◌∙◌, inl, inr, arith}
use Rattle.std.proofs.lemmas.Bool.{cases_lt}
use Rattle.std.proofs.lemmas.Nat.{mod-pow-add, pow-add, pow_pos}
use Rattle.std.proofs.lemmas.Nat.Bits.{bit_at-trailing_zeros}
use Rattle.std.proofs.Math.Nat.{zero-mod}
use Rattle.std.proofs.Math.Pow.{pow_mono}
use Rattle.std.specs.Int.{bit_at, trailing_zeros, w32}
use Rattle.std.specs.Int.Count.{trailing_of_zero}
use Rattle.lv_geometry.proofs.NodeLaws.{width_in_twos}
use Rattle.lv_reduce.specs.Pieces.{Fits}

-- a number is its multiple of 2 ^ k, its bit k, and the rest
mod-pow-more : (n k : ℕ) → n % 2 ^ (k + 1) ≡ (n / 2 ^ k % 2) * 2 ^ k + n % 2 ^ k
mod-pow-more n k = ap (λ j. n % 2 ^ j) (omega arith) ∙ mod-pow-add n 1 k

-- a number whose last k bits are 0 is a multiple of 2 ^ k
low_zero : (n k : ℕ) → ((i : ℕ) → i < k → bit_at n i ≡ 0) → n % 2 ^ k ≡ 0
low_zero n zero none = omega arith
low_zero n (suc k) none =
    let before = low_zero n k (λ i h. none i (omega arith)) in
    let here : n / 2 ^ k % 2 ≡ 0 = none k (omega arith) in
    ap (λ j. n % 2 ^ j) (omega arith) ∙ mod-pow-more n k ∙ rw (here, before) (omega arith)

-- a multiple of a power of two is one of each lesser power
pub lesser_power : (n j k : ℕ) → j ≤ k → n % 2 ^ k ≡ 0 → n % 2 ^ j ≡ 0
lesser_power n j k less aligned =
    let all : n % 2 ^ k ≡ (n / 2 ^ j % 2 ^ (k - j)) * 2 ^ j + n % 2 ^ j = ap (λ i. n % 2 ^ i) (omega arith) ∙ mod-pow-add n (k - j) j in
    omega arith

-- a number is a multiple of as many twos as it has zeros at its end
aligned_by_zeros : (n j : ℕ) → n < 2 ^ 32 → j ≤ trailing_zeros w32 n → n % 2 ^ j ≡ 0
aligned_by_zeros n j fits few =
    elim (cases_lt 0 n) [
      | inl some ↦ let zeros = bit_at-trailing_zeros w32 n some fits in lesser_power n j (trailing_zeros w32 n) few (low_zero n (trailing_zeros w32 n) zeros.2)
      | inr none ↦ let is : n ≡ 0 = omega arith in ap (λ m. m % 2 ^ j) is ∙ zero-mod (2 ^ j)
    ]

-- and of no more, if it is not 0
zeros_by_aligned : (n j : ℕ) → n < 2 ^ 32 → j ≤ 32 → n % 2 ^ j ≡ 0 → j ≤ trailing_zeros w32 n
zeros_by_aligned n j fits small aligned =
    elim (cases_lt 0 n) [
      | inl some ↦ elim (cases_lt (trailing_zeros w32 n) j) [
        | inl more ↦
            let zeros = bit_at-trailing_zeros w32 n some fits in
            let last : n % 2 ^ (trailing_zeros w32 n + 1) ≡ 0 = lesser_power n (trailing_zeros w32 n + 1) j (omega arith) aligned in
            let bit : n % 2 ^ (trailing_zeros w32 n + 1) ≡ 1 * 2 ^ trailing_zeros w32 n + n % 2 ^ trailing_zeros w32 n = mod-pow-more n (trailing_zeros w32 n) ∙ ap (λ b. b * 2 ^ trailing_zeros w32 n + n % 2 ^ trailing_zeros w32 n) zeros.1 in
            absurd (omega (arith, pow_pos (trailing_zeros w32 n)))
        | inr no_more ↦ no_more
      ]
      | inr none ↦ let is : n ≡ 0 = omega arith in omega (arith, ap (trailing_zeros w32) is, trailing_of_zero 32)
    ]

-- a level whose twos are as many as the zeros at the end of an index, and no more than the highest bit of what is left
-- of the range, fits there
pub fits_by_bits : (at hi highest level : ℕ) → at < hi → hi < 2 ^ 32 → 2 ^ highest ≤ hi - at → 3 * level ≤ trailing_zeros w32 at → 3 * level ≤ highest → Fits at hi level
fits_by_bits at hi highest level some small reached zeros bits =
    let wide : 2 ^ (3 * level) ≤ 2 ^ highest = pow_mono bits in
    record {
      begins = ap (λ w. at % w) (width_in_twos level) ∙ aligned_by_zeros at (3 * level) (omega arith) zeros;
      ends = omega (arith, width_in_twos level);
    }

-- no other level does
pub bits_by_fits : (at hi highest level : ℕ) → at < hi → hi < 2 ^ 32 → hi - at < 2 * 2 ^ highest → level ≤ 6 → Fits at hi level → (3 * level ≤ trailing_zeros w32 at) × (3 * level ≤ highest)
bits_by_fits at hi highest level some small next low fits =
    let aligned : at % 2 ^ (3 * level) ≡ 0 = ap (λ w. at % w) (sym (width_in_twos level)) ∙ fits.begins in (
      zeros_by_aligned at (3 * level) (omega arith) (omega arith) aligned,
      elim (cases_lt highest (3 * level)) [
        | inl more ↦
            let over : highest + 1 ≤ 3 * level = omega arith in
            let wide : 2 ^ (highest + 1) ≤ 2 ^ (3 * level) = pow_mono over in
            absurd (omega (arith, pow-add 2 highest 1, width_in_twos level, fits.ends))
        | inr no_more ↦ no_more
      ],
    )
