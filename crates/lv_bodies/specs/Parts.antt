-- Summaries as a few numbers of 32 bits, from which the summary of eight short elements is read back.
use Rattle.std.specs.Prelude.{◌≡◌, ℕ, ℤ, pos, ◌*◌, ◌/◌, ◌%◌, ◌^◌, ◌<◌, ◌≤◌, FitsSigned, Option, Some, None, List, [], ◌∷◌, length, map, sum, All, slice_index}
use Rattle.std.specs.Int.{cast_signed, w16, w32}
use Rattle.std.specs.List.{range_with_len}
use Rattle.std.specs.Option.{unwrap_or}
use Rattle.lv_bodies.specs.Body.{Operations, fold_of}
use Rattle.lv_bodies.specs.Plain.{remainder}
use Rattle.lv_bodies.specs.declared.affine.AffineMap.{AffineMap}
use Rattle.lv_bodies.specs.declared.best.RunTotals.{RunTotals}

-- a number of 16 bits with a sign
abbrev pub IsShort : ℤ → Type 0
IsShort x = FitsSigned w16 x

-- the low 32 bits of a number, as those of two's complement
abbrev pub low_32 : ℤ → ℕ
low_32 x = remainder x (2 ^ 32)

-- 32 bits widened with their sign: the number that they are in two's complement
abbrev pub widened : ℕ → ℤ
widened bits = cast_signed w32 bits

-- each summary has four parts of 32 bits, and those from `count` on are 0
pub record AreParts {S : Type 0} (count : ℕ) (parts : S → List ℕ) : Type 0 where
  pub four : (s : S) → length (parts s) ≡ 4
  pub below : (s : S) → All (λ part. part < 2 ^ 32) (parts s)
  pub unused : (s : S) (k : ℕ) → count ≤ k → slice_index (parts s) k ≡ 0

-- the fold of eight short elements is the whole of its parts
abbrev pub HasParts : {S : Type 0} → (S → List ℕ) → (List ℕ → S) → Operations S → Type 0
HasParts parts whole o = (xs : List ℤ) → length xs ≡ 8 → All IsShort xs → whole (parts (fold_of o xs)) ≡ fold_of o xs

-- sum: its low 32 bits
abbrev pub sum_parts : ℕ → List ℕ
sum_parts s = s % 2 ^ 32 ∷ 0 ∷ 0 ∷ 0 ∷ []

-- the part, widened with its sign, modulo 2 ^ 64
abbrev pub sum_of_parts : List ℕ → ℕ
sum_of_parts parts = remainder (widened (slice_index parts 0)) (2 ^ 64)

-- least, greatest: the low 32 bits of the element, or 0 if there is none
abbrev pub extreme_parts : Option ℤ → List ℕ
extreme_parts s = low_32 (unwrap_or s (pos 0)) ∷ 0 ∷ 0 ∷ 0 ∷ []

-- the part, widened with its sign
abbrev pub extreme_of_parts : List ℕ → Option ℤ
extreme_of_parts parts = Some (widened (slice_index parts 0))

-- best: the low 32 bits of its four totals in turn, or 0 if there are none
abbrev pub best_parts : Option RunTotals → List ℕ
best_parts None = 0 ∷ 0 ∷ 0 ∷ 0 ∷ []
best_parts (Some run) = low_32 run.total ∷ low_32 run.prefix ∷ low_32 run.suffix ∷ low_32 run.best ∷ []

-- the four parts, each widened with its sign
abbrev pub best_of_parts : List ℕ → Option RunTotals
best_of_parts parts = Some record {
  total = widened (slice_index parts 0);
  prefix = widened (slice_index parts 1);
  suffix = widened (slice_index parts 2);
  best = widened (slice_index parts 3);
}

-- affine: its two numbers, each of 32 bits
abbrev pub affine_parts : AffineMap → List ℕ
affine_parts p = p.a % 2 ^ 32 ∷ p.b % 2 ^ 32 ∷ 0 ∷ 0 ∷ []

-- the map of the first two parts
abbrev pub affine_of_parts : List ℕ → AffineMap
affine_of_parts parts = record { a = slice_index parts 0; b = slice_index parts 1 }

-- eight states in three bits each: bits 3 * q + 2 to 3 * q have that which is reached from q
abbrev pub packed_states : List ℕ → ℕ
packed_states row = sum (map (λ q. slice_index row q % 8 * 2 ^ (3 * q)) (range_with_len 0 8))

-- the eight states in these bits
abbrev pub states_in : ℕ → List ℕ
states_in bits = map (λ q. bits / 2 ^ (3 * q) % 8) (range_with_len 0 8)

-- automaton: its eight states, packed
abbrev pub automaton_parts : List ℕ → List ℕ
automaton_parts row = packed_states row ∷ 0 ∷ 0 ∷ 0 ∷ []

-- the states in the part
abbrev pub automaton_of_parts : List ℕ → List ℕ
automaton_of_parts parts = states_in (slice_index parts 0)
