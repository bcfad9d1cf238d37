-- The bytes of a summary: 22 numbers of eight bytes each, the lowest first, and a checksum of these bytes.
use Rattle.std.specs.Prelude.{ℕ, ℤ, pos, ◌+◌, ◌*◌, ◌/◌, ◌%◌, ◌^◌, List, [], ◌∷◌, ◌++◌, Option, unwrap_or, is_some, fold, slice_index, slice_index_or, bit_xor, if◌then◌else◌}
use Rattle.std.specs.List.{flat_map}
use Rattle.std.specs.Int.{w64, w128, cast_unsigned, from_le_bytes, to_le_bytes}
use Rattle.lv_bodies.specs.declared.best.RunTotals.{RunTotals}
use Rattle.lv_shards.specs.Summaries.{Summary}

-- the low 64 bits of a number of 128 bits in two's complement, and the others
abbrev pub low_bits : ℤ → ℕ
low_bits x = cast_unsigned w128 x % 2 ^ 64

abbrev pub high_bits : ℤ → ℕ
high_bits x = cast_unsigned w128 x / 2 ^ 64

-- an element in two's complement, 0 if there is none
abbrev pub element_bits : Option ℤ → ℕ
element_bits x = cast_unsigned w64 (unwrap_or x (pos 0))

-- a best run, zeros if there is none
abbrev pub run_or_zeros : Option RunTotals → RunTotals
run_or_zeros best = unwrap_or best (record { total = pos 0; prefix = pos 0; suffix = pos 0; best = pos 0 })

-- eight states as one number, that of state 0 lowest
abbrev pub states_at : List (List ℕ) → ℕ → ℕ
states_at leads c = from_le_bytes w64 (slice_index_or leads c [])

-- the numbers of a summary, the version of the layout first
abbrev pub numbers_of : Summary → List ℕ
numbers_of s =
    1 ∷ s.count ∷ (if is_some s.edit then 1 else 0) ∷ unwrap_or s.edit 0
    ∷ s.six.0 ∷ element_bits s.six.1.0 ∷ element_bits s.six.1.1.0
    ∷ low_bits (run_or_zeros s.six.1.1.1.0).total ∷ high_bits (run_or_zeros s.six.1.1.1.0).total
    ∷ low_bits (run_or_zeros s.six.1.1.1.0).prefix ∷ high_bits (run_or_zeros s.six.1.1.1.0).prefix
    ∷ low_bits (run_or_zeros s.six.1.1.1.0).suffix ∷ high_bits (run_or_zeros s.six.1.1.1.0).suffix
    ∷ low_bits (run_or_zeros s.six.1.1.1.0).best ∷ high_bits (run_or_zeros s.six.1.1.1.0).best
    ∷ s.six.1.1.1.1.0.a ∷ s.six.1.1.1.1.0.b ∷ from_le_bytes w64 s.six.1.1.1.1.1
    ∷ states_at s.leads 0 ∷ states_at s.leads 1 ∷ states_at s.leads 2 ∷ states_at s.leads 3 ∷ []

-- the checksum of some bytes: FNV-1a of 64 bits, which begins with a number and continues byte by byte
unfoldable pub checksum_from : ℕ → List ℕ → ℕ
checksum_from hash bytes = fold (λ h byte. (bit_xor h byte * 1099511628211) % 2 ^ 64) hash bytes

abbrev pub checksum_of : List ℕ → ℕ
checksum_of bytes = checksum_from 14695981039346656037 bytes

-- numbers by their bytes
unfoldable pub spelled : List ℕ → List ℕ
spelled numbers = flat_map (to_le_bytes w64) numbers

-- bytes, and then those of their checksum
unfoldable pub sealed_by : List ℕ → List ℕ
sealed_by payload = payload ++ to_le_bytes w64 (checksum_of payload)

-- the bytes of a summary
abbrev pub bytes_of : Summary → List ℕ
bytes_of s = sealed_by (spelled (numbers_of s))

-- the number whose eight bytes are at a place among the numbers
abbrev pub number_in : List ℕ → ℕ → ℕ
number_in bytes j =
    from_le_bytes w64
    (slice_index bytes (8 * j) ∷ slice_index bytes (8 * j + 1) ∷ slice_index bytes (8 * j + 2) ∷ slice_index bytes (8 * j + 3)
    ∷ slice_index bytes (8 * j + 4) ∷ slice_index bytes (8 * j + 5) ∷ slice_index bytes (8 * j + 6) ∷ slice_index bytes (8 * j + 7) ∷ [])

-- the version of the layout that bytes have
abbrev pub version_of : List ℕ → ℕ
version_of bytes = number_in bytes 0
