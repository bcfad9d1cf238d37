-- The number at a place among those of a head, elements and times, and their checksum.
use Rattle.std.proofs.Common.{◌≡◌, ℕ, ℤ, ◌+◌, ◌-◌, ◌<◌, List, [], ◌++◌, length, map, get_or, take, refl, sym, ap, ◌∙◌, arith, length-append}
use Rattle.std.specs.Prelude.{pos}
use Rattle.std.specs.Int.{w64, cast_unsigned, to_le_bytes}
use Rattle.std.proofs.lemmas.List.{get_or-append_right, get_or-map, get_or_append_left, length-map}
use Rattle.std.proofs.lemmas.List.Sums.{fold-append}
use Rattle.lv_saved.specs.Saved.{numbers_by}
use Rattle.lv_shards.specs.Bytes.{checksum_from, checksum_of, spelled}
use Rattle.lv_shards.specs.SpelledLaws.{spelled_more, spelled_none}

-- how many numbers there are
pub length_numbers : (head : List ℕ) (elements times : List ℤ) → length (numbers_by head elements times) ≡ length head + length elements + length times
length_numbers head elements times =
    length-append head (map (cast_unsigned w64) elements ++ map (cast_unsigned w64) times)
    ∙ omega (arith, length-append (map (cast_unsigned w64) elements) (map (cast_unsigned w64) times), length-map elements (cast_unsigned w64), length-map times (cast_unsigned w64))

-- one of the elements, or of the times
pub of_elements : (head : List ℕ) (elements times : List ℤ) (j k : ℕ) → j ≡ length head + k → k < length elements → get_or (numbers_by head elements times) j 0 ≡ cast_unsigned w64 (get_or elements k (pos 0))
of_elements head elements times j k is below =
    get_or-append_right head (map (cast_unsigned w64) elements ++ map (cast_unsigned w64) times) (length head) j 0 refl (omega (arith, is))
    ∙ ap (λ i. get_or (map (cast_unsigned w64) elements ++ map (cast_unsigned w64) times) i 0) (omega (arith, is))
    ∙ get_or_append_left (map (cast_unsigned w64) elements) (map (cast_unsigned w64) times) 0 k (omega (arith, below, length-map elements (cast_unsigned w64)))
    ∙ get_or-map (cast_unsigned w64) elements k (pos 0) 0 below

pub of_times : (head : List ℕ) (elements times : List ℤ) (j k : ℕ) → j ≡ length head + length elements + k → k < length times → get_or (numbers_by head elements times) j 0 ≡ cast_unsigned w64 (get_or times k (pos 0))
of_times head elements times j k is below =
    get_or-append_right head (map (cast_unsigned w64) elements ++ map (cast_unsigned w64) times) (length head) j 0 refl (omega (arith, is))
    ∙ get_or-append_right (map (cast_unsigned w64) elements) (map (cast_unsigned w64) times) (length elements) (j - length head) 0 (length-map elements (cast_unsigned w64)) (omega (arith, is))
    ∙ ap (λ i. get_or (map (cast_unsigned w64) times) i 0) (omega (arith, is))
    ∙ get_or-map (cast_unsigned w64) times k (pos 0) 0 below

-- the checksum of no numbers, and of one number more
pub none_hashed : 14695981039346656037 ≡ checksum_of (spelled [])
unfolding checksum_from
none_hashed = ap checksum_of (sym spelled_none)

pub one_hashed : (numbers : List ℕ) (j hash number after : ℕ) → j < length numbers → hash ≡ checksum_of (spelled (take j numbers)) → number ≡ get_or numbers j 0 → after ≡ checksum_from hash (to_le_bytes w64 number)
    → after ≡ checksum_of (spelled (take (j + 1) numbers))
unfolding checksum_from
one_hashed numbers j hash number after below so_far is e =
    e ∙ ap (λ n. checksum_from hash (to_le_bytes w64 n)) is
    ∙ ap (λ h. checksum_from h (to_le_bytes w64 (get_or numbers j 0))) so_far
    ∙ sym (fold-append _ 14695981039346656037 (spelled (take j numbers)) (to_le_bytes w64 (get_or numbers j 0)))
    ∙ ap checksum_of (sym (spelled_more numbers j below))
