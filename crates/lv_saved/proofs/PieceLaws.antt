-- Numbers by their bytes, in pieces.
use Rattle.std.proofs.Common.{◌≡◌, ℕ, ◌+◌, ◌-◌, ◌*◌, ◌/◌, ◌%◌, ◌<◌, ◌≤◌, Bool, true, false, List, [], ◌∷◌, ◌++◌, length, get_or, take, drop, refl, sym, ap, ◌∙◌, arith, length-append, length-drop, inl, inr}
use Rattle.std.specs.Prelude.{◌↔◌, IsTrue, min}
use Rattle.std.proofs.Math.Seq.{take-add}
use Rattle.std.specs.Int.{w64, to_le_bytes}
use Rattle.std.specs.List.{flat_map, slice_range}
use Rattle.std.proofs.lemmas.Bool.{cases_lt}
use Rattle.std.proofs.lemmas.Grind.{flat_map-append}
use Rattle.std.proofs.lemmas.List.{append-nil, drop-drop, drop_at, drop_more, length-take, take-append-drop, take_all, take_at}
use Rattle.std.proofs.lemmas.Slice.{drop-put_mid}
use borrow.Rule.Slice.PartMut.{put_mid}
use Rattle.lv_saved.specs.Saved.{IsPiece, with_checksum}
use Rattle.lv_shards.specs.Bytes.{checksum_of, sealed_by, spelled}
use Rattle.lv_shards.specs.SpelledLaws.{spelled_more, spelled_none}

-- eight bytes for each number
pub length_spelled : (numbers : List ℕ) → length (spelled numbers) ≡ 8 * length numbers
unfolding spelled
length_spelled [] = refl
length_spelled (n ∷ numbers) = omega (arith, length_spelled numbers, length-append (to_le_bytes w64 n) (flat_map (to_le_bytes w64) numbers))

-- the bytes of two lists, one after the other
pub spelled_both : (ms ns : List ℕ) → spelled (ms ++ ns) ≡ spelled ms ++ spelled ns
unfolding spelled
spelled_both ms ns = flat_map-append (to_le_bytes w64) ms ns

pub spelled_one : (n : ℕ) → spelled (n ∷ []) ≡ to_le_bytes w64 n
unfolding spelled
spelled_one n = append-nil (to_le_bytes w64 n)

-- the checksum is one number more
pub sealed_is : (numbers : List ℕ) → sealed_by (spelled numbers) ≡ spelled (with_checksum numbers)
unfolding sealed_by
sealed_is numbers = ap (λ b. spelled numbers ++ b) (sym (spelled_one (checksum_of (spelled numbers)))) ∙ sym (spelled_both numbers (checksum_of (spelled numbers) ∷ []))

-- how many bytes there are
pub length_sealed : (numbers : List ℕ) → length (sealed_by (spelled numbers)) ≡ 8 * length numbers + 8
length_sealed numbers = ap length (sealed_is numbers) ∙ length_spelled (with_checksum numbers) ∙ omega (arith, length-append numbers (checksum_of (spelled numbers) ∷ []))

-- the bytes of the first so many numbers, and of the others
pub spelled_take : (numbers : List ℕ) (k : ℕ) → k ≤ length numbers → take (8 * k) (spelled numbers) ≡ spelled (take k numbers)
spelled_take numbers k within =
    ap (λ ns. take (8 * k) (spelled ns)) (sym (take-append-drop k numbers))
    ∙ ap (take (8 * k)) (spelled_both (take k numbers) (drop k numbers))
    ∙ take_at (spelled (take k numbers)) (spelled (drop k numbers)) (8 * k) (length_spelled (take k numbers) ∙ omega (arith, length-take k numbers, within))

pub spelled_drop : (numbers : List ℕ) (k : ℕ) → k ≤ length numbers → drop (8 * k) (spelled numbers) ≡ spelled (drop k numbers)
spelled_drop numbers k within =
    ap (λ ns. drop (8 * k) (spelled ns)) (sym (take-append-drop k numbers))
    ∙ ap (drop (8 * k)) (spelled_both (take k numbers) (drop k numbers))
    ∙ drop_at (spelled (take k numbers)) (spelled (drop k numbers)) (8 * k) (length_spelled (take k numbers) ∙ omega (arith, length-take k numbers, within))

-- a piece of the bytes is a piece of the numbers
pub piece_of : (numbers : List ℕ) (from first count : ℕ) → from % 8 ≡ 0 → first ≡ min (from / 8) (length numbers) → first + count ≤ length numbers
    → slice_range (spelled numbers) from (from + 8 * count) ≡ spelled (slice_range numbers first (first + count))
piece_of numbers from first count whole is within =
    elim (cases_lt (length numbers) (from / 8)) [
      | inl past ↦
          let none : count ≡ 0 = omega (arith, is, within, past) in
          let first_none : from + 8 * count - from ≡ 0 = omega (arith, none) in
          let second_none : first + count - first ≡ 0 = omega (arith, none) in
          ap (λ n. take n (drop from (spelled numbers))) first_none ∙ sym spelled_none ∙ ap (λ n. spelled (take n (drop first numbers))) (sym second_none)
      | inr inside ↦
          let at : from ≡ 8 * first = omega (arith, is, inside, whole) in
          let low : first ≤ length numbers = omega (arith, within) in
          let left : count ≤ length (drop first numbers) = omega (arith, within, length-drop first numbers) in
          let wide : from + 8 * count - from ≡ 8 * count = omega arith in
          let many : count ≡ first + count - first = omega arith in
          ap (λ n. take n (drop from (spelled numbers))) wide
          ∙ ap (λ n. take (8 * count) (drop n (spelled numbers))) at
          ∙ ap (take (8 * count)) (spelled_drop numbers first low)
          ∙ spelled_take (drop first numbers) count left
          ∙ ap (λ n. spelled (take n (drop first numbers))) many
    ]

-- what a loop has written at its end
pub filled : (numbers : List ℕ) (first count : ℕ) (old new : List ℕ) → take (8 * count) new ≡ spelled (take count (drop first numbers)) → drop (8 * count) new ≡ drop (8 * count) old
    → new ≡ spelled (slice_range numbers first (first + count)) ++ drop (8 * count) old
filled numbers first count old new front back =
    let many : count ≡ first + count - first = omega arith in
    sym (take-append-drop (8 * count) new)
    ∙ ap (λ b. b ++ drop (8 * count) new) (front ∙ ap (λ n. spelled (take n (drop first numbers))) many)
    ∙ ap (λ b. spelled (slice_range numbers first (first + count)) ++ b) back

-- one more number leaves what comes after it
pub left_behind : (k : ℕ) (old bytes part : List ℕ) → 8 * k + 8 ≤ length bytes → length part ≡ 8 → drop (8 * k) bytes ≡ drop (8 * k) old
    → drop (8 * (k + 1)) (put_mid (8 * k) (8 * k + 8 - 8 * k) bytes part) ≡ drop (8 * (k + 1)) old
left_behind k old bytes part within eight so_far =
    let next : 8 * (k + 1) ≡ 8 * k + 8 = omega arith in
    drop-put_mid (8 * k) (8 * k + 8 - 8 * k) bytes part (8 * (k + 1)) (omega arith) (omega (arith, within)) (eight ∙ omega arith)
    ∙ ap (λ n. drop n bytes) next
    ∙ sym (drop-drop 8 (8 * k) bytes)
    ∙ ap (drop 8) so_far
    ∙ drop-drop 8 (8 * k) old
    ∙ ap (λ n. drop n old) (sym next)

-- what was written is a piece of the bytes
pub is_piece : (numbers : List ℕ) (from first count : ℕ) (old new : List ℕ) → from % 8 ≡ 0 → first ≡ min (from / 8) (length numbers + 1) → count ≡ min (length old / 8) (length numbers + 1 - first)
    → new ≡ spelled (slice_range (with_checksum numbers) first (first + count)) ++ drop (8 * count) old → IsPiece (sealed_by (spelled numbers)) from old (8 * count) new
is_piece numbers from first count old new whole first_is count_is written =
    let more : length (with_checksum numbers) ≡ length numbers + 1 = length-append numbers (checksum_of (spelled numbers) ∷ []) in
    let all : length (sealed_by (spelled numbers)) ≡ 8 * (length numbers + 1) = ap length (sealed_is numbers) ∙ length_spelled (with_checksum numbers) ∙ ap (λ n. 8 * n) more in
    let at : first ≡ min (from / 8) (length (with_checksum numbers)) = omega (arith, first_is, more) in
    let inside : first + count ≤ length (with_checksum numbers) = omega (arith, count_is, first_is, more) in
    record {
      count_is = omega (arith, count_is, first_is, whole, all);
      piece =
          written
          ∙ ap (λ b. b ++ drop (8 * count) old) (sym (piece_of (with_checksum numbers) from first count whole at inside) ∙ ap (λ b. slice_range b from (from + 8 * count)) (sym (sealed_is numbers)));
    }

-- what is there of one number
pub number_there : (numbers bytes : List ℕ) (j : ℕ) → bytes ≡ spelled numbers → j < length numbers → slice_range bytes (8 * j) (8 * j + 8) ≡ to_le_bytes w64 (get_or numbers j 0)
number_there numbers bytes j is below =
    let one : 8 * j + 8 - 8 * j ≡ 8 * 1 = omega arith in
    let left : 1 ≤ length (drop j numbers) = omega (arith, below, length-drop j numbers) in
    ap (λ b. slice_range b (8 * j) (8 * j + 8)) is
    ∙ ap (λ n. take n (drop (8 * j) (spelled numbers))) one
    ∙ ap (take (8 * 1)) (spelled_drop numbers j (omega (arith, below)))
    ∙ spelled_take (drop j numbers) 1 left
    ∙ ap spelled (ap (take 1) (drop_more numbers j 0 below))
    ∙ spelled_one (get_or numbers j 0)

-- a number that isn't there
pub not_there : (numbers bytes : List ℕ) (j number : ℕ) (there : Bool) → (IsTrue there ↔ (slice_range bytes (8 * j) (8 * j + 8) ≡ to_le_bytes w64 number)) → there ≡ false → number ≡ get_or (with_checksum numbers) j 0 → j < length (with_checksum numbers) → bytes ≡ sealed_by (spelled numbers) → ⊥
not_there numbers bytes j number there exact differ is below e =
    let t : there ≡ true = exact.1 (number_there (with_checksum numbers) bytes j (e ∙ sealed_is numbers) below ∙ ap (to_le_bytes w64) (sym is)) in
    absurd (cc)

-- one more that is
pub one_there : (numbers bytes : List ℕ) (j number : ℕ) → take (8 * j) bytes ≡ spelled (take j numbers) → slice_range bytes (8 * j) (8 * j + 8) ≡ to_le_bytes w64 number → number ≡ get_or numbers j 0 → j < length numbers
    → take (8 * (j + 1)) bytes ≡ spelled (take (j + 1) numbers)
one_there numbers bytes j number so_far there is below =
    let next : 8 * (j + 1) ≡ 8 * j + 8 = omega arith in
    let eight : 8 ≡ 8 * j + 8 - 8 * j = omega arith in
    ap (λ n. take n bytes) next
    ∙ take-add (8 * j) 8 bytes
    ∙ ap (λ n. take (8 * j) bytes ++ take n (drop (8 * j) bytes)) eight
    ∙ ap (λ b. take (8 * j) bytes ++ b) (there ∙ ap (to_le_bytes w64) is)
    ∙ ap (λ b. b ++ to_le_bytes w64 (get_or numbers j 0)) so_far
    ∙ sym (spelled_more numbers j below)

-- all of them are
pub all_there : (numbers bytes : List ℕ) (j : ℕ) → length bytes ≤ 8 * j → length (with_checksum numbers) ≤ j → take (8 * j) bytes ≡ spelled (take j (with_checksum numbers)) → bytes ≡ sealed_by (spelled numbers)
all_there numbers bytes j past past' so_far = sym (take_all (8 * j) bytes past) ∙ so_far ∙ ap spelled (take_all j (with_checksum numbers) past') ∙ sym (sealed_is numbers)
