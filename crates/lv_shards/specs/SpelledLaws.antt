-- Numbers as bytes, and the numbers that are read at their places.
use Rattle.std.proofs.Common.{◌≡◌, ℕ, zero, suc, ◌+◌, ◌-◌, ◌*◌, ◌^◌, ◌<◌, ◌≤◌, List, [], ◌∷◌, ◌++◌, length, get_or, take, drop, refl, sym, ap, ◌∙◌, arith, append_assoc, length-append, length-drop}
use Rattle.std.specs.Prelude.{All}
use Rattle.std.specs.Int.{w64, from_le_bytes, to_le_bytes}
use Rattle.std.specs.List.{flat_map}
use Rattle.std.proofs.lemmas.Grind.{flat_map-append, same_number_lists}
use Rattle.std.proofs.lemmas.List.{append-nil, length-take, take_more}
use Rattle.std.proofs.lemmas.List.Elements.{All-head, All-tail}
use Rattle.std.proofs.lemmas.Nat.{from_le_bytes-to_le_bytes_8}
use Rattle.std.proofs.lemmas.Slice.{take-put_mid}
use borrow.Rule.Slice.PartMut.{put_mid, post_of}
use Rattle.lv_shards.specs.Bytes.{number_in, sealed_by, spelled}

-- one number more
pub spelled_more : (numbers : List ℕ) (j : ℕ) → j < length numbers → spelled (take (j + 1) numbers) ≡ spelled (take j numbers) ++ to_le_bytes w64 (get_or numbers j 0)
unfolding spelled
spelled_more numbers j below =
    ap (flat_map (to_le_bytes w64)) (take_more numbers j 0 below)
    ∙ flat_map-append (to_le_bytes w64) (take j numbers) (get_or numbers j 0 ∷ [])
    ∙ ap (λ bytes. flat_map (to_le_bytes w64) (take j numbers) ++ bytes) (append-nil (to_le_bytes w64 (get_or numbers j 0)))

-- no numbers have no bytes
pub spelled_none : spelled [] ≡ []
unfolding spelled
spelled_none = refl

-- a part that takes the place of as many bytes keeps their number
pub still_many : (a n : ℕ) (bytes part : List ℕ) → length bytes ≡ n → length part ≡ 8 → a + 8 ≤ n → length (put_mid a (a + 8 - a) bytes part) ≡ n
still_many a n bytes part many eight within =
    length-append (take a bytes) (part ++ post_of a (a + 8 - a) bytes)
    ∙ ap (λ m. length (take a bytes) + m) (length-append part (post_of a (a + 8 - a) bytes))
    ∙ omega (arith, length-take a bytes, length-drop (a + 8 - a) (drop a bytes), length-drop a bytes)

-- one number more is written after the others
pub written_more : (j : ℕ) (numbers bytes part : List ℕ) → j < length numbers → 8 * j + 8 ≤ length bytes → part ≡ to_le_bytes w64 (get_or numbers j 0) → take (8 * j) bytes ≡ spelled (take j numbers)
    → take (8 * (j + 1)) (put_mid (8 * j) (8 * j + 8 - 8 * j) bytes part) ≡ spelled (take (j + 1) numbers)
written_more j numbers bytes part below within is so_far =
    take-put_mid (8 * j) (8 * j + 8 - 8 * j) bytes part (8 * (j + 1)) (omega (arith, ap length is)) (omega arith)
    ∙ ap (λ b. b ++ part) so_far
    ∙ ap (λ b. spelled (take j numbers) ++ b) is
    ∙ sym (spelled_more numbers j below)

-- the bytes after a number's eight bytes
after_eight : (n k : ℕ) (rest : List ℕ) → get_or (to_le_bytes w64 n ++ rest) (8 + k) 0 ≡ get_or rest k 0
after_eight n k rest =
    let eight : 8 + k ≡ suc (suc (suc (suc (suc (suc (suc (suc k))))))) = omega arith in
    ap (λ i. get_or (to_le_bytes w64 n ++ rest) i 0) eight

later : (n j i : ℕ) (rest : List ℕ) → get_or (to_le_bytes w64 n ++ rest) (8 * suc j + i) 0 ≡ get_or rest (8 * j + i) 0
later n j i rest = ap (λ k. get_or (to_le_bytes w64 n ++ rest) k 0) (omega arith) ∙ after_eight n (8 * j + i) rest

later_first : (n j : ℕ) (rest : List ℕ) → get_or (to_le_bytes w64 n ++ rest) (8 * suc j) 0 ≡ get_or rest (8 * j) 0
later_first n j rest = ap (λ k. get_or (to_le_bytes w64 n ++ rest) k 0) (omega arith) ∙ after_eight n (8 * j) rest

-- eight bytes are equal
eight_same : (a b c d e f g h a' b' c' d' e' f' g' h' : ℕ) → a ≡ a' → b ≡ b' → c ≡ c' → d ≡ d' → e ≡ e' → f ≡ f' → g ≡ g' → h ≡ h'
    → from_le_bytes w64 (a ∷ b ∷ c ∷ d ∷ e ∷ f ∷ g ∷ h ∷ []) ≡ from_le_bytes w64 (a' ∷ b' ∷ c' ∷ d' ∷ e' ∷ f' ∷ g' ∷ h' ∷ [])
eight_same a b c d e f g h a' b' c' d' e' f' g' h' p q r s t u v w = omega arith

-- the number at a later place is the number at the place before in the rest
number_later : (n j : ℕ) (rest : List ℕ) → number_in (to_le_bytes w64 n ++ rest) (suc j) ≡ number_in rest j
number_later n j rest = eight_same _ _ _ _ _ _ _ _ _ _ _ _ _ _ _ _ (later_first n j rest) (later n j 1 rest) (later n j 2 rest) (later n j 3 rest) (later n j 4 rest) (later n j 5 rest) (later n j 6 rest) (later n j 7 rest)

-- the number at a place is the one that was spelled
pub number_is : (numbers rest : List ℕ) (j : ℕ) → j < length numbers → All (λ n. n < 2 ^ 64) numbers → number_in (spelled numbers ++ rest) j ≡ get_or numbers j 0
unfolding spelled
number_is [] rest j below short = absurd (omega arith)
number_is (n ∷ numbers) rest zero below short = from_le_bytes-to_le_bytes_8 n (All-head (λ m. m < 2 ^ 64) n numbers short)
number_is (n ∷ numbers) rest (suc j) below short =
    ap (λ bytes. number_in bytes (suc j)) (append_assoc (to_le_bytes w64 n) (flat_map (to_le_bytes w64) numbers) rest)
    ∙ number_later n j (flat_map (to_le_bytes w64) numbers ++ rest)
    ∙ number_is numbers rest j (omega (arith, below)) (All-tail (λ m. m < 2 ^ 64) n numbers short)

-- the number at a place is the one that was spelled, also if a checksum follows the numbers
pub number_in_sealed : (numbers : List ℕ) (j : ℕ) → j < length numbers → All (λ n. n < 2 ^ 64) numbers → number_in (sealed_by (spelled numbers)) j ≡ get_or numbers j 0
unfolding sealed_by
number_in_sealed numbers j below short = number_is numbers _ j below short

-- numbers that were read one by one
pub all_read : (numbers read bytes : List ℕ) → length read ≡ 22 → ((k : ℕ) → k < 22 → get_or read k 0 ≡ number_in bytes k) → length numbers ≡ 22 → All (λ n. n < 2 ^ 64) numbers → bytes ≡ sealed_by (spelled numbers) → read ≡ numbers
all_read numbers read bytes many is long short spelling =
    same_number_lists read numbers (many ∙ sym long) (λ k below.
    is k (omega arith) ∙ ap (λ b. number_in b k) spelling ∙ number_in_sealed numbers k (omega arith) short)
