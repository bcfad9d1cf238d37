-- Bytes of a text that are sealed one part after the other.
use Rattle.std.proofs.Common.{◌≡◌, ℕ, zero, suc, ◌+◌, ◌-◌, ◌≤◌, ◌*◌, ◌%◌, ◌^◌, ◌<◌, ◌==◌, Bool, true, false, List, [], ◌∷◌, ◌++◌, length, drop, take, get_or, refl, sym, ap, ◌∙◌, subst, arith, Option, None, Some, append_assoc, append-nil, length-append}
use Rattle.std.specs.Prelude.{bit_xor, if◌then◌else◌}
use Rattle.std.proofs.lemmas.List.Sums.{fold-append}
use Rattle.std.proofs.lemmas.Bool.{ne_eqb}
use Rattle.std.proofs.lemmas.Bool.{le-leb, lt-leb}
use Rattle.std.proofs.lemmas.List.{take-append-drop}
use Rattle.std.specs.Int.{w64, to_be_bytes}
use Rattle.std.specs.Str.{bytes_eq}
use Rattle.std.proofs.lemmas.Slice.Eq.{bytes_eq-Decides}
use Rattle.hex.specs.Hex.{lower_digits}
use Rattle.hex.proofs.HexLemmas.{length-encode_with}
use Rattle.lv_shards.specs.Bytes.{checksum_from}
use Rattle.lv_lines.specs.Input.{has_end}
use Rattle.lv_transcript.specs.Seals.{hash_before, hash_behind, is_sealed, seal_by, sealed_behind, sealed_byte}

-- a checksum of two parts
pub checksum-append : (hash : ℕ) (xs ys : List ℕ) → checksum_from hash (xs ++ ys) ≡ checksum_from (checksum_from hash xs) ys
unfolding checksum_from
checksum-append hash xs ys = fold-append (λ (h byte : ℕ). (bit_xor h byte * 1099511628211) % 2 ^ 64) hash xs ys

pub checksum-nil : (hash : ℕ) → checksum_from hash [] ≡ hash
unfolding checksum_from
checksum-nil hash = refl

-- two parts of a text
pub sealed-append : (hash count : ℕ) (xs ys : List ℕ)
    → sealed_behind hash count (xs ++ ys) ≡ sealed_behind hash count xs ++ sealed_behind (checksum_from hash (sealed_behind hash count xs)) (count + length (sealed_behind hash count xs)) ys
unfolding sealed_behind
sealed-append hash count [] ys =
    ap (λ (h : ℕ). sealed_behind h count ys) (sym (checksum-nil hash)) ∙ ap (λ (n : ℕ). sealed_behind (checksum_from hash []) n ys) (omega arith)
sealed-append hash count (x ∷ xs) ys =
    let first = sealed_byte hash count x in
    let h = checksum_from hash first in
    let n = count + length first in
    let part = sealed_behind h n xs in
    let same : checksum_from h part ≡ checksum_from hash (first ++ part) = sym (checksum-append hash first part) in
    let many : n + length part ≡ count + length (first ++ part) = omega (arith, length-append first part) in
    ap (λ (bs : List ℕ). first ++ bs) (sealed-append h n xs ys)
    ∙ sym (append_assoc first part (sealed_behind (checksum_from h part) (n + length part) ys))
    ∙ ap (λ (k : ℕ). (first ++ part) ++ sealed_behind k (n + length part) ys) same
    ∙ ap (λ (k : ℕ). (first ++ part) ++ sealed_behind (checksum_from hash (first ++ part)) k ys) many

-- the first byte of a line, and the others
head_ends : (x : ℕ) (xs : List ℕ) → has_end (x ∷ xs) ≡ false → (x == 10) ≡ false
head_ends x xs none = of (x == 10) none
  where
    of : (b : Bool) → (if b then true else has_end xs) ≡ false → b ≡ false
    of true none = absurd (cc none)
    of false none = refl

tail_ends : (x : ℕ) (xs : List ℕ) → has_end (x ∷ xs) ≡ false → has_end xs ≡ false
tail_ends x xs none = of (x == 10) none
  where
    of : (b : Bool) → (if b then true else has_end xs) ≡ false → has_end xs ≡ false
    of true none = absurd (cc none)
    of false none = none

-- a byte that ends no line
pub kept_byte : (hash count byte : ℕ) → (byte == 10) ≡ false → sealed_byte hash count byte ≡ (if count == 8 then 51 else byte) ∷ []
unfolding sealed_byte
kept_byte hash count byte none = rw none refl

-- the LF
pub ended_byte : (hash count : ℕ) → sealed_byte hash count 10 ≡ seal_by (checksum_from hash (32 ∷ [])) ++ 10 ∷ []
unfolding sealed_byte
ended_byte hash count = refl

-- one byte of a text
pub sealed-one : (hash count byte : ℕ) → sealed_behind hash count (byte ∷ []) ≡ sealed_byte hash count byte
unfolding sealed_behind
sealed-one hash count byte = append-nil (sealed_byte hash count byte)

-- a byte that ends no line, as a text
pub sealed_kept : (hash count byte there : ℕ) → (byte == 10) ≡ false → there ≡ (if count == 8 then 51 else byte) → sealed_behind hash count (byte ∷ []) ≡ there ∷ []
sealed_kept hash count byte there none is = sealed-one hash count byte ∙ kept_byte hash count byte none ∙ ap (λ (b : ℕ). b ∷ []) (sym is)

-- no byte of a line is LF
pub kept_at : (xs : List ℕ) (i : ℕ) → has_end xs ≡ false → i < length xs → (get_or xs i 0 == 10) ≡ false
kept_at [] i none below = absurd (omega (arith, below))
kept_at (x ∷ xs) zero none below = head_ends x xs none
kept_at (x ∷ xs) (suc i) none below = kept_at xs i (tail_ends x xs none) (omega (arith, below))

-- a line has as many bytes there
pub sealed-length : (hash count : ℕ) (xs : List ℕ) → has_end xs ≡ false → length (sealed_behind hash count xs) ≡ length xs
unfolding sealed_behind
sealed-length hash count [] none = refl
sealed-length hash count (x ∷ xs) none =
    let first = sealed_byte hash count x in
    let one : length first ≡ 1 = ap length (kept_byte hash count x (head_ends x xs none)) in
    let rest = sealed_behind (checksum_from hash first) (count + length first) xs in
    omega (arith, one, length-append first rest, sealed-length (checksum_from hash first) (count + length first) xs (tail_ends x xs none))

-- a seal has 17 bytes, and begins with a space
pub seal-length : (hash : ℕ) → length (seal_by hash) ≡ 17
unfolding seal_by
seal-length hash = omega (arith, length-encode_with lower_digits (to_be_bytes w64 hash))

pub seal_parts : (hash : ℕ) → seal_by hash ≡ 32 ∷ drop 1 (seal_by hash)
unfolding seal_by
seal_parts hash = refl

pub parts_of_seal : (seal : List ℕ) (hash : ℕ) → seal ≡ seal_by hash → seal ≡ 32 ∷ drop 1 seal
parts_of_seal seal hash is = is ∙ seal_parts hash ∙ ap (λ (s : List ℕ). 32 ∷ drop 1 s) (sym is)

-- bytes of a line after the first ones are as they are
pub sealed-piece : (hash count : ℕ) (xs : List ℕ) → has_end xs ≡ false → 8 < count → sealed_behind hash count xs ≡ xs
unfolding sealed_behind
sealed-piece hash count [] none behind = refl
sealed-piece hash count (x ∷ xs) none behind =
    let other : (count == 8) ≡ false = ne_eqb count 8 (λ is. omega (arith, is, behind)) in
    let first : sealed_byte hash count x ≡ x ∷ [] = kept_byte hash count x (head_ends x xs none) ∙ ap (λ (b : Bool). (if b then 51 else x) ∷ []) other in
    ap (λ (bs : List ℕ). bs ++ sealed_behind (checksum_from hash bs) (count + length bs) xs) first
    ∙ ap (λ (bs : List ℕ). x ∷ bs) (sealed-piece (checksum_from hash (x ∷ [])) (count + 1) xs (tail_ends x xs none) (omega (arith, behind)))

-- a text was put, sealed, after what was held: what is held then, and the checksum and the number of all bytes
pub record AreSealed (start : List ℕ) (hash count : ℕ) (text held : List ℕ) (hash_now count_now : ℕ) : Type 0 where
  pub items : held ≡ start ++ sealed_behind hash count text
  pub hash_is : hash_now ≡ checksum_from hash (sealed_behind hash count text)
  pub count_is : count_now ≡ count + length (sealed_behind hash count text)

pub sealed_none : (start : List ℕ) (hash count : ℕ) → AreSealed start hash count [] start hash count
unfolding sealed_behind
sealed_none start hash count = record { items = sym (append-nil start); hash_is = sym (checksum-nil hash); count_is = omega arith }

-- more of a text
pub sealed_more : (start : List ℕ) (hash count : ℕ) (text more held new : List ℕ) (h n h_new n_new : ℕ) → AreSealed start hash count text held h n → new ≡ held ++ sealed_behind h n more
    → h_new ≡ checksum_from h (sealed_behind h n more) → n_new ≡ n + length (sealed_behind h n more) → AreSealed start hash count (text ++ more) new h_new n_new
sealed_more start hash count text more held new h n h_new n_new s items hash_is count_is =
    let front = sealed_behind hash count text in
    let part = sealed_behind h n more in
    let all : sealed_behind hash count (text ++ more) ≡ front ++ part =
    sealed-append hash count text more
    ∙ ap (λ (k : ℕ). front ++ sealed_behind k (count + length front) more) (sym s.hash_is)
    ∙ ap (λ (k : ℕ). front ++ sealed_behind h k more) (sym s.count_is) in
    record {
      items = items ∙ ap (λ (bs : List ℕ). bs ++ part) s.items ∙ append_assoc start front part ∙ ap (λ (bs : List ℕ). start ++ bs) (sym all);
      hash_is = hash_is ∙ ap (λ (k : ℕ). checksum_from k part) s.hash_is ∙ sym (checksum-append hash front part) ∙ ap (checksum_from hash) (sym all);
      count_is = omega (arith, count_is, s.count_is, ap length all, length-append front part);
    }

-- a line more
pub sealed_line : (start : List ℕ) (hash count : ℕ) (text piece held mid new : List ℕ) (h n h_mid h_new n_new : ℕ) → AreSealed start hash count text held h n
    → mid ≡ held ++ sealed_behind h n piece → h_mid ≡ checksum_from h (sealed_behind h n piece) → new ≡ mid ++ (seal_by (checksum_from h_mid (32 ∷ [])) ++ 10 ∷ [])
    → h_new ≡ checksum_from h_mid (seal_by (checksum_from h_mid (32 ∷ [])) ++ 10 ∷ []) → n_new ≡ n + length (sealed_behind h n piece) + length (seal_by (checksum_from h_mid (32 ∷ [])) ++ 10 ∷ [])
    → AreSealed start hash count (text ++ (piece ++ 10 ∷ [])) new h_new n_new
sealed_line start hash count text piece held mid new h n h_mid h_new n_new s mid_is h_mid_is new_is h_new_is n_new_is =
    let first = sealed_more start hash count text piece held mid h n h_mid (n + length (sealed_behind h n piece)) s mid_is h_mid_is refl in
    let n_mid = n + length (sealed_behind h n piece) in
    let last : sealed_behind h_mid n_mid (10 ∷ []) ≡ seal_by (checksum_from h_mid (32 ∷ [])) ++ 10 ∷ [] = sealed-one h_mid n_mid 10 ∙ ended_byte h_mid n_mid in
    let both = sealed_more start hash count (text ++ piece) (10 ∷ []) mid new h_mid n_mid h_new n_new first
    (new_is ∙ ap (λ (bs : List ℕ). mid ++ bs) (sym last)) (h_new_is ∙ ap (checksum_from h_mid) (sym last)) (n_new_is ∙ ap (λ (bs : List ℕ). n_mid + length bs) (sym last)) in
    subst (λ (t : List ℕ). AreSealed start hash count t new h_new n_new) (append_assoc text piece (10 ∷ [])) both

-- ---- how a line's seal is checked

-- a line that is shorter than a seal, or too long
pub short_line : (hash : ℕ) (line : List ℕ) → length line < 17 → is_sealed hash line ≡ false
unfolding is_sealed
short_line hash line short = rw (lt-leb 17 (length line) short) refl

pub long_line : (hash : ℕ) (line : List ℕ) → 17 ≤ length line → 137 < length line → is_sealed hash line ≡ false
unfolding is_sealed
long_line hash line some long = rw (le-leb 17 (length line) some, lt-leb (length line) 137 long) refl

-- any other, by its last bytes and the seal that it should have
pub tested_line : (hash : ℕ) (line there seal : List ℕ) (before : ℕ) → 17 ≤ length line → length line ≤ 137 → there ≡ drop (length line - 17) line → seal ≡ seal_by before
    → before ≡ hash_before hash (take (length line - 17) line) → is_sealed hash line ≡ bytes_eq there seal
unfolding is_sealed
tested_line hash line there seal before some few there_is seal_is before_is =
    rw (le-leb 17 (length line) some, le-leb (length line) 137 few)
    (ap (λ (bs : List ℕ). bytes_eq bs (seal_by (hash_before hash (take (length line - 17) line)))) (sym there_is) ∙ ap (bytes_eq there) (ap seal_by (sym before_is) ∙ sym seal_is))

-- the checksum up to its LF, by parts
pub hash_of_parts : (hash : ℕ) (line text there digits : List ℕ) (n before last all : ℕ) → text ≡ take n line → there ≡ drop n line → there ≡ 32 ∷ digits → before ≡ checksum_from (checksum_from hash text) (32 ∷ [])
    → last ≡ checksum_from before digits → all ≡ checksum_from last (10 ∷ []) → all ≡ checksum_from hash (line ++ 10 ∷ [])
hash_of_parts hash line text there digits n before last all text_is there_is parts before_is last_is all_is =
    let whole : line ≡ text ++ (32 ∷ digits) = sym (take-append-drop n line) ∙ ap (λ (bs : List ℕ). bs ++ drop n line) (sym text_is) ∙ ap (λ (bs : List ℕ). text ++ bs) (sym there_is ∙ parts) in
    let space : before ≡ checksum_from hash (text ++ 32 ∷ []) = before_is ∙ sym (checksum-append hash text (32 ∷ [])) in
    let up_to : last ≡ checksum_from hash ((text ++ 32 ∷ []) ++ digits) = last_is ∙ ap (λ (h : ℕ). checksum_from h digits) space ∙ sym (checksum-append hash (text ++ 32 ∷ []) digits) in
    let same : line ≡ (text ++ 32 ∷ []) ++ digits = whole ∙ sym (append_assoc text (32 ∷ []) digits) in
    all_is ∙ ap (λ (h : ℕ). checksum_from h (10 ∷ [])) (up_to ∙ ap (checksum_from hash) (sym same)) ∙ sym (checksum-append hash line (10 ∷ []))

-- the checksum after a line that is not rightly sealed, and after one that is
pub told_wrong : (hash : ℕ) (line : List ℕ) → is_sealed hash line ≡ false → None ≡ hash_behind (Some hash) line
told_wrong hash line wrong = rw wrong refl

pub told_right : (hash : ℕ) (line : List ℕ) (all : ℕ) → is_sealed hash line ≡ true → all ≡ checksum_from hash (line ++ 10 ∷ []) → Some all ≡ hash_behind (Some hash) line
told_right hash line all right is = rw right (ap Some is)

-- the bytes of a seal that was found
pub same_bytes : (there seal : List ℕ) → bytes_eq there seal ≡ true → there ≡ seal
same_bytes there seal same = (bytes_eq-Decides there seal).0 same
