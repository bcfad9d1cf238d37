-- Words with one space between each two are the words of that line.
use Rattle.std.proofs.Common.{◌≡◌, ℕ, suc, ◌+◌, ◌-◌, ◌*◌, ◌^◌, ◌<◌, ◌≤◌, Bool, true, false, List, [], ◌∷◌, ◌++◌, length, get_or, take, drop, lit≤, lit<, filter, ◌&&◌, nat_eq, nat_le, ℤ, pos, negsuc, refl, sym, ap, ◌∙◌, arith, length-append}
use Rattle.std.specs.Prelude.{decimal}
use Rattle.std.specs.Fmt.{signed_decimal}
use Rattle.std.specs.List.{list_all, All}
use Rattle.std.specs.Cmp.Lexicographic.{pointwise}
use Rattle.std.specs.Str.{all_ascii_digits}
use Rattle.std.specs.Char.{is_ascii_digit}
use Rattle.std.proofs.lemmas.Bool.{and_parts, and_left, leb-true, ne_eqb, cond-false, cond-true}
use Rattle.std.proofs.lemmas.Bool.Decides.{nat_tests}
use Rattle.std.proofs.lemmas.Fmt.{digits_decimal, decimal_nonempty, length-decimal-le}
use Rattle.std.proofs.lemmas.List.{append-nil, drop_more}
use Rattle.std.proofs.lemmas.List.Elements.{All-nil, All-cons, All-append, All-weaker}
use Rattle.std.proofs.lemmas.List.Splits.{slice_split_none, slice_split_at}
use Rattle.lv_bodies.specs.Names.{is_name_byte, IsName}
use Rattle.lv_bodies.proofs.KeptNames.{bytes_of_name, length_of_name}
use Rattle.lv_geometry.specs.Elements.{IsElement}
use Rattle.lv_lines.specs.Words.{is_space, is_word, words_of, spaced, behind_spaces}
use Rattle.lv_lines.specs.Grammar.{without_cr}
use Rattle.lv_lines.proofs.PrintedNumbers.{digits, is_word-some, digit_range}

-- spaced words are the first, and each other after a space
pub spaced-cons : (word : List ℕ) (words : List (List ℕ)) → spaced (word ∷ words) ≡ word ++ behind_spaces words
spaced-cons word [] = sym (append-nil word)
spaced-cons word (other ∷ words) = ap (λ rest. word ++ (32 ∷ rest)) (spaced-cons other words)

-- a byte above the space
abbrev pub IsVisible : ℕ → Type 0
IsVisible b = 33 ≤ b

-- a byte from the space on
abbrev pub IsPrintable : ℕ → Type 0
IsPrintable b = 32 ≤ b

-- a word as commands print them: 1 to 20 bytes above the space
pub record IsPlainWord (word : List ℕ) : Type 0 where
  pub some : is_word word ≡ true
  pub short : length word ≤ 20
  pub visible : All IsVisible word

-- words of that kind
abbrev pub ArePlainWords : List (List ℕ) → Type 0
ArePlainWords [] = Unit {0}
ArePlainWords (word ∷ words) = IsPlainWord word × ArePlainWords words

-- a plain word has no space
pub no_space : (word : List ℕ) → IsPlainWord word → All (λ b. is_space b ≡ false) word
no_space word plain =
    All-weaker IsVisible (λ b. is_space b ≡ false) (λ b visible. ne_eqb b 32 (λ same. omega (arith, visible))) word plain.visible

-- and no byte below the space
pub no_control : (word : List ℕ) → IsPlainWord word → All IsPrintable word
no_control word plain = All-weaker IsVisible IsPrintable (λ b visible. omega (arith, visible)) word plain.visible

-- the words of a line of plain words are these
pub words_of-spaced : (words : List (List ℕ)) → ArePlainWords words → words_of (spaced words) ≡ words
unfolding words_of
words_of-spaced [] plain = refl
words_of-spaced (word ∷ []) plain =
    ap (filter is_word) (slice_split_none is_space word (no_space word plain.0)) ∙ cond-true _ (word ∷ []) [] plain.0.some
words_of-spaced (word ∷ other ∷ words) plain =
    let first = slice_split_at is_space word 32 (spaced (other ∷ words)) (no_space word plain.0) refl in
    ap (filter is_word) first ∙ cond-true _ _ _ plain.0.some
    ∙ ap (λ rest. word ∷ rest) (words_of-spaced (other ∷ words) plain.1)

-- plain words with spaces between them are short
pub length-spaced : (words : List (List ℕ)) → ArePlainWords words → length (spaced words) ≤ 21 * length words
length-spaced [] plain = omega arith
length-spaced (word ∷ []) plain = omega (arith, plain.0.short)
length-spaced (word ∷ other ∷ words) plain =
    omega (arith, plain.0.short, length-spaced (other ∷ words) plain.1, length-append word (32 ∷ spaced (other ∷ words)))

-- and their bytes are all printable, none below the space
pub spaced_printable : (words : List (List ℕ)) → ArePlainWords words → All IsPrintable (spaced words)
spaced_printable [] plain = All-nil IsPrintable
spaced_printable (word ∷ []) plain = no_control word plain.0
spaced_printable (word ∷ other ∷ words) plain =
    All-append IsPrintable word (32 ∷ spaced (other ∷ words)) (no_control word plain.0)
    (All-cons IsPrintable 32 (spaced (other ∷ words)) (lit≤ tt) (spaced_printable (other ∷ words) plain.1))

-- bytes whose last is no CR do not end with one
pub no_cr_at_end : (b : ℕ) (rest : List ℕ) → IsPrintable b → pointwise nat_eq (13 ∷ []) (b ∷ rest) ≡ false
no_cr_at_end b rest printable = and_left (nat_eq 13 b) (pointwise nat_eq [] rest) (ne_eqb 13 b (λ same. omega arith))

-- bytes without a CR lose none
pub without_cr-none : (bytes : List ℕ) → All IsPrintable bytes → without_cr bytes ≡ bytes
without_cr-none [] printable = refl
without_cr-none (b ∷ front) printable =
    let bytes = b ∷ front in
    let at = length bytes - 1 in
    let within : at < length bytes = omega arith in
    let last : drop at bytes ≡ get_or bytes at 0 ∷ drop (at + 1) bytes = drop_more bytes at 0 within in
    let other = no_cr_at_end (get_or bytes at 0) (drop (at + 1) bytes) (printable at 0 within) in
    cond-false _ (take at bytes) bytes (ap (pointwise nat_eq (13 ∷ [])) last ∙ other)

-- a list of digits is plain
pub plain_digits : (bytes : List ℕ) → all_ascii_digits bytes ≡ true → All IsVisible bytes
plain_digits [] h = All-nil IsVisible
plain_digits (b ∷ bytes) h =
    let parts = and_parts (is_ascii_digit b) _ h in
    All-cons IsVisible b bytes (omega (arith, (digit_range b parts.0).0)) (plain_digits bytes parts.1)

-- the words of commands are plain: a number
pub plain_number : (n : ℕ) → n < 2 ^ 32 → IsPlainWord (decimal n)
plain_number n small = record {
  some = is_word-some (decimal n) (decimal_nonempty n (omega arith));
  short = length-decimal-le 20 n (lit< tt) (omega arith) (omega arith);
  visible = plain_digits (decimal n) (digits_decimal digits n (omega arith));
}

-- an element
pub plain_element : (z : ℤ) → IsElement z → IsPlainWord (signed_decimal z)
plain_element (pos n) fits =
    record {
      some = is_word-some (decimal n) (decimal_nonempty n (omega (arith, fits.sfits)));
      short = length-decimal-le 20 n (lit< tt) (omega (arith, fits.sfits)) (omega (arith, fits.sfits));
      visible = plain_digits (decimal n) (digits_decimal digits n (omega (arith, fits.sfits)));
    }
plain_element (negsuc n) fits =
    record {
      some = refl;
      short = omega (arith, length-decimal-le 19 (suc n) (lit< tt) (omega (arith, fits.sfits)) (omega (arith, fits.sfits)));
      visible = All-cons IsVisible 45 (decimal (suc n)) (lit≤ tt) (plain_digits (decimal (suc n)) (digits_decimal digits (suc n) (omega (arith, fits.sfits))));
    }

-- a byte of a name
pub visible_name_byte : (b : ℕ) → is_name_byte b ≡ true → IsVisible b
visible_name_byte b h = grind (arith, nat_tests)

-- the bytes of a name
pub visible_name : (bytes : List ℕ) → list_all is_name_byte bytes ≡ true → All IsVisible bytes
visible_name [] h = All-nil IsVisible
visible_name (b ∷ bytes) h =
    let parts = and_parts (is_name_byte b) _ h in
    All-cons IsVisible b bytes (visible_name_byte b parts.0) (visible_name bytes parts.1)

-- a name
pub plain_name : (name : List ℕ) → IsName name → IsPlainWord name
plain_name name named = record {
  some = is_word-some name (leb-true 1 (length name) (and_parts _ _ (and_parts _ _ named).0).0);
  short = omega (arith, length_of_name name named);
  visible = visible_name name (bytes_of_name name named);
}

-- whether bytes above the space are a plain word, as a test that computes
abbrev pub is_plain : List ℕ → Bool
is_plain bytes = is_word bytes && nat_le (length bytes) 20 && list_all (λ b. nat_le 33 b) bytes

-- bytes that are all from 33 on
pub visible_bytes : (bytes : List ℕ) → list_all (λ b. nat_le 33 b) bytes ≡ true → All IsVisible bytes
visible_bytes [] h = All-nil IsVisible
visible_bytes (b ∷ bytes) h =
    let parts = and_parts (nat_le 33 b) _ h in
    All-cons IsVisible b bytes (leb-true 33 b parts.0) (visible_bytes bytes parts.1)

-- a fixed word
pub plain_text : (word : List ℕ) → is_plain word ≡ true → IsPlainWord word
plain_text word h =
    let parts = and_parts (is_word word && nat_le (length word) 20) _ h in
    let front = and_parts (is_word word) (nat_le (length word) 20) parts.0 in
    record { some = front.0; short = leb-true (length word) 20 front.1; visible = visible_bytes word parts.1 }
