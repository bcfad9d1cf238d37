-- How the first word of a text is read in place, as digits up to a space or the end.
use Rattle.std.proofs.Common.{◌≡◌, ℕ, zero, suc, ◌<◌, ◌≤◌, true, false, List, [], ◌∷◌, ◌++◌, length, get_or, take, drop, Some, option_map, nat_eq, nat_le, codes, ℤ, pos, neg_ℤ, refl, sym, ap, subst, ◌∙◌, arith, append-nil}
use Rattle.std.specs.List.{starts_with}
use Rattle.std.specs.Str.{all_ascii_digits}
use Rattle.std.proofs.lemmas.Bool.{and_parts}
use Rattle.std.proofs.lemmas.Option.{cond_some}
use Rattle.std.proofs.lemmas.List.{drop_more}
use Rattle.std.proofs.lemmas.List.Sums.{position_or_len_is}
use Rattle.lv_geometry.specs.Elements.{IsElement}
use Rattle.lv_lines.specs.Words.{is_space, is_word, words_of}
use Rattle.lv_lines.specs.Numbers.{allowed, element_in, is_element, number_up_to, numeral_in, value_of}
use Rattle.lv_lines.proofs.CutWords.{words_of-first}
use Rattle.lv_lines.proofs.PrintedNumbers.{digits_unsigned}
use Rattle.lv_lines.proofs.ReadDigits.{is_element_decides, numeral_from, signed-minus, signed-plain}

-- ---- digits at the front

-- some digits that were read to the end are a numeral
pub numeral_read : (word : List ℕ) (n : ℕ) → 0 < length word → ((more : List ℕ) → numeral_from 0 (word ++ more) ≡ numeral_from n more) → numeral_in word ≡ Some n
numeral_read [] n some read = absurd (omega arith)
numeral_read (b ∷ bytes) n some read = ap (numeral_from 0) (sym (append-nil (b ∷ bytes))) ∙ read []

-- ---- the first word

-- a text whose first bytes are no spaces, up to a space or the end, begins with these bytes as a word
pub cut_at : (text : List ℕ) (n : ℕ) → 0 < n → n ≤ length text → ((k : ℕ) → k < n → is_space (get_or text k 0) ≡ false)
    → (0 < length (drop n text) → is_space (get_or (drop n text) 0 0) ≡ true) → words_of text ≡ take n text ∷ words_of (drop n text)
cut_at [] n some within none ends = absurd (omega arith)
cut_at (b ∷ bytes) n some within none ends =
    let text : List ℕ = b ∷ bytes in
    let at = position_or_len_is is_space text n 0 within none (λ below. subst (λ (xs : List ℕ). 0 < length xs → is_space (get_or xs 0 0) ≡ true) (drop_more text n 0 below) ends (omega arith)) in
    words_of-first b bytes (none 0 some) ∙ ap (λ (m : ℕ). take m text ∷ words_of (drop m text)) at

-- if neither a byte nor those after it are spaces, none of them is
none_behind : (b : ℕ) (text : List ℕ) (n : ℕ) → is_space b ≡ false → ((k : ℕ) → k < n → is_space (get_or text k 0) ≡ false) → (k : ℕ) → k < suc n → is_space (get_or (b ∷ text) k 0) ≡ false
none_behind b text n other none zero below = other
none_behind b text n other none (suc k) below = none k (omega arith)

-- bytes without a space, after one more such byte, up to a space or the end, are the first word together with it
pub cut_behind : (b n : ℕ) (text : List ℕ) → is_space b ≡ false → n ≤ length text → ((k : ℕ) → k < n → is_space (get_or text k 0) ≡ false)
    → (0 < length (drop n text) → is_space (get_or (drop n text) 0 0) ≡ true) → words_of (b ∷ text) ≡ (b ∷ take n text) ∷ words_of (drop n text)
cut_behind b n text other within none ends =
    cut_at (b ∷ text) (suc n) (omega arith) (omega arith) (none_behind b text n other none) ends

-- digits at the start of a text, up to a space or the end, are its first word
pub first_cut : (bytes text rest : List ℕ) (n : ℕ) → words_of bytes ≡ words_of text → 0 < n → n ≤ length text → ((k : ℕ) → k < n → is_space (get_or text k 0) ≡ false)
    → rest ≡ drop n text → (0 < length rest → is_space (get_or rest 0 0) ≡ true) → words_of bytes ≡ take n text ∷ words_of rest
first_cut bytes text rest n same some within none cut ends =
    same ∙ cut_at text n some within none (subst (λ (xs : List ℕ). 0 < length xs → is_space (get_or xs 0 0) ≡ true) cut ends)
    ∙ ap (λ (xs : List ℕ). take n text ∷ words_of xs) (sym cut)

-- a text that begins with `-`
headed : (text : List ℕ) → 0 < length text → get_or text 0 0 ≡ 45 → text ≡ 45 ∷ drop 1 text
headed [] some minus = absurd (omega arith)
headed (b ∷ bytes) some minus = ap (λ (c : ℕ). c ∷ bytes) minus

-- a `-` and digits at the start of a text, up to a space or the end, are its first word
pub negative_cut : (text digits rest : List ℕ) (n : ℕ) → 0 < length text → get_or text 0 0 ≡ 45 → digits ≡ drop 1 text → n ≤ length digits
    → ((k : ℕ) → k < n → is_space (get_or digits k 0) ≡ false) → rest ≡ drop n digits → (0 < length rest → is_space (get_or rest 0 0) ≡ true)
    → words_of text ≡ (45 ∷ take n digits) ∷ words_of rest
negative_cut text digits rest n some minus behind within none cut ends =
    ap words_of (headed text some minus ∙ ap (λ (xs : List ℕ). 45 ∷ xs) (sym behind))
    ∙ cut_behind 45 n digits refl within none (subst (λ (xs : List ℕ). 0 < length xs → is_space (get_or xs 0 0) ≡ true) cut ends)
    ∙ ap (λ (xs : List ℕ). (45 ∷ take n digits) ∷ words_of xs) (sym cut)

-- ---- what the first word is read as

-- digits are a number if their value is one
pub number_read : (most : ℕ) (word : List ℕ) (n : ℕ) → numeral_in word ≡ Some n → number_up_to most word ≡ allowed (λ n. nat_le n most) (Some n)
unfolding number_up_to
number_read most word n read = ap (allowed (λ n. nat_le n most)) read

-- what is a numeral has no sign
pub unsigned_read : (word : List ℕ) (n : ℕ) → numeral_in word ≡ Some n → starts_with nat_eq word (codes "-") ≡ false
unsigned_read word n read =
    digits_unsigned word (and_parts (is_word word) (all_ascii_digits word) (cond_some _ (value_of word) n read).0).1

-- digits are an element if their value is one
pub positive_read : (word : List ℕ) (n : ℕ) → numeral_in word ≡ Some n → element_in word ≡ allowed is_element (Some (pos n))
unfolding element_in
positive_read word n read =
    ap (allowed is_element) (signed-plain word (unsigned_read word n read) ∙ ap (option_map pos) read)

-- digits after `-` are an element if their value with its sign changed is one
pub negative_read : (digits : List ℕ) (n : ℕ) → numeral_in digits ≡ Some n → element_in (45 ∷ digits) ≡ allowed is_element (Some (neg_ℤ (pos n)))
unfolding element_in
negative_read digits n read =
    ap (allowed is_element) (signed-minus (45 ∷ digits) refl ∙ ap (option_map (λ n. neg_ℤ (pos n))) read)

-- what is allowed as an element is one
pub fits_element : (z x : ℤ) → allowed is_element (Some z) ≡ Some x → IsElement x
fits_element z x fit =
    let parts = cond_some (is_element z) z x fit in
    subst IsElement parts.1 ((is_element_decides z).0 parts.0)
