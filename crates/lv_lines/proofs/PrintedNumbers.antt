-- The text of a number is read as that number.
use Rattle.std.proofs.Common.{◌≡◌, ℕ, suc, ◌^◌, ◌<◌, ◌≤◌, true, false, List, [], ◌∷◌, length, Some, None, option_map, codes, nat_eq, nat_le, ℤ, pos, negsuc, neg_ℤ, refl, ap, ◌∙◌, arith, rules}
use Rattle.std.specs.Prelude.{decimal}
use Rattle.std.specs.Fmt.{signed_decimal}
use Rattle.std.specs.List.{starts_with}
use Rattle.std.specs.Str.{all_ascii_digits}
use Rattle.std.specs.Char.{is_ascii_digit}
use Rattle.std.proofs.lemmas.Bool.{and_parts, and_from, and_left, leb-true, le-leb, ne_eqb, cond-true}
use Rattle.std.proofs.lemmas.Fmt.{digits_decimal, digits_value-decimal, decimal_nonempty}
use Rattle.std.proofs.lemmas.Str.Parse.{IsNumeralModel, numerals_by_fold, tells_all_ascii_digits}
use Rattle.lv_geometry.specs.Elements.{IsElement}
use Rattle.lv_lines.specs.Words.{is_word}
use Rattle.lv_lines.specs.Numbers.{value_of, numeral_in, number_in, number_up_to, most_32, element_in, allowed, is_element}
use Rattle.lv_lines.proofs.ReadDigits.{value_from, is_element_decides, signed-plain, signed-minus}

-- digits and their value are std's
pub digits : IsNumeralModel (λ ds. all_ascii_digits ds ≡ true) value_of
digits = numerals_by_fold _ tells_all_ascii_digits value_from (search rules)

-- a list with a length is a word
pub is_word-some : (bytes : List ℕ) → 0 < length bytes → is_word bytes ≡ true
is_word-some [] h = absurd (omega arith)
is_word-some (b ∷ bytes) h = refl

-- the digits of a number denote it
pub numeral_in-decimal : (n : ℕ) → n < 2 ^ 64 → numeral_in (decimal n) ≡ Some n
numeral_in-decimal n small =
    cond-true _ _ None (and_from _ _ (is_word-some (decimal n) (decimal_nonempty n small)) (digits_decimal digits n small))
    ∙ ap Some (digits_value-decimal digits n small)

-- a number is read from its digits
pub number_in-decimal : (n : ℕ) → n < 2 ^ 32 → number_in (decimal n) ≡ Some n
unfolding number_up_to
number_in-decimal n small =
    ap (allowed (λ n. nat_le n most_32)) (numeral_in-decimal n (omega arith)) ∙ cond-true _ (Some n) None (le-leb n most_32 (omega arith))

-- a digit is from 48 to 57
pub digit_range : (b : ℕ) → is_ascii_digit b ≡ true → (48 ≤ b) × (b ≤ 57)
digit_range b digit =
    let parts = and_parts _ _ digit in
    (leb-true 48 b parts.0, leb-true b 57 parts.1)

-- digits begin with no `-`
pub digits_unsigned : (bytes : List ℕ) → all_ascii_digits bytes ≡ true → starts_with nat_eq bytes (codes "-") ≡ false
digits_unsigned [] h = refl
digits_unsigned (b ∷ bytes) h =
    let digit = (digit_range b (and_parts (is_ascii_digit b) _ h).0).0 in
    and_left (nat_eq 45 b) true (ne_eqb 45 b (λ same. omega arith))

-- an element is read from its digits
pub element_in-signed_decimal : (z : ℤ) → IsElement z → element_in (signed_decimal z) ≡ Some z
unfolding element_in
element_in-signed_decimal (pos n) fits =
    let small : n < 2 ^ 64 = omega (arith, fits.sfits) in
    ap (allowed is_element) (signed-plain (decimal n) (digits_unsigned (decimal n) (digits_decimal digits n small)) ∙ ap (option_map pos) (numeral_in-decimal n small))
    ∙ cond-true _ (Some (pos n)) None ((is_element_decides (pos n)).1 fits)
element_in-signed_decimal (negsuc n) fits =
    let small : suc n < 2 ^ 64 = omega (arith, fits.sfits) in
    ap (allowed is_element) (signed-minus (45 ∷ decimal (suc n)) refl ∙ ap (option_map (λ n. neg_ℤ (pos n))) (numeral_in-decimal (suc n) small))
    ∙ cond-true _ (Some (negsuc n)) None ((is_element_decides (negsuc n)).1 fits)
