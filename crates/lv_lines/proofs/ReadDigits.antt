-- How the digits of a number are read, from the left, and which values fit their types.
use Rattle.std.proofs.Common.{◌≡◌, ℕ, ◌+◌, ◌-◌, ◌*◌, ◌^◌, ◌<◌, ◌≤◌, Bool, true, false, cond, List, [], ◌∷◌, fold, length, get_or, drop, Option, Some, None, Result, Ok, Err, ℤ, pos, negsuc, neg_ℤ, zero, suc, Decides, ◌-ℤ◌, option_map, codes, nat_eq, nat_le, refl, sym, ap, ◌∙◌, arith, inl, inr}
use Rattle.std.specs.List.{starts_with}
use Rattle.std.specs.Str.{all_ascii_digits}
use Rattle.std.specs.Char.{is_ascii_digit}
use Rattle.std.proofs.lemmas.Bool.{cases_Bool, le-ltb, leb-true, lt-ltb, ltb-true, ltb-false, false_from_ne_true, cond-true, cond-false}
use Rattle.std.specs.Option.{SomeIff}
use Rattle.std.specs.Result.{OkIff, result_ok}
use Rattle.std.proofs.lemmas.Option.{none-some, cond_some}
use Rattle.std.proofs.Math.Nat.{pow-le-pow_right}
use Rattle.std.proofs.lemmas.Int.{ints}
use Rattle.std.proofs.lemmas.List.{drop_more}
use Rattle.lv_geometry.specs.Elements.{IsElement}
use Rattle.lv_lines.specs.Numbers.{numeral_in, signed_numeral_in, allowed, fits_64, is_element}

-- the number that digits denote after others that denote n
abbrev pub value_from : ℕ → List ℕ → ℕ
value_from n digits = fold (λ n digit. 10 * n + (digit - 48)) n digits

-- the number that a word of digits denotes after others that denote n, if it has digits only
abbrev pub numeral_from : ℕ → List ℕ → Option ℕ
numeral_from n digits = cond (all_ascii_digits digits) (Some (value_from n digits)) None

-- more digits make no smaller number
pub value_from-le : (n : ℕ) (digits : List ℕ) → n ≤ value_from n digits
value_from-le n [] = omega arith
value_from-le n (digit ∷ digits) = omega (arith, value_from-le (10 * n + (digit - 48)) digits)

-- what has no 64 bits so far never has
pub too_large : (n : ℕ) (digits : List ℕ) → 2 ^ 64 ≤ n → allowed fits_64 (numeral_from n digits) ≡ None
too_large n digits large =
    elim (cases_Bool (all_ascii_digits digits)) [
      | inl all ↦ rw (all, le-ltb (value_from n digits) (2 ^ 64) (omega (arith, value_from-le n digits))) refl
      | inr some_other ↦ rw some_other refl
    ]

-- a digit is read
pub numeral_from-digit : (n digit : ℕ) (digits : List ℕ) → is_ascii_digit digit ≡ true → numeral_from n (digit ∷ digits) ≡ numeral_from (10 * n + (digit - 48)) digits
numeral_from-digit n digit digits is_digit = rw is_digit refl

-- a digit that makes the number too large
pub overflow : (n i : ℕ) (digits : List ℕ) (read : Option ℕ) → i < length digits → is_ascii_digit (get_or digits i 0) ≡ true → numeral_from n (drop i digits) ≡ read → 2 ^ 64 ≤ 10 * n + (get_or digits i 0 - 48) → allowed fits_64 read ≡ None
overflow n i digits read within digit so_far large =
    let step = numeral_from-digit n (get_or digits i 0) (drop (i + 1) digits) digit in
    ap (allowed fits_64) (sym so_far ∙ ap (numeral_from n) (drop_more digits i 0 within) ∙ step)
    ∙ too_large _ (drop (i + 1) digits) large

-- the value of fewer than 19 digits has room for one more
pub room_for_digit : (n i : ℕ) → n < 10 ^ i → i < 19 → n < 10 ^ 18
room_for_digit n i few below =
    let some : 0 < 10 = omega arith in
    let order : i ≤ 18 = omega arith in
    omega (arith, few, pow-le-pow_right some order)

-- what is not allowed fails the test
pub fails_test : {X : Type 0} (test : X → Bool) (x : X) → allowed test (Some x) ≡ None → test x ≡ false
fails_test test x none =
    false_from_ne_true (test x) (λ passes. none-some x (sym none ∙ cond-true _ (Some x) None passes))

-- the number that is read in 64 bits is the one that the digits denote
pub read_in_64 : (read : Option ℕ) (n : ℕ) → allowed fits_64 read ≡ Some n → read ≡ Some n
read_in_64 None n h = absurd (none-some n h)
read_in_64 (Some m) n h = ap Some (cond_some _ m n h).1

-- an integer is an element if and only if it fits its type
pub is_element_decides : (z : ℤ) → Decides (is_element z) (IsElement z)
is_element_decides (pos n) = (λ h. record { sfits = ltb-true n (2 ^ 63) h }, λ fits. lt-ltb n (2 ^ 63) fits.sfits)
is_element_decides (negsuc n) = (λ h. record { sfits = ltb-true n (2 ^ 63) h }, λ fits. lt-ltb n (2 ^ 63) fits.sfits)

-- what has more than 64 bits is past every bound of 64 bits
pub no_number : (most : ℕ) (read : Option ℕ) → most < 2 ^ 64 → allowed fits_64 read ≡ None → allowed (λ n. nat_le n most) read ≡ None
no_number most None small h = refl
no_number most (Some n) small h = cond-false _ (Some n) None (false_from_ne_true (nat_le n most) (λ is. omega (arith, leb-true n most is, ltb-false n (2 ^ 64) (fails_test fits_64 n h))))

-- nor an element
pub no_positive : (read : Option ℕ) → allowed fits_64 read ≡ None → allowed is_element (option_map pos read) ≡ None
no_positive None h = refl
no_positive (Some n) h = cond-false _ (Some (pos n)) None (le-ltb n (2 ^ 63) (omega (arith, ltb-false n (2 ^ 64) (fails_test fits_64 n h))))

-- nor an element with its sign changed
pub no_negative : (read : Option ℕ) → allowed fits_64 read ≡ None → allowed is_element (option_map (λ n. neg_ℤ (pos n)) read) ≡ None
no_negative None h = refl
no_negative (Some zero) h = absurd (none-some 0 (sym h))
no_negative (Some (suc n)) h = cond-false _ (Some (negsuc n)) None (le-ltb n (2 ^ 63) (omega (arith, ltb-false (suc n) (2 ^ 64) (fails_test fits_64 (suc n) h))))

-- a value that is there if and only if a fact holds is the one that a test of that fact allows
pub some_allowed : {X P : Type 0} (test : X → Bool) (x : X) (found : Option X) → Decides (test x) P → SomeIff found P x → found ≡ allowed test (Some x)
some_allowed test x (Some z) decides h = ap Some h.1 ∙ sym (cond-true _ (Some x) None (decides.1 h.0))
some_allowed test x None decides h =
    sym (cond-false _ (Some x) None (false_from_ne_true (test x) (λ passes. h (decides.0 passes))))

-- a conversion that succeeds if and only if a fact holds gives the value that a test of that fact allows
pub ok_allowed : {X P E : Type 0} (test : X → Bool) (x : X) (found : Result X E) → Decides (test x) P → OkIff found P x → result_ok found ≡ allowed test (Some x)
ok_allowed test x (Ok z) decides h = ap Some h.1 ∙ sym (cond-true _ (Some x) None (decides.1 h.0))
ok_allowed test x (Err e) decides h =
    sym (cond-false _ (Some x) None (false_from_ne_true (test x) (λ passes. h (decides.0 passes))))

-- zero less a number is the number with its sign changed
pub negated : (n : ℕ) → pos 0 -ℤ pos n ≡ neg_ℤ (pos n)
negated zero = refl
negated (suc n) = omega (arith, ints)

-- after `-` the sign is turned
pub signed-minus : (word : List ℕ) → starts_with nat_eq word (codes "-") ≡ true → signed_numeral_in word ≡ option_map (λ n. neg_ℤ (pos n)) (numeral_in (drop 1 word))
signed-minus word minus = cond-true _ _ _ minus

-- a word that begins with no `-` has no sign
pub signed-plain : (word : List ℕ) → starts_with nat_eq word (codes "-") ≡ false → signed_numeral_in word ≡ option_map pos (numeral_in word)
signed-plain word plain = cond-false _ _ _ plain
