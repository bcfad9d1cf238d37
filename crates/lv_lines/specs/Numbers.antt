-- The numbers that a line may have.
use Rattle.std.specs.Prelude.{ℕ, ◌+◌, ◌-◌, ◌*◌, ◌^◌, Bool, ◌&&◌, if◌then◌else◌, List, drop, codes, nat_eq, nat_le, nat_lt, fold, Option, Some, None, option_map, ℤ, pos, negsuc, neg_ℤ}
use Rattle.std.specs.List.{starts_with}
use Rattle.std.specs.Str.{all_ascii_digits}
use Rattle.lv_lines.specs.Words.{is_word}

-- the number that decimal digits denote
abbrev pub value_of : List ℕ → ℕ
value_of digits = fold (λ n digit. 10 * n + (digit - 48)) 0 digits

-- the number that one or more digits denote; leading zeros are allowed
abbrev pub numeral_in : List ℕ → Option ℕ
numeral_in word = if is_word word && all_ascii_digits word then Some (value_of word) else None

-- the value, if the test allows it
abbrev pub allowed : {X : Type 0} → (X → Bool) → Option X → Option X
allowed test None = None
allowed test (Some x) = if test x then Some x else None

-- whether a number fits into 64 bits
abbrev pub fits_64 : ℕ → Bool
fits_64 n = nat_lt n (2 ^ 64)

-- a number up to a bound: one or more digits, whose value is at most that
unfoldable pub number_up_to : ℕ → List ℕ → Option ℕ
number_up_to most word = allowed (λ n. nat_le n most) (numeral_in word)

-- the most that fits into 32 bits
abbrev pub most_32 : ℕ
most_32 = 2 ^ 32 - 1

-- a number that fits into 32 bits
abbrev pub number_in : List ℕ → Option ℕ
number_in word = number_up_to most_32 word

-- the integer that one or more digits denote, negated if they follow a `-`
abbrev pub signed_numeral_in : List ℕ → Option ℤ
signed_numeral_in word = if starts_with nat_eq word (codes "-") then option_map (λ n. neg_ℤ (pos n)) (numeral_in (drop 1 word)) else option_map pos (numeral_in word)

-- whether an integer fits into 64 bits, one of them for the sign
abbrev pub is_element : ℤ → Bool
is_element (pos n) = nat_lt n (2 ^ 63)
is_element (negsuc n) = nat_lt n (2 ^ 63)

-- an element: an optional `-` and one or more digits, whose value fits into 64 bits
unfoldable pub element_in : List ℕ → Option ℤ
element_in word = allowed is_element (signed_numeral_in word)
