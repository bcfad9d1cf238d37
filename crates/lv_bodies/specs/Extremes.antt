-- The operations of the least and of the greatest element, as of any order: of two elements one is kept.
use Rattle.std.specs.Prelude.{◌≡◌, ◌⊎◌, ℕ, ℤ, pos, negsuc, ◌-◌, ◌^◌, Option}
use Rattle.std.specs.Int.{int_min, int_max}
use Rattle.lv_geometry.specs.Elements.{IsElement}
use Rattle.lv_bodies.specs.Body.{Operations}
use Rattle.lv_bodies.specs.Optional.{optional_operations, IsWithinIfSome}

-- what an order is, by which of two comes first: one of the two, of three the same however they are grouped, and there is an element after which none comes
pub record OrderLaws (first : ℤ → ℤ → ℤ) (last : ℤ) : Type 0 where
  pub one_of : (x y : ℤ) → (first x y ≡ x) ⊎ (first x y ≡ y)
  pub associative : (x y z : ℤ) → first (first x y) z ≡ first x (first y z)
  pub last_element : IsElement last
  pub before_last : (x : ℤ) → IsElement x → first x last ≡ x
  pub after_any : (x : ℤ) → IsElement x → first last x ≡ x

-- there is no first of no elements, and of two the one that comes first is kept
abbrev pub extreme_operations : (ℤ → ℤ → ℤ) → Operations (Option ℤ)
extreme_operations first = optional_operations (λ x. x) first

-- least: the smaller of two is kept
abbrev pub least_operations : Operations (Option ℤ)
least_operations = extreme_operations int_min

-- greatest: the greater of two is kept
abbrev pub greatest_operations : Operations (Option ℤ)
greatest_operations = extreme_operations int_max

-- an element may be the least or the greatest, of however many
abbrev pub IsExtreme : Option ℤ → ℕ → Type 0
IsExtreme = IsWithinIfSome (λ x n. IsElement x)

-- the bare form: no elements have the last element that there can be
abbrev pub bare_operations : (ℤ → ℤ → ℤ) → ℤ → Operations ℤ
bare_operations first last = record { identity = last; lift = λ x. x; join = first }

-- the lowest of no elements is the highest number of 64 bits
abbrev pub lowest_operations : Operations ℤ
lowest_operations = bare_operations int_min (pos (2 ^ 63 - 1))

-- the highest of no elements is the lowest number of 64 bits
abbrev pub highest_operations : Operations ℤ
highest_operations = bare_operations int_max (negsuc (2 ^ 63 - 1))

-- an element may be the lowest or the highest, of however many
abbrev pub IsBareExtreme : ℤ → ℕ → Type 0
IsBareExtreme x n = IsElement x
