-- The operations of the sum modulo 2 ^ 64.
use Rattle.std.specs.Prelude.{◌+◌, ◌%◌, ◌^◌, ◌<◌, ℕ}
use Rattle.lv_bodies.specs.Body.{Operations}
use Rattle.lv_bodies.specs.Plain.{remainder}

-- the sum of no elements is 0, and sums are added modulo 2 ^ 64
abbrev pub sum_operations : Operations ℕ
sum_operations = record {
  identity = 0;
  lift = λ x. remainder x (2 ^ 64);
  join = λ a b. (a + b) % 2 ^ 64;
}

-- any number below 2 ^ 64 may be a sum, of however many elements
abbrev pub IsSum : ℕ → ℕ → Type 0
IsSum s n = s < 2 ^ 64
