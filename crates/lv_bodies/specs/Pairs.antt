-- The operations of two bodies side by side.
use Rattle.std.specs.Prelude.{ℕ}
use Rattle.lv_bodies.specs.Body.{Operations}

-- each side by its own operations
abbrev pub pair_operations : {S T : Type 0} → Operations S → Operations T → Operations (S × T)
pair_operations o p = record {
  identity = (o.identity, p.identity);
  lift = λ x. (o.lift x, p.lift x);
  join = λ a b. (o.join a.0 b.0, p.join a.1 b.1);
}

-- each side keeps its bound for n elements
abbrev pub IsPairWithin : {S T : Type 0} → (S → ℕ → Type 0) → (T → ℕ → Type 0) → S × T → ℕ → Type 0
IsPairWithin within_first within_second s n = within_first s.0 n × within_second s.1 n
