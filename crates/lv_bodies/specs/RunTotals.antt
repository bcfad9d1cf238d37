-- The operations of the best run: what is kept of some neighbours, so that the greatest total is found.
use Rattle.std.specs.Prelude.{ℕ, ℤ, pos, negsuc, ◌-◌, ◌*◌, ◌^◌, ◌<◌, ◌≤◌, ◌+ℤ◌, ◌≤ℤ◌, Option}
use Rattle.std.specs.Int.{int_max}
use Rattle.std.specs.Int.RustNames.{unsigned_abs}
use Rattle.lv_bodies.specs.Body.{Operations}
use Rattle.lv_bodies.specs.Optional.{optional_operations, IsWithinIfSome}
use Rattle.lv_bodies.specs.declared.best.RunTotals.{RunTotals}

-- one element has one run, itself
abbrev pub totals_of : ℤ → RunTotals
totals_of x = record { total = x; prefix = x; suffix = x; best = x }

-- the totals of some neighbours and of the next ones, joined: a run begins on the left, or in both, or ends on the right, or meets the seam
abbrev pub join_totals : RunTotals → RunTotals → RunTotals
join_totals a b = record {
  total = a.total +ℤ b.total;
  prefix = int_max a.prefix (a.total +ℤ b.prefix);
  suffix = int_max b.suffix (b.total +ℤ a.suffix);
  best = int_max (int_max a.best b.best) (a.suffix +ℤ b.prefix);
}

-- no elements have no run
abbrev pub best_operations : Operations (Option RunTotals)
best_operations = optional_operations totals_of join_totals

-- a number no further from 0 than n elements can get: n * 2 ^ 63
abbrev pub IsTotalOf : ℕ → ℤ → Type 0
IsTotalOf n x = unsigned_abs x ≤ n * 2 ^ 63

-- all four are within that of n elements
pub record AreTotalsOf (r : RunTotals) (n : ℕ) : Type 0 where
  pub total : IsTotalOf n r.total
  pub prefix : IsTotalOf n r.prefix
  pub suffix : IsTotalOf n r.suffix
  pub best : IsTotalOf n r.best

-- none, or within that of n elements
abbrev pub IsBest : Option RunTotals → ℕ → Type 0
IsBest = IsWithinIfSome AreTotalsOf

-- the total of a run of no elements, for places that must have a total: lower than any of elements can be, by so much that it never counts
abbrev pub no_run : ℤ
no_run = negsuc (2 ^ 120 - 1)

-- the bare form of the best run: no elements have a total of 0, and no run
abbrev pub runs_operations : Operations RunTotals
runs_operations = record {
  identity = record { total = pos 0; prefix = no_run; suffix = no_run; best = no_run };
  lift = totals_of;
  join = join_totals;
}

-- a total of a run of n elements, or of no run
pub record IsRunTotalOf (n : ℕ) (x : ℤ) : Type 0 where
  pub low : no_run ≤ℤ x
  pub high : x ≤ℤ pos (n * 2 ^ 63)

-- x with `no_run` added is not above y, so that this sum never wins when it is compared with y
abbrev pub CountsBeside : ℤ → ℤ → Type 0
CountsBeside x y = (x +ℤ no_run) ≤ℤ y

-- all four are within the bounds for n elements, and so high that a sum with `no_run` never wins when it is compared with them
pub record AreRuns (r : RunTotals) (n : ℕ) : Type 0 where
  pub total : IsTotalOf n r.total
  pub prefix : IsRunTotalOf n r.prefix
  pub suffix : IsRunTotalOf n r.suffix
  pub best : IsRunTotalOf n r.best
  pub prefix_counts : CountsBeside r.total r.prefix
  pub suffix_counts : CountsBeside r.total r.suffix
  pub best_of_prefix : CountsBeside r.prefix r.best
  pub best_of_suffix : CountsBeside r.suffix r.best

-- numbers so small that any two of them add up to one of 128 bits
pub record AreSmall (r : RunTotals) : Type 0 where
  pub total : unsigned_abs r.total < 2 ^ 126
  pub prefix : unsigned_abs r.prefix < 2 ^ 126
  pub suffix : unsigned_abs r.suffix < 2 ^ 126
  pub best : unsigned_abs r.best < 2 ^ 126
