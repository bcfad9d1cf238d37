-- The laws of the bare form of the best run.
use Rattle.std.specs.Prelude.{◌≡◌, ℕ, ℤ, pos, ◌+◌, ◌*◌, ◌^◌, ◌≤◌, ◌<◌, ◌+ℤ◌, ◌≤ℤ◌}
use Rattle.std.specs.Int.{int_max}
use Rattle.std.specs.Int.RustNames.{unsigned_abs}
use Rattle.std.proofs.Common.{arith}
use Rattle.std.proofs.lemmas.Int.{ints, clamps}
use Rattle.lv_geometry.specs.Elements.{IsElement}
use Rattle.lv_bodies.specs.Body.{BodyLaws}
use Rattle.lv_bodies.specs.Long.{LongLaws}
use Rattle.lv_bodies.specs.RunTotals.{totals_of, join_totals, no_run, runs_operations, IsTotalOf, IsRunTotalOf, CountsBeside, AreTotalsOf, AreRuns, AreSmall}
use Rattle.lv_bodies.specs.TotalsLaws.{added, same_runs, runs_associative}
use Rattle.lv_bodies.specs.declared.best.RunTotals.{RunTotals}

-- a total of n elements counts for more
later : (n m : ℕ) (x : ℤ) → IsRunTotalOf n x → IsRunTotalOf (n + m) x
later n m x h = record { low = h.low; high = omega (arith, ints, h.high) }

-- and for those of more before it
later_left : (n m : ℕ) (x : ℤ) → IsRunTotalOf m x → IsRunTotalOf (n + m) x
later_left n m x h = record { low = h.low; high = omega (arith, ints, h.high) }

-- the greater of a run's total and of a number that is no higher than such totals can be is within their bounds too
longer : (k : ℕ) (x y : ℤ) → IsRunTotalOf k x → y ≤ℤ pos (k * 2 ^ 63) → IsRunTotalOf k (int_max x y)
longer k x y h p = record { low = omega (arith, ints, clamps, h.low); high = omega (arith, ints, clamps, h.high, p) }

-- a total of n elements and one of m, or of no run, add up to no more than one of n + m
reaches : (n m : ℕ) (x y : ℤ) → x ≤ℤ pos (n * 2 ^ 63) → y ≤ℤ pos (m * 2 ^ 63) → (x +ℤ y) ≤ℤ pos ((n + m) * 2 ^ 63)
reaches n m x y p q = omega (arith, ints)

-- a total of m elements, or of no run, and one of n add up to no more than one of n + m
reaches_back : (n m : ℕ) (x y : ℤ) → x ≤ℤ pos (m * 2 ^ 63) → y ≤ℤ pos (n * 2 ^ 63) → (x +ℤ y) ≤ℤ pos ((n + m) * 2 ^ 63)
reaches_back n m x y p q = omega (arith, ints)

-- a total of n elements is at most so much
at_most : (n : ℕ) (x : ℤ) → IsTotalOf n x → x ≤ℤ pos (n * 2 ^ 63)
at_most n x h = omega (arith, ints)

-- the prefix, and the suffix, of a join are not below its total with `no_run` added
prefix_joined : (t u p q : ℤ) → CountsBeside u q → CountsBeside (t +ℤ u) (int_max p (t +ℤ q))
prefix_joined t u p q h = omega (arith, ints, clamps)

suffix_joined : (t u p q : ℤ) → CountsBeside t p → CountsBeside (t +ℤ u) (int_max q (u +ℤ p))
suffix_joined t u p q h = omega (arith, ints, clamps)

best_prefix_joined : (t p s b q c : ℤ) → CountsBeside t s → CountsBeside p b → CountsBeside (int_max p (t +ℤ q)) (int_max (int_max b c) (s +ℤ q))
best_prefix_joined t p s b q c h k = omega (arith, ints, clamps)

best_suffix_joined : (u q r s b c : ℤ) → CountsBeside u q → CountsBeside r c → CountsBeside (int_max r (u +ℤ s)) (int_max (int_max b c) (s +ℤ q))
best_suffix_joined u q r s b c h k = omega (arith, ints, clamps)

-- runs of n elements and of m are joined to one of n + m
pub runs_joined : (r s : RunTotals) (n m : ℕ) → AreRuns r n → AreRuns s m → AreRuns (join_totals r s) (n + m)
runs_joined r s n m p q = record {
  total = added n m (n + m) r.total s.total (omega arith) p.total q.total;
  prefix = longer (n + m) r.prefix (r.total +ℤ s.prefix) (later n m r.prefix p.prefix) (reaches n m r.total s.prefix (at_most n r.total p.total) q.prefix.high);
  suffix = longer (n + m) s.suffix (s.total +ℤ r.suffix) (later_left n m s.suffix q.suffix) (reaches_back n m s.total r.suffix (at_most m s.total q.total) p.suffix.high);
  best =
      longer (n + m) (int_max r.best s.best) (r.suffix +ℤ s.prefix)
      (longer (n + m) r.best s.best (later n m r.best p.best) (later_left n m s.best q.best).high)
      (reaches n m r.suffix s.prefix p.suffix.high q.prefix.high);
  prefix_counts = prefix_joined r.total s.total r.prefix s.prefix q.prefix_counts;
  suffix_counts = suffix_joined r.total s.total r.suffix s.suffix p.suffix_counts;
  best_of_prefix = best_prefix_joined r.total r.prefix r.suffix r.best s.prefix s.best p.suffix_counts p.best_of_prefix;
  best_of_suffix = best_suffix_joined s.total s.prefix s.suffix r.suffix r.best s.best q.prefix_counts q.best_of_suffix;
}

-- an element is a total of one
one_run : (x : ℤ) → IsElement x → IsRunTotalOf 1 x
one_run x h = record { low = omega (arith, ints); high = omega (arith, ints) }

-- the run of an element is one of one
pub run_of_one : (x : ℤ) → IsElement x → AreRuns (totals_of x) 1
run_of_one x h =
    let one = one_run x h in
    let beside : CountsBeside x x = omega (arith, ints) in
    record {
      total = omega (arith, ints);
      prefix = one;
      suffix = one;
      best = one;
      prefix_counts = beside;
      suffix_counts = beside;
      best_of_prefix = beside;
      best_of_suffix = beside;
    }

-- no run is one of no elements
none_is_run : AreRuns runs_operations.identity 0
none_is_run =
    let none : IsRunTotalOf 0 no_run = record { low = omega (arith, ints); high = omega (arith, ints) } in
    record {
      total = omega (arith, ints);
      prefix = none;
      suffix = none;
      best = none;
      prefix_counts = omega (arith, ints);
      suffix_counts = omega (arith, ints);
      best_of_prefix = omega (arith, ints);
      best_of_suffix = omega (arith, ints);
    }

-- compared with the total of a run, `no_run` and a sum with it never win
none_first : (x y : ℤ) → no_run ≤ℤ x → CountsBeside y x → int_max x (y +ℤ no_run) ≡ x
none_first x y h k = omega (arith, ints, clamps)

none_last : (x : ℤ) → no_run ≤ℤ x → int_max no_run (pos 0 +ℤ x) ≡ x
none_last x h = omega (arith, ints, clamps)

none_best_left : (b p : ℤ) → no_run ≤ℤ b → CountsBeside p b → int_max (int_max no_run b) (no_run +ℤ p) ≡ b
none_best_left b p h k = omega (arith, ints, clamps)

none_best_right : (b s : ℤ) → no_run ≤ℤ b → CountsBeside s b → int_max (int_max b no_run) (s +ℤ no_run) ≡ b
none_best_right b s h k = omega (arith, ints, clamps)

-- no elements before change nothing
pub none_before : (r : RunTotals) (n : ℕ) → AreRuns r n → join_totals runs_operations.identity r ≡ r
none_before r n h =
    same_runs _ r (omega (arith, ints)) (none_last r.prefix h.prefix.low) (none_first r.suffix r.total h.suffix.low h.suffix_counts)
    (none_best_left r.best r.prefix h.best.low h.best_of_prefix)

-- no elements after change nothing
pub none_after : (r : RunTotals) (n : ℕ) → AreRuns r n → join_totals r runs_operations.identity ≡ r
none_after r n h =
    same_runs _ r (omega (arith, ints)) (none_first r.prefix r.total h.prefix.low h.prefix_counts) (none_last r.suffix h.suffix.low)
    (none_best_right r.best r.suffix h.best.low h.best_of_suffix)

-- the runs meet the laws of a body
pub runs_laws : BodyLaws runs_operations AreRuns
runs_laws = record {
  identity_within = none_is_run;
  lift_within = run_of_one;
  join_within = λ r s n m p q few. runs_joined r s n m p q;
  left_identity = λ r n p few. none_before r n p;
  right_identity = λ r n p few. none_after r n p;
  associative = λ r s t n m k p q o few. runs_associative r s t;
}

-- also up to 2 ^ 62 elements
pub runs_long : LongLaws runs_operations AreRuns
runs_long = record {
  identity_within = none_is_run;
  lift_within = run_of_one;
  join_within = λ r s n m p q few. runs_joined r s n m p q;
  left_identity = λ r n p few. none_before r n p;
  right_identity = λ r n p few. none_after r n p;
  associative = λ r s t n m k p q o few. runs_associative r s t;
}

-- a total of few enough elements is small
small_total : (n : ℕ) (x : ℤ) → n ≤ 2 ^ 62 → IsTotalOf n x → unsigned_abs x < 2 ^ 126
small_total n x few h = omega (arith, ints)

-- a total of few enough elements that may be that of no run is small
small_run : (n : ℕ) (x : ℤ) → n ≤ 2 ^ 62 → IsRunTotalOf n x → unsigned_abs x < 2 ^ 126
small_run n x few h = let low = h.low in let high = h.high in omega (arith, ints)

-- the totals of few enough elements are small
pub small_totals : (r : RunTotals) (n : ℕ) → n ≤ 2 ^ 62 → AreTotalsOf r n → AreSmall r
small_totals r n few h = record {
  total = small_total n r.total few h.total;
  prefix = small_total n r.prefix few h.prefix;
  suffix = small_total n r.suffix few h.suffix;
  best = small_total n r.best few h.best;
}

-- the totals of few enough elements that may be those of no run are small
pub small_runs : (r : RunTotals) (n : ℕ) → n ≤ 2 ^ 62 → AreRuns r n → AreSmall r
small_runs r n few h = record { total = small_total n r.total few h.total; prefix = small_run n r.prefix few h.prefix; suffix = small_run n r.suffix few h.suffix; best = small_run n r.best few h.best }
