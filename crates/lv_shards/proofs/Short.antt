-- That the numbers of a summary have 64 bits.
use Rattle.std.proofs.Common.{ℕ, ℤ, ◌^◌, ◌<◌, ◌≤◌, Option, Some, None, arith}
use Rattle.std.specs.Prelude.{IfSome, is_some, unwrap_or, All, if◌then◌else◌}
use Rattle.std.proofs.lemmas.Int.{ints}
use Rattle.std.proofs.lemmas.List.Elements.{All-from_recursion}
use Rattle.lv_geometry.specs.Elements.{IsElement}
use Rattle.lv_bodies.specs.RunTotals.{AreTotalsOf, IsBest, IsTotalOf}
use Rattle.lv_bodies.specs.declared.best.RunTotals.{RunTotals}
use Rattle.lv_shards.specs.Bytes.{element_bits, high_bits, low_bits, numbers_of, run_or_zeros}
use Rattle.lv_shards.specs.Summaries.{IsPossible, Summary}
use Rattle.lv_shards.specs.LeadsLaws.{row_short, states_short}

mark_short : (edit : Option ℕ) → (if is_some edit then 1 else 0) < 2 ^ 64
mark_short None = omega arith
mark_short (Some e) = omega arith

edit_short : (edit : Option ℕ) → IfSome edit (λ e. e < 2 ^ 32) → unwrap_or edit 0 < 2 ^ 64
edit_short None short = omega arith
edit_short (Some e) short = omega (arith, short)

element_short : (x : Option ℤ) → IfSome x IsElement → element_bits x < 2 ^ 64
element_short None fits = omega arith
element_short (Some x) fits = omega (arith, ints, fits)

low_short : (x : ℤ) → low_bits x < 2 ^ 64
low_short x = omega arith

high_short : (n : ℕ) (x : ℤ) → n ≤ 2 ^ 62 → IsTotalOf n x → high_bits x < 2 ^ 64
high_short n x few h = omega (arith, ints)

pub run_within : (best : Option RunTotals) (n : ℕ) → IsBest best n → AreTotalsOf (run_or_zeros best) n
run_within None n h = record { total = omega arith; prefix = omega arith; suffix = omega arith; best = omega arith }
run_within (Some run) n h = h

pub numbers_short : (s : Summary) → IsPossible s → All (λ n. n < 2 ^ 64) (numbers_of s)
numbers_short s p =
    let run = run_within s.six.1.1.1.0 s.count p.within.1.1.1.0 in
    let map = p.within.1.1.1.1.0 in
    All-from_recursion (λ n. n < 2 ^ 64) (numbers_of s) (
      omega arith,
      (
        omega (arith, p.few),
        (
          mark_short s.edit,
          (
            edit_short s.edit p.edit,
            (
              p.within.0,
              (
                element_short s.six.1.0 p.within.1.0,
                (
                  element_short s.six.1.1.0 p.within.1.1.0,
                  (
                    low_short (run_or_zeros s.six.1.1.1.0).total,
                    (
                      high_short s.count (run_or_zeros s.six.1.1.1.0).total p.few run.total,
                      (
                        low_short (run_or_zeros s.six.1.1.1.0).prefix,
                        (
                          high_short s.count (run_or_zeros s.six.1.1.1.0).prefix p.few run.prefix,
                          (
                            low_short (run_or_zeros s.six.1.1.1.0).suffix,
                            (
                              high_short s.count (run_or_zeros s.six.1.1.1.0).suffix p.few run.suffix,
                              (
                                low_short (run_or_zeros s.six.1.1.1.0).best,
                                (
                                  high_short s.count (run_or_zeros s.six.1.1.1.0).best p.few run.best,
                                  (
                                    omega (arith, map.a),
                                    (
                                      omega (arith, map.b),
                                      (
                                        states_short s.six.1.1.1.1.1 s.count p.within.1.1.1.1.1,
                                        (
                                          row_short s.leads 0 p.leads (omega arith),
                                          (row_short s.leads 1 p.leads (omega arith), (row_short s.leads 2 p.leads (omega arith), (row_short s.leads 3 p.leads (omega arith), tt))),
                                        ),
                                      ),
                                    ),
                                  ),
                                ),
                              ),
                            ),
                          ),
                        ),
                      ),
                    ),
                  ),
                ),
              ),
            ),
          ),
        ),
      ),
    )
