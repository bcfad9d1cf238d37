-- The laws of all six bodies side by side.
use Rattle.std.specs.Prelude.{◌&&◌, ◌==◌, ℕ, IsTrue, List, nat_eq, refl}
use Rattle.std.specs.Cmp.Lexicographic.{pointwise}
use Rattle.std.specs.Option.{option_eq}
use Rattle.std.specs.Ordering.{int_eq}
use Rattle.std.proofs.lemmas.Bool.Decides.{Decides-eqb, Decides-int_eq}
use Rattle.lv_bodies.specs.AffineLaws.{affine_laws, exact_maps}
use Rattle.lv_bodies.specs.Body.{IsExact, BodyLaws}
use Rattle.lv_bodies.specs.EqualLaws.{exact_numbers, exact_option}
use Rattle.lv_bodies.specs.ExtremeLaws.{greatest_laws, least_laws}
use Rattle.lv_bodies.specs.PairLaws.{exact_pair, pair_laws}
use Rattle.lv_bodies.specs.Plain.{program_table}
use Rattle.lv_bodies.specs.Six.{SixSummary, six_operations, six_operations_by, six_within}
use Rattle.lv_bodies.specs.SumLaws.{sum_laws}
use Rattle.lv_bodies.specs.TableLaws.{automaton_laws}
use Rattle.lv_bodies.specs.Tables.{is_table}
use Rattle.lv_bodies.specs.TotalsLaws.{best_laws, exact_totals}

-- the six meet the laws of a body, by each table of an automaton
pub six_laws_by : (table : List (List ℕ)) → IsTrue (is_table table) → BodyLaws (six_operations_by table) six_within
six_laws_by table valid = pair_laws _ _ _ _ sum_laws (pair_laws _ _ _ _ least_laws (pair_laws _ _ _ _ greatest_laws (pair_laws _ _ _ _ best_laws (pair_laws _ _ _ _ affine_laws (automaton_laws table valid)))))

-- all six meet the laws with the program's automaton
pub six_laws : BodyLaws six_operations six_within
six_laws = six_laws_by program_table refl

-- a test of two summaries of the six is true exactly of equal ones
pub exact_six : IsExact (λ (s t : SixSummary). nat_eq s.0 t.0
    && (option_eq int_eq s.1.0 t.1.0
    && (option_eq int_eq s.1.1.0 t.1.1.0
    && (option_eq (λ q r. int_eq q.total r.total && (int_eq q.prefix r.prefix && (int_eq q.suffix r.suffix && int_eq q.best r.best))) s.1.1.1.0 t.1.1.1.0
    && (((s.1.1.1.1.0.a == t.1.1.1.1.0.a) && (s.1.1.1.1.0.b == t.1.1.1.1.0.b))
    && pointwise nat_eq s.1.1.1.1.1 t.1.1.1.1.1)))))
exact_six =
    exact_pair _ _ Decides-eqb (exact_pair _ _ (exact_option _ Decides-int_eq) (exact_pair _ _ (exact_option _ Decides-int_eq)
    (exact_pair _ _ (exact_option _ exact_totals) (exact_pair _ _ exact_maps exact_numbers))))
