-- What two summaries are joined to.
use Rattle.std.proofs.Common.{◌≡◌, ℕ, ℤ, ◌+◌, ◌^◌, ◌<◌, ◌≤◌, Bool, true, false, not, Ok, Err, List, ◌++◌, refl, sym, ap, ◌∙◌, arith, length-append}
use Rattle.std.specs.Prelude.{nat_eq}
use Rattle.std.specs.Cmp.Lexicographic.{pointwise}
use Rattle.std.proofs.lemmas.Bool.{lt-ltb, le-ltb}
use Rattle.std.proofs.lemmas.List.Elements.{All-append}
use Rattle.lv_geometry.specs.Elements.{IsElement}
use Rattle.lv_bodies.specs.Body.{IsExact, fold_of}
use Rattle.lv_bodies.specs.EqualLaws.{exact_numbers, exact_pointwise}
use Rattle.lv_bodies.specs.LongLaws.{fold_of-append_long, six_long_by}
use Rattle.lv_bodies.specs.Six.{six_operations_by, six_within}
use Rattle.lv_shards.specs.Summaries.{IsSummaryOf, Summary, join_of, joined, same_leads}
use Rattle.lv_shards.specs.declared.refusals.JoinRefusal.TheVariants.{OtherTable, TooLong}

-- the test of two automata is exact
pub exact_leads : IsExact same_leads
exact_leads = exact_pointwise (pointwise nat_eq) exact_numbers

-- what differs is not the same, and what does not differ is
pub were_same : (same differ : Bool) → differ ≡ not same → differ ≡ false → same ≡ true
were_same true differ e h = refl
were_same false differ e h = absurd (cc)

-- two automata
pub other_leads : (s t : Summary) → same_leads s.leads t.leads ≡ false → join_of s t ≡ Err OtherTable
other_leads s t h = rw h refl

-- too many elements together
pub too_long : (s t : Summary) → same_leads s.leads t.leads ≡ true → 2 ^ 62 < s.count + t.count → join_of s t ≡ Err TooLong
too_long s t e h = rw (e, lt-ltb (2 ^ 62) (s.count + t.count) h) refl

-- one automaton, and few enough
pub are_joined : (s t : Summary) → same_leads s.leads t.leads ≡ true → s.count + t.count ≤ 2 ^ 62 → join_of s t ≡ Ok (joined s t)
are_joined s t e h = rw (e, le-ltb (2 ^ 62) (s.count + t.count) h) refl

-- of two lists joined end to end
pub end_to_end : (table : List (List ℕ)) (xs ys : List ℤ) (s t : Summary) → s.count + t.count ≤ 2 ^ 62 → IsSummaryOf table xs s → IsSummaryOf table ys t → IsSummaryOf table (xs ++ ys) (joined s t)
end_to_end table xs ys s t few left right =
    let o = six_operations_by table in
    let elements = All-append IsElement xs ys left.elements right.elements in
    let folds = fold_of-append_long o six_within (six_long_by table left.states) xs ys record { few = omega (arith, length-append xs ys, left.count, right.count, few); elements = elements } in
    record {
      states = left.states;
      elements = elements;
      count = omega (arith, length-append xs ys, left.count, right.count);
      six = ap (λ u. o.join u t.six) left.six ∙ ap (o.join (fold_of o xs)) right.six ∙ sym folds;
      leads = left.leads;
    }
