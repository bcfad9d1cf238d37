-- That folds and joins may be the summaries of so many elements.
use Rattle.std.proofs.Common.{◌≡◌, ℕ, ℤ, ◌+◌, ◌^◌, ◌<◌, ◌≤◌, Option, List, [], ◌∷◌, length, refl, sym, ap, ◌∙◌, subst, arith, inl, inr}
use Rattle.std.specs.Prelude.{IsTrue, IfSome}
use Rattle.std.proofs.lemmas.Bool.{cases_lt}
use Rattle.lv_bodies.specs.Body.{fold_of}
use Rattle.lv_bodies.specs.LongLaws.{fold_of-within_long, six_long, six_long_by}
use Rattle.lv_bodies.specs.Six.{SixSummary, six_operations, six_operations_by, six_within}
use Rattle.lv_bodies.specs.Tables.{is_table}
use Rattle.lv_shards.specs.LeadsLaws.{leads_of_table}
use Rattle.lv_shards.specs.Summaries.{AreLeads, HasElements, IsFold, IsPossible, Summary, empty_of, joined, leads_of}
use Rattle.lv_shards.proofs.Present.{filled_fold, filled_left, filled_right}

-- no elements come to the identity, and some to what they have
ends_alike : (table : List (List ℕ)) (xs : List ℤ) → (length xs ≡ 0 → fold_of (six_operations_by table) xs ≡ six_operations.identity) × (0 < length xs → HasElements (fold_of (six_operations_by table) xs))
ends_alike table [] = (λ _. refl, λ h. absurd (omega arith))
ends_alike table (x ∷ xs) = (λ h. absurd (omega arith), λ _. filled_fold table x xs)

-- what some elements come to is possible
pub possible_fold : (table : List (List ℕ)) (count : ℕ) (edit : Option ℕ) (six : SixSummary) → IsTrue (is_table table) → IfSome edit (λ e. e < 2 ^ 32) → IsFold table count six
    → IsPossible (record { count = count; edit = edit; six = six; leads = leads_of table })
possible_fold table count edit six valid short fold =
    let few : length fold.xs ≤ 2 ^ 62 = fold.can.few in
    let within : six_within six (length fold.xs) =
    subst (λ s. six_within s (length fold.xs)) (sym fold.six_is) (fold_of-within_long (six_operations_by table) six_within (six_long_by table valid) fold.xs fold.can) in
    let ends = ends_alike table fold.xs in
    record {
      few = omega (arith, few, fold.count_is);
      edit = short;
      leads = leads_of_table table valid;
      within = subst (six_within six) (sym fold.count_is) within;
      empty = λ none. fold.six_is ∙ ends.0 (sym fold.count_is ∙ none);
      full = λ some. subst HasElements (sym fold.six_is) (ends.1 (subst (λ n. 0 < n) fold.count_is some));
    }

-- the summary of no elements is possible
pub possible_empty : (leads : List (List ℕ)) → AreLeads leads → IsPossible (empty_of leads)
possible_empty leads are = record {
  few = omega arith;
  edit = tt;
  leads = are;
  within = six_long.identity_within;
  empty = λ _. refl;
  full = λ some. absurd (omega arith);
}

-- of no elements and of no elements is of none
joined_empty : (s t : Summary) → IsPossible s → IsPossible t → s.count + t.count ≡ 0 → (joined s t).six ≡ six_operations.identity
joined_empty s t p q none =
    let o = six_operations in
    let left : s.count ≡ 0 = omega arith in
    let right : t.count ≡ 0 = omega arith in
    ap (λ u. o.join u t.six) (p.empty left) ∙ ap (o.join o.identity) (q.empty right) ∙ six_long.left_identity o.identity 0 six_long.identity_within (omega arith)

-- if there are elements on either side there are some in both together
joined_full : (s t : Summary) → IsPossible s → IsPossible t → 0 < s.count + t.count → HasElements (joined s t).six
joined_full s t p q some =
    elim (cases_lt 0 s.count) [
      | inl left ↦ filled_left s.six t.six (p.full left)
      | inr none ↦ filled_right s.six t.six (q.full (omega (arith, some, none)))
    ]

-- two that are joined are possible
pub possible_join : (s t : Summary) → IsPossible s → IsPossible t → s.count + t.count ≤ 2 ^ 62 → IsPossible (joined s t)
possible_join s t p q few = record {
  few = few;
  edit = tt;
  leads = p.leads;
  within = six_long.join_within s.six t.six s.count t.count p.within q.within few;
  empty = joined_empty s t p q;
  full = joined_full s t p q;
}
