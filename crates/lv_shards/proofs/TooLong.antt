-- When two summaries of one automaton are too long together.
use Rattle.std.proofs.Common.{◌≡◌, ◌⊎◌, ℕ, ◌+◌, ◌^◌, ◌<◌, ◌≤◌, true, Result, refl, sym, subst, arith, inl, inr}
use Rattle.std.specs.Prelude.{◌↔◌, IsErrOf}
use Rattle.std.proofs.lemmas.Bool.{cases_lt}
use Rattle.lv_shards.specs.Summaries.{Summary, join_of, same_leads}
use Rattle.lv_shards.specs.declared.refusals.JoinRefusal.{JoinRefusal}
use Rattle.lv_shards.specs.declared.refusals.JoinRefusal.TheVariants.{OtherTable, TooLong}
use Rattle.lv_shards.proofs.TwoJoined.{are_joined, exact_leads, too_long}

-- the one refusal that there may be
pub record IsTooLong (s t : Summary) (n : ℕ) (r : Result Summary JoinRefusal) : Type 0 where
  pub too_long : IsErrOf r TooLong ↔ (2 ^ 62 < s.count + n)
  pub one_table : ¬ (IsErrOf r OtherTable)

chosen : (s t : Summary) → same_leads s.leads t.leads ≡ true → (2 ^ 62 < s.count + t.count) ⊎ (s.count + t.count ≤ 2 ^ 62) → IsTooLong s t t.count (join_of s t)
chosen s t same (inl many) = subst (IsTooLong s t t.count) (sym (too_long s t same many)) record { too_long = ((λ _. many), (λ _. refl)); one_table = λ e. cc }
chosen s t same (inr few) = subst (IsTooLong s t t.count) (sym (are_joined s t same few)) record { too_long = ((λ e. absurd (cc)), (λ many. absurd (omega (arith, many, few)))); one_table = λ e. cc }

pub only_too_long : (s t : Summary) (n : ℕ) (r : Result Summary JoinRefusal) → r ≡ join_of s t → s.leads ≡ t.leads → t.count ≡ n → IsTooLong s t n r
only_too_long s t n r is alike count =
    let here = chosen s t ((exact_leads s.leads t.leads).1 alike) (cases_lt (2 ^ 62) (s.count + t.count)) in
    subst (λ m. IsTooLong s t m r) count (subst (IsTooLong s t t.count) (sym is) here)
