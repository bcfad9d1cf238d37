-- The laws of joins.
use Rattle.std.proofs.Common.{◌≡◌, ◌⊎◌, ℕ, ◌+◌, ◌^◌, ◌<◌, ◌≤◌, Bool, true, false, None, Result, Ok, Err, List, refl, sym, ap, ◌∙◌, add-zero, zero-add, arith, inl, inr}
use Rattle.std.proofs.lemmas.Bool.{cases_lt}
use Rattle.lv_bodies.specs.LongLaws.{six_long}
use Rattle.lv_shards.specs.Summaries.{IsPossible, Summary, empty_of, join_of, joined, same_leads}
use Rattle.lv_shards.specs.declared.refusals.JoinRefusal.{JoinRefusal}
use Rattle.lv_shards.specs.declared.refusals.JoinRefusal.TheVariants.{OtherTable, TooLong}
use Rattle.lv_shards.proofs.TwoJoined.{are_joined, exact_leads, other_leads, too_long}

-- an automaton is the same as itself
pub same_as_itself : (leads : List (List ℕ)) → same_leads leads leads ≡ true
same_as_itself leads = (exact_leads leads leads).1 refl

-- what two were joined to, and why they could be
pub record WereJoined (s t u : Summary) : Type 0 where
  pub same : same_leads s.leads t.leads ≡ true
  pub few : s.count + t.count ≤ 2 ^ 62
  pub is : joined s t ≡ u

not_ok : (refusal : JoinRefusal) (u : Summary) → Err refusal ≡ Ok u → ⊥
not_ok refusal u e = absurd (cc)

is_ok : (s u : Summary) (r : Result Summary JoinRefusal) → r ≡ Ok s → r ≡ Ok u → s ≡ u
is_ok s u r e f = cc

chosen_joined : (same : Bool) (s t u : Summary) → same_leads s.leads t.leads ≡ same → (2 ^ 62 < s.count + t.count) ⊎ (s.count + t.count ≤ 2 ^ 62) → join_of s t ≡ Ok u → WereJoined s t u
chosen_joined true s t u same (inr few) e = record { same = same; few = few; is = is_ok (joined s t) u (join_of s t) (are_joined s t same few) e }
chosen_joined true s t u same (inl many) e = elim (not_ok TooLong u (sym (too_long s t same many) ∙ e)) [ ]
chosen_joined false s t u same few e = elim (not_ok OtherTable u (sym (other_leads s t same) ∙ e)) [ ]

pub were_joined : (s t u : Summary) → join_of s t ≡ Ok u → WereJoined s t u
were_joined s t u e = chosen_joined (same_leads s.leads t.leads) s t u refl (cases_lt (2 ^ 62) (s.count + t.count)) e

-- joins of three, as they are if both sides were joined
joined_associate : (s t u : Summary) → IsPossible s → IsPossible t → IsPossible u → s.count + t.count + u.count ≤ 2 ^ 62 → joined (joined s t) u ≡ joined s (joined t u)
joined_associate s t u p q r few =
    let sixes = six_long.associative s.six t.six u.six s.count t.count u.count p.within q.within r.within few in
    ap (λ n. record (joined (joined s t) u) { count = n }) (omega arith) ∙ ap (λ six. record (joined s (joined t u)) { six = six }) sixes

-- three of one automaton
grouped : (s t u : Summary) → IsPossible s → IsPossible t → IsPossible u → same_leads s.leads t.leads ≡ true → same_leads t.leads u.leads ≡ true → join_of (joined s t) u ≡ join_of s (joined t u)
grouped s t u p q r first second =
    let one : s.leads ≡ t.leads = (exact_leads s.leads t.leads).0 first in
    let other : t.leads ≡ u.leads = (exact_leads t.leads u.leads).0 second in
    let all : same_leads s.leads u.leads ≡ true = (exact_leads s.leads u.leads).1 (one ∙ other) in
    elim (cases_lt (2 ^ 62) (s.count + t.count + u.count)) [
      | inl many ↦ too_long (joined s t) u all many ∙ sym (too_long s (joined t u) first (omega (arith, many)))
      | inr few ↦ are_joined (joined s t) u all few ∙ ap Ok (joined_associate s t u p q r few) ∙ sym (are_joined s (joined t u) first (omega (arith, few)))
    ]

pub may_be_grouped : (s t u front back : Summary) → IsPossible s → IsPossible t → IsPossible u → join_of s t ≡ Ok front → join_of t u ≡ Ok back → join_of front u ≡ join_of s back
may_be_grouped s t u front back p q r e f =
    let left = were_joined s t front e in
    let right = were_joined t u back f in
    ap (λ v. join_of v u) (sym left.is) ∙ grouped s t u p q r left.same right.same ∙ ap (join_of s) right.is

-- nothing joined on the left, and on the right
pub empty_left : (s : Summary) → IsPossible s → join_of (empty_of s.leads) s ≡ Ok (record s { edit = None })
empty_left s p =
    are_joined (empty_of s.leads) s (same_as_itself s.leads) (omega (arith, p.few))
    ∙ ap (λ n. Ok (record (joined (empty_of s.leads) s) { count = n })) (zero-add s.count)
    ∙ ap (λ six. Ok (record s { edit = None; six = six })) (six_long.left_identity s.six s.count p.within p.few)

pub empty_right : (s : Summary) → IsPossible s → join_of s (empty_of s.leads) ≡ Ok (record s { edit = None })
empty_right s p =
    are_joined s (empty_of s.leads) (same_as_itself s.leads) (omega (arith, p.few))
    ∙ ap (λ n. Ok (record (joined s (empty_of s.leads)) { count = n })) (add-zero s.count)
    ∙ ap (λ six. Ok (record s { edit = None; six = six })) (six_long.right_identity s.six s.count p.within p.few)
