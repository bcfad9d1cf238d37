-- What many summaries are joined to in order.
use Rattle.std.proofs.Common.{◌≡◌, ℕ, ℤ, ◌+◌, ◌^◌, ◌<◌, ◌≤◌, ◌⊎◌, Bool, true, false, Result, Ok, Err, List, [], ◌∷◌, ◌++◌, length, get_or, drop, refl, sym, ap, ◌∙◌, subst, append_assoc, add-one, drop-cons, arith, inl, inr}
use Rattle.std.specs.Prelude.{IsTrue, IfOk, IsOk, All, fold, sum_by}
use Rattle.std.specs.List.{flat_map}
use Rattle.std.proofs.lemmas.Bool.{cases_lt}
use Rattle.std.proofs.lemmas.List.{append-nil}
use Rattle.std.proofs.lemmas.List.Elements.{All-head, All-nil, All-tail}
use Rattle.std.proofs.lemmas.List.Sums.{sum_by-cons}
use Rattle.lv_geometry.specs.Elements.{IsElement}
use Rattle.lv_bodies.specs.Tables.{is_table}
use Rattle.lv_shards.specs.Shards.{AreOfShards, AreSummariesOf, Shard, elements_of}
use Rattle.lv_shards.specs.Summaries.{IsSummaryOf, Summary, empty_of, join_next, join_of, joined, leads_of, same_leads}
use Rattle.lv_shards.specs.declared.refusals.JoinRefusal.{JoinRefusal}
use Rattle.lv_shards.proofs.TwoJoined.{are_joined, end_to_end, exact_leads, other_leads, too_long}

-- what is joined of two lists' summaries is of both
chosen : (same : Bool) (table : List (List ℕ)) (xs ys : List ℤ) (s t : Summary) → same_leads s.leads t.leads ≡ same → (2 ^ 62 < s.count + t.count) ⊎ (s.count + t.count ≤ 2 ^ 62)
    → IsSummaryOf table xs s → IsSummaryOf table ys t → IfOk (join_of s t) (IsSummaryOf table (xs ++ ys))
chosen true table xs ys s t same (inl many) p q = subst (λ r. IfOk r (IsSummaryOf table (xs ++ ys))) (sym (too_long s t same many)) tt
chosen true table xs ys s t same (inr few) p q = subst (λ r. IfOk r (IsSummaryOf table (xs ++ ys))) (sym (are_joined s t same few)) (end_to_end table xs ys s t few p q)
chosen false table xs ys s t same few p q = subst (λ r. IfOk r (IsSummaryOf table (xs ++ ys))) (sym (other_leads s t same)) tt

joined_next : (table : List (List ℕ)) (xs ys : List ℤ) (r : Result Summary JoinRefusal) (t : Summary) → IfOk r (IsSummaryOf table xs) → IsSummaryOf table ys t → IfOk (join_next r t) (IsSummaryOf table (xs ++ ys))
joined_next table xs ys (Ok s) t p q = chosen (same_leads s.leads t.leads) table xs ys s t refl (cases_lt (2 ^ 62) (s.count + t.count)) p q
joined_next table xs ys (Err refusal) t p q = tt

-- the summary of no elements
pub is_of_nothing : (table : List (List ℕ)) → IsTrue (is_table table) → IsSummaryOf table [] (empty_of (leads_of table))
is_of_nothing table valid = record { states = valid; elements = All-nil IsElement; count = refl; six = refl; leads = refl }

-- lists one after the other
pub joined_from : (table : List (List ℕ)) (xs : List ℤ) (r : Result Summary JoinRefusal) (lists : List (List ℤ)) (parts : List Summary) → IfOk r (IsSummaryOf table xs) → AreSummariesOf table lists parts
    → IfOk (fold join_next r parts) (IsSummaryOf table (xs ++ flat_map (λ ys. ys) lists))
joined_from table xs r [] [] p all = subst (λ ys. IfOk r (IsSummaryOf table ys)) (sym (append-nil xs)) p
joined_from table xs r [] (s ∷ parts) p all = elim all [ ]
joined_from table xs r (ys ∷ lists) [] p all = elim all [ ]
joined_from table xs r (ys ∷ lists) (s ∷ parts) p all =
    subst (λ zs. IfOk (fold join_next (join_next r s) parts) (IsSummaryOf table zs)) (append_assoc xs ys (flat_map (λ zs. zs) lists))
    (joined_from table (xs ++ ys) (join_next r s) lists parts (joined_next table xs ys r s p all.0) all.1)

-- the summaries of shards, combined in order, are that of all their elements
pub shards_from : (table : List (List ℕ)) (xs : List ℤ) (r : Result Summary JoinRefusal) (shards : List Shard) (parts : List Summary) → IfOk r (IsSummaryOf table xs) → AreOfShards table shards parts
    → IfOk (fold join_next r parts) (IsSummaryOf table (xs ++ flat_map elements_of shards))
shards_from table xs r [] [] p all = subst (λ ys. IfOk r (IsSummaryOf table ys)) (sym (append-nil xs)) p
shards_from table xs r [] (s ∷ parts) p all = elim all [ ]
shards_from table xs r (shard ∷ shards) [] p all = elim all [ ]
shards_from table xs r (shard ∷ shards) (s ∷ parts) p all =
    let ys = elements_of shard in
    subst (λ zs. IfOk (fold join_next (join_next r s) parts) (IsSummaryOf table zs)) (append_assoc xs ys (flat_map elements_of shards))
    (shards_from table (xs ++ ys) (join_next r s) shards parts (joined_next table xs ys r s p all.0.0) all.1)

-- a refusal stays
pub stays_refused : (refusal : JoinRefusal) (parts : List Summary) → fold join_next (Err refusal) parts ≡ Err refusal
stays_refused refusal [] = refl
stays_refused refusal (s ∷ parts) = stays_refused refusal parts

-- of one automaton, and few enough
pub granted_from : (leads : List (List ℕ)) (s : Summary) (parts : List Summary) → s.leads ≡ leads → All (λ t. t.leads ≡ leads) parts → s.count + sum_by (λ t. t.count) parts ≤ 2 ^ 62 → IsOk (fold join_next (Ok s) parts)
granted_from leads s [] same all few = refl
granted_from leads s (t ∷ parts) same all few =
    let first : t.leads ≡ leads = All-head (λ u. u.leads ≡ leads) t parts all in
    let all_count : sum_by (λ u. u.count) (t ∷ parts) ≡ t.count + sum_by (λ u. u.count) parts = sum_by-cons (λ u. u.count) t parts in
    let one : join_of s t ≡ Ok (joined s t) = are_joined s t ((exact_leads s.leads t.leads).1 (same ∙ sym first)) (omega (arith, few)) in
    subst (λ r. IsOk (fold join_next r parts)) (sym one) (granted_from leads (joined s t) parts same (All-tail (λ u. u.leads ≡ leads) t parts all) (omega (arith, few)))

-- if one is rejected, all are
pub refused_at : (all first d part : Summary) (parts : List Summary) (i : ℕ) (refusal : JoinRefusal) → i < length parts → part ≡ get_or parts i d → Err refusal ≡ join_of all part
    → fold join_next (Ok all) (drop i parts) ≡ fold join_next (Ok first) parts → Err refusal ≡ fold join_next (Ok first) parts
refused_at all first d part parts i refusal below is refused so_far =
    let next : drop i parts ≡ get_or parts i d ∷ drop (i + 1) parts = rw add-one (drop-cons parts i d below) in
    sym (stays_refused refusal (drop (i + 1) parts))
    ∙ ap (λ r. fold join_next r (drop (i + 1) parts)) refused
    ∙ ap (λ p. fold join_next (join_of all p) (drop (i + 1) parts)) is
    ∙ ap (fold join_next (Ok all)) (sym next)
    ∙ so_far
