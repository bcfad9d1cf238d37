-- The least capacity that ever sufficed is the one that the definition names; and the capacity after one more edit.
use Rattle.std.proofs.Common.{◌≡◌, ℕ, ℤ, zero, suc, ◌+◌, ◌<◌, ◌≤◌, max, nat_le, false, Some, None, unwrap_or, List, [], ◌∷◌, ◌++◌, length, take, map, fold, All, refl, sym, ap, subst, ◌∙◌, inl, inr, arith}
use Rattle.std.specs.List.{find, range_with_len}
use Rattle.std.proofs.lemmas.Bool.{cases_lt, le-leb, lt-leb}
use Rattle.std.proofs.lemmas.List.{length_push, take_all, take-append-le}
use Rattle.std.proofs.lemmas.List.Elements.{All-cons, All-head, All-nil, All-tail}
use Rattle.std.proofs.lemmas.List.Sums.{fold_push}
use Rattle.lv_geometry.specs.Cells.{AreFewest, capacity_of}
use Rattle.lv_geometry.specs.Bounds.{Bounds}
use Rattle.lv_edits.specs.declared.edit.Edit.{Edit}
use Rattle.lv_edits.specs.declared.edit.Edit.TheVariants.{Push, Pop, Write, Reserve, Swap, Truncate}
use Rattle.lv_edits.specs.Inner.{AreNeeded}
use Rattle.lv_edits.specs.Capacity.{capacity_after, IsCapacityAfter, least_capacity, longest, most_reserved, reserved_by, Suffices}
use Rattle.lv_edits.specs.History.{list_of, replayed}
use Rattle.lv_edits.specs.Verdict.{refused_on, verdict_of}
use Rattle.lv_geometry.proofs.Capacities.{capacity_of_fewer, capacity_of_mono}
use Rattle.lv_edits.proofs.HistoryLaws.{accepted_is_possible, length_after, list_of-snoc, not_refused, unrefused_reserve}
use Rattle.lv_geometry.proofs.Ranges.{find_first, greatest, greatest_above, greatest_least, greatest-next, greatest_same}

-- fewer buckets than the fewest that hold n do not
fewer_fail : (n k j : ℕ) → AreFewest n k → j < k → nat_le n (capacity_of j) ≡ false
fewer_fail n k j fewest below =
    elim (cases_lt (capacity_of j) n) [
      | inl less ↦ lt-leb n (capacity_of j) less
      | inr enough ↦ let no_fewer = fewest.fewest j enough in absurd (omega arith)
    ]

-- the least capacity that holds n is that of the fewest buckets that do
pub least_capacity_is : (n k : ℕ) → AreFewest n k → k ≤ 17 → least_capacity n ≡ capacity_of k
unfolding least_capacity
least_capacity_is n k fewest few =
    let first : find (λ c. nat_le n c) (map capacity_of (range_with_len 0 18)) ≡ Some (capacity_of k) = find_first (λ c. nat_le n c) capacity_of 0 18 k (omega arith) (omega arith) (le-leb _ _ fewest.enough) (λ j above below. fewer_fail n k j fewest below) in
    ap (λ o. unwrap_or o 0) first

-- if k buckets hold n cells, there is a least number of buckets that does
pub fewest_within : (n k : ℕ) → n ≤ capacity_of k → (j : ℕ) × (j ≤ k) × AreFewest n j
fewest_within n zero enough = (0, omega arith, record { enough = enough; fewest = λ fewer h. omega arith })
fewest_within n (suc k) enough =
    elim (cases_lt (capacity_of k) n) [
      | inl less ↦ (suc k, omega arith, record { enough = enough; fewest = λ fewer h. let more = capacity_of_fewer k fewer (omega arith) in omega arith })
      | inr fits ↦ let before = fewest_within n k fits in (before.0, omega arith, before.2)
    ]

-- the fewest for the greater of two numbers are the more of the fewest for each
pub fewest_of_max : (n m k j : ℕ) → AreFewest n k → AreFewest m j → AreFewest (max n m) (max k j)
fewest_of_max n m k j one other =
    let no_less = capacity_of_mono k (max k j) (omega arith) in
    let no_less_either = capacity_of_mono j (max k j) (omega arith) in
    record {
      enough = omega (arith, one.enough, other.enough);
      fewest = λ fewer enough.
          let first = one.fewest fewer (omega arith) in
          let second = other.fewest fewer (omega arith) in
          omega arith;
    }

-- the greatest value at any element is at most a bound of all values
fold_max_least : {X : Type 0} (f : X → ℕ) (a : ℕ) (xs : List X) (c : ℕ) → a ≤ c → All (λ x. f x ≤ c) xs → fold (λ most x. max most (f x)) a xs ≤ c
fold_max_least f a [] c first all = first
fold_max_least f a (x ∷ xs) c first all =
    let here : f x ≤ c = All-head (λ y. f y ≤ c) x xs all in
    fold_max_least f (max a (f x)) xs c (omega arith) (All-tail (λ y. f y ≤ c) x xs all)

-- and no value is above it
fold_max_above : {X : Type 0} (f : X → ℕ) (a : ℕ) (xs : List X) (c : ℕ) → fold (λ most x. max most (f x)) a xs ≤ c → (a ≤ c) × All (λ x. f x ≤ c) xs
fold_max_above f a [] c most = (most, All-nil (λ x. f x ≤ c))
fold_max_above f a (x ∷ xs) c most =
    let rest = fold_max_above f (max a (f x)) xs c most in
    let below : max a (f x) ≤ c = rest.0 in
    (omega arith, All-cons (λ y. f y ≤ c) x xs (omega arith) rest.1)

-- the most that was ever reserved, after one more edit
pub most_reserved-snoc : (es : List Edit) (e : Edit) → most_reserved (es ++ e ∷ []) ≡ max (most_reserved es) (reserved_by e)
unfolding most_reserved
most_reserved-snoc es e = fold_push _ 0 es e

-- how many elements the list had after the first j edits
length_at : List Edit → ℕ → ℕ
length_at es j = length (list_of (take j es))

-- the most elements that the list ever had are the greatest length at any beginning
longest_is : (es : List Edit) → longest es ≡ greatest (length_at es) 0 (length es + 1)
unfolding longest greatest length_at
longest_is es = refl

-- the list after a prefix of some edits is as long as before if one more edit is appended behind the prefix
length_at_before : (es : List Edit) (e : Edit) (j : ℕ) → j < length es + 1 → length_at (es ++ e ∷ []) j ≡ length_at es j
unfolding length_at
length_at_before es e j within = ap (λ l. length (list_of l)) (take-append-le j es (e ∷ []) (omega arith))

-- all edits together are the last beginning
length_at_end : (es : List Edit) → length_at es (length es) ≡ length (list_of es)
unfolding length_at
length_at_end es = ap (λ l. length (list_of l)) (take_all (length es) es (omega arith))

-- the most elements that the list ever had, after one more edit
pub longest-snoc : (es : List Edit) (e : Edit) → longest (es ++ e ∷ []) ≡ max (longest es) (length (list_of (es ++ e ∷ [])))
longest-snoc es e =
    let more = es ++ e ∷ [] in
    let before : greatest (length_at more) 0 (length more) ≡ longest es = ap (greatest (length_at more) 0) (length_push es e) ∙ greatest_same (length_at more) (length_at es) 0 (length es + 1) (λ j from below. length_at_before es e j (omega arith)) ∙ sym (longest_is es) in
    let last : 0 + length more ≡ length more = omega arith in
    longest_is more ∙ greatest-next (length_at more) 0 (length more) ∙ rw (last, before, length_at_end more)

-- a capacity that isn't below the greatest need suffices
pub suffices_above : (es : List Edit) (c : ℕ) → max (longest es) (most_reserved es) ≤ c → Suffices es c
unfolding most_reserved length_at
suffices_above es c above = record {
  lists = λ j within. omega (arith, greatest_above (length_at es) 0 (length es + 1) j (omega arith) (omega arith), longest_is es);
  reserves = (fold_max_above reserved_by 0 es c (omega arith)).1;
}

-- a capacity that suffices isn't below the greatest need
pub needed_within : (es : List Edit) (c : ℕ) → Suffices es c → max (longest es) (most_reserved es) ≤ c
unfolding most_reserved length_at
needed_within es c enough =
    omega (arith, longest_is es, greatest_least (length_at es) 0 (length es + 1) c (λ j from below. enough.lists j (omega arith)), fold_max_least reserved_by 0 es c (omega arith) enough.reserves)

-- the least capacity that ever sufficed is that of the buckets that are needed
pub capacity_after_needed : (es : List Edit) (k : ℕ) → AreNeeded es k → k ≤ 17 → capacity_after es ≡ capacity_of k
unfolding capacity_after
capacity_after_needed es k needed few = least_capacity_is (max (longest es) (most_reserved es)) k needed few

-- and the capacity of the buckets that are needed is the least that ever sufficed
pub IsCapacityAfter-needed : (es : List Edit) (k : ℕ) → AreNeeded es k → IsCapacityAfter es (capacity_of k)
IsCapacityAfter-needed es k needed = record {
  buckets = k;
  whole = refl;
  enough = suffices_above es (capacity_of k) needed.enough;
  least = λ j enough. capacity_of_mono k j (needed.fewest j (needed_within es (capacity_of j) enough));
}

-- if 17 buckets suffice, the number of buckets that is needed is at most 17
pub needed_buckets : (es : List Edit) → Suffices es (capacity_of 17) → (k : ℕ) × (k ≤ 17) × AreNeeded es k
needed_buckets es enough = fewest_within (max (longest es) (most_reserved es)) 17 (needed_within es (capacity_of 17) enough)

-- if 17 buckets suffice, the capacity that the definition names is the least that ever sufficed
pub capacity_after_is : (es : List Edit) → Suffices es (capacity_of 17) → IsCapacityAfter es (capacity_after es)
capacity_after_is es enough =
    let some = needed_buckets es enough in
    subst (IsCapacityAfter es) (sym (capacity_after_needed es some.0 some.2 some.1)) (IsCapacityAfter-needed es some.0 some.2)

-- there is one least capacity that ever sufficed
pub one_capacity_after : (es : List Edit) (c d : ℕ) → IsCapacityAfter es c → IsCapacityAfter es d → c ≡ d
one_capacity_after es c d first second =
    let up : c ≤ capacity_of second.buckets = first.least second.buckets (subst (Suffices es) second.whole second.enough) in
    let down : d ≤ capacity_of first.buckets = second.least first.buckets (subst (Suffices es) first.whole first.enough) in
    omega (arith, first.whole, second.whole)

-- before the first edit the list had no elements
longest-nil : longest [] ≡ 0
unfolding longest list_of replayed
longest-nil = refl

-- no edits need no buckets
pub AreNeeded-empty : AreNeeded [] 0
unfolding most_reserved
AreNeeded-empty = record { enough = omega (arith, longest-nil); fewest = λ fewer enough. omega arith }

-- nothing needs no bucket
pub fewest_of_none : AreFewest 0 0
fewest_of_none = record { enough = omega arith; fewest = λ fewer enough. omega arith }

-- the buckets that are needed after one more edit, if m is the number of cells that it needs beyond the capacity before it
pub AreNeeded-snoc : (es : List Edit) (e : Edit) (k j m : ℕ) → AreNeeded es k → AreFewest m j → m ≤ max (length (list_of (es ++ e ∷ []))) (reserved_by e) → max (length (list_of (es ++ e ∷ []))) (reserved_by e) ≤ max m (capacity_of k) → AreNeeded (es ++ e ∷ []) (max k j)
AreNeeded-snoc es e k j m needed more no_more no_less =
    let list = longest-snoc es e in
    let reserved = most_reserved-snoc es e in
    let both = fewest_of_max _ m k j needed more in
    record {
      enough = omega (arith, both.enough, capacity_of_mono k (max k j) (omega arith));
      fewest = λ fewer enough. both.fewest fewer (omega arith);
    }

-- an edit within the capacity needs no more buckets
pub AreNeeded-within : (es : List Edit) (e : Edit) (k : ℕ) → AreNeeded es k → length (list_of (es ++ e ∷ [])) ≤ capacity_of k → reserved_by e ≤ capacity_of k → AreNeeded (es ++ e ∷ []) k
AreNeeded-within es e k needed list reserved =
    let same : max k 0 ≡ k = omega arith in
    subst (AreNeeded (es ++ e ∷ [])) same (AreNeeded-snoc es e k 0 0 needed fewest_of_none (omega arith) (omega arith))

-- one more edit within the capacity leaves it as it was
pub capacity_after-within : (es : List Edit) (e : Edit) → Suffices es (capacity_of 17) → length (list_of (es ++ e ∷ [])) ≤ capacity_after es → reserved_by e ≤ capacity_after es → capacity_after (es ++ e ∷ []) ≡ capacity_after es
capacity_after-within es e enough list reserved =
    let some = needed_buckets es enough in
    let same = capacity_after_needed es some.0 some.2 some.1 in
    let needed = AreNeeded-within es e some.0 some.2 (omega arith) (omega arith) in
    capacity_after_needed (es ++ e ∷ []) some.0 needed some.1 ∙ sym same

-- one more edit that needs k buckets, whose capacity is not below the one before, opens them
pub capacity_after-beyond : (es : List Edit) (e : Edit) (k : ℕ) → Suffices es (capacity_of 17) → k ≤ 17 → AreFewest (max (length (list_of (es ++ e ∷ []))) (reserved_by e)) k → capacity_after es ≤ capacity_of k → capacity_after (es ++ e ∷ []) ≡ capacity_of k
capacity_after-beyond es e k enough few more above =
    let some = needed_buckets es enough in
    let same = capacity_after_needed es some.0 some.2 some.1 in
    let needed = AreNeeded-snoc es e some.0 k _ some.2 more (omega arith) (omega arith) in
    let no_fewer : some.0 ≤ k = some.2.fewest k (omega (arith, some.2.enough)) in
    let all : max some.0 k ≡ k = omega arith in
    capacity_after_needed (es ++ e ∷ []) k (subst (AreNeeded (es ++ e ∷ [])) all needed) few

-- a capacity that suffices still does after one more edit that fits into it
pub Suffices-snoc : (es : List Edit) (e : Edit) (c : ℕ) → Suffices es c → length (list_of (es ++ e ∷ [])) ≤ c → reserved_by e ≤ c → Suffices (es ++ e ∷ []) c
Suffices-snoc es e c enough list reserved =
    suffices_above (es ++ e ∷ []) c (omega (arith, needed_within es c enough, longest-snoc es e, most_reserved-snoc es e))

-- an edit that nothing refuses reserves no more than the limit's capacity
reserved_within : (limits : Bounds) (xs : List ℤ) (e : Edit) → refused_on limits xs e ≡ None → reserved_by e ≤ capacity_of limits.buckets
reserved_within limits xs (Push x) free = omega arith
reserved_within limits xs Pop free = omega arith
reserved_within limits xs (Write i x) free = omega arith
reserved_within limits xs (Reserve n) free = unrefused_reserve limits xs n free
reserved_within limits xs (Swap i j) free = omega arith
reserved_within limits xs (Truncate n) free = omega arith

-- the limit's capacity goes on to suffice for one more edit that is accepted
pub Suffices-accepted : (limits : Bounds) (es : List Edit) (e : Edit) → replayed es ≡ Some (list_of es) → Suffices es (capacity_of limits.buckets) → verdict_of limits es e ≡ None → Suffices (es ++ e ∷ []) (capacity_of limits.buckets)
Suffices-accepted limits es e legal enough free =
    let left = (not_refused limits es e free).1 in
    let next = accepted_is_possible limits es e free in
    let made = list_of-snoc es e next.0 legal next.1 in
    let size : length (list_of es) ≤ capacity_of limits.buckets = rw (take_all (length es) es (omega arith)) at (enough.lists (length es) (omega arith)) in
    let after = length_after limits (list_of es) next.0 e left next.1 size in
    Suffices-snoc es e (capacity_of limits.buckets) enough (omega (arith, ap length made.1)) (reserved_within limits (list_of es) e left)
