-- A vector that was made anew has the elements of its hub, answers updates as a vector with the hub's own updates would, and continues to
-- represent the hub.
use Rattle.std.proofs.Common.{◌≡◌, ◌≢◌, ◌⊎◌, Bool, true, false, ◌&&◌, ◌||◌, nat_le, ℕ, ℤ, pos, ◌+◌, ◌-◌, ◌<◌, ◌≤◌, ◌^◌, max, min, Some, None, option_and_then, unwrap_or, List, [], ◌∷◌, ◌++◌, All, length, take, drop, map, refl, sym, ap, ap₂, subst, ◌∙◌, inl, inr, arith, append-nil, append_assoc, take-append-drop}
use Rattle.std.proofs.lemmas.Bool.{cases_lt, cond-false, cond-true, eq-eqb, false≢true, leb-false, leb-true, ne_eqb}
use Rattle.std.proofs.lemmas.List.{drop-append-le, drop_all, length_push, length-map, take_all, take-append-le}
use Rattle.std.proofs.lemmas.List.Elements.{All-nil}
use mathlib.Core.List.{IsPrefix}
use Rattle.std.specs.List.{slice_index_or}
use Rattle.lv_geometry.specs.Bounds.{Bounds}
use Rattle.lv_geometry.specs.Cells.{capacity_of}
use Rattle.lv_geometry.specs.Elements.{IsElement}
use Rattle.lv_geometry.specs.declared.refusals.Refusal.TheVariants.{Worn}
use Rattle.lv_geometry.proofs.Capacities.{capacity_of_mono, capacity_of_most}
use Rattle.lv_edits.specs.declared.edit.Edit.{Edit}
use Rattle.lv_edits.specs.declared.edit.Edit.TheVariants.{Push, Pop, Write, Reserve, Swap, Truncate}
use Rattle.lv_edits.specs.declared.receipt.Receipt.{Receipt}
use Rattle.lv_edits.specs.declared.receipt.Receipt.TheVariants.{Pushed, Popped, Written, Reserved, Swapped, Truncated}
use Rattle.lv_edits.specs.Capacity.{capacity_after, least_capacity, longest, most_reserved, reserved_by}
use Rattle.lv_edits.specs.History.{History, applied, list_of, replayed}
use Rattle.lv_edits.specs.Kept.{IsLegalInLimits}
use Rattle.lv_edits.specs.Verdict.{Accepts, receipt_of, refused_on, verdict_of}
use Rattle.lv_edits.proofs.CapacityLaws.{fewest_of_max, fewest_within, least_capacity_is, longest-snoc, most_reserved-snoc, suffices_above}
use Rattle.lv_edits.proofs.HistoryLaws.{accepted_is_possible, legal_beginnings, legal_empty, list_of-snoc, list_of_replayed, not_refused, replayed-nil, replayed-snoc, unrefused_reserve}
use Rattle.lv_lines.specs.Texts.{numbered}
use Rattle.lv_hub.specs.Renewing.{IsOfOneVector, IsRun, LastsAs, StandsFor, lasting, opened_limits, receipt_with, renewed_after, vector_limits}

-- ---- updates that make the same list

-- lists that are equal remain so after the same updates
pub replayed_alike : (es fs more : List Edit) → replayed es ≡ replayed fs → replayed (es ++ more) ≡ replayed (fs ++ more)
replayed_alike es fs [] same = ap replayed (append-nil es) ∙ same ∙ ap replayed (sym (append-nil fs))
replayed_alike es fs (e ∷ more) same =
    let next : replayed (es ++ e ∷ []) ≡ replayed (fs ++ e ∷ []) = replayed-snoc es e ∙ ap (option_and_then (λ xs. applied xs e)) same ∙ sym (replayed-snoc fs e) in
    ap replayed (sym (append_assoc es (e ∷ []) more)) ∙ replayed_alike (es ++ e ∷ []) (fs ++ e ∷ []) more next ∙ ap replayed (append_assoc fs (e ∷ []) more)

-- what makes the same of no edits has the same list
pub list_alike : (es fs : List Edit) → replayed es ≡ replayed fs → list_of es ≡ list_of fs
unfolding list_of
list_alike es fs same = ap (λ r. unwrap_or r []) same

-- the pushes of some elements behind edits that are legal
pushes_behind : (es : List Edit) (ys xs : List ℤ) → replayed es ≡ Some ys → replayed (es ++ map Push xs) ≡ Some (ys ++ xs)
pushes_behind es ys [] made = ap replayed (append-nil es) ∙ made ∙ ap Some (sym (append-nil ys))
pushes_behind es ys (x ∷ xs) made =
    let next : replayed (es ++ Push x ∷ []) ≡ Some (ys ++ x ∷ []) = replayed-snoc es (Push x) ∙ ap (option_and_then (λ xs. applied xs (Push x))) made in
    ap replayed (sym (append_assoc es (Push x ∷ []) (map Push xs))) ∙ pushes_behind (es ++ Push x ∷ []) (ys ++ x ∷ []) xs next ∙ ap Some (append_assoc ys (x ∷ []) xs)

-- the pushes of a list make it
pub replayed_pushes : (xs : List ℤ) → replayed (map Push xs) ≡ Some xs
replayed_pushes xs = pushes_behind [] [] xs replayed-nil

pub list_of_pushes : (xs : List ℤ) → list_of (map Push xs) ≡ xs
list_of_pushes xs = list_of_replayed (map Push xs) xs (replayed_pushes xs)

-- ---- the edits of a vector that was made anew

-- they make the list that the hub's updates make
pub renewed_replayed : (n : ℕ) (edits : List Edit) → replayed edits ≡ Some (list_of edits) → replayed (renewed_after n edits) ≡ replayed edits
renewed_replayed n edits legal =
    let front = list_of (take n edits) in
    replayed_alike (map Push front) (take n edits) (drop n edits) (replayed_pushes front ∙ sym (legal_beginnings edits legal n))
    ∙ ap replayed (take-append-drop n edits)

pub renewed_list : (n : ℕ) (edits : List Edit) → replayed edits ≡ Some (list_of edits) → list_of (renewed_after n edits) ≡ list_of edits
renewed_list n edits legal = list_alike (renewed_after n edits) edits (renewed_replayed n edits legal)

-- they grow with the hub's updates
pub renewed_more : (n : ℕ) (edits more : List Edit) → n ≤ length edits → renewed_after n (edits ++ more) ≡ renewed_after n edits ++ more
renewed_more n edits more some =
    ap (λ es. map Push (list_of es) ++ drop n (edits ++ more)) (take-append-le n edits more some)
    ∙ ap (λ es. map Push (list_of (take n edits)) ++ es) (drop-append-le n edits more some)
    ∙ sym (append_assoc (map Push (list_of (take n edits))) (drop n edits) more)

-- those of a vector that was never made anew are the hub's
pub renewed_never : (edits : List Edit) → renewed_after 0 edits ≡ edits
renewed_never edits = ap (λ xs. map Push xs ++ edits) (list_of_replayed [] [] replayed-nil)

-- a vector that is made anew now has a push of each element that there is
pub renewed_now : (n : ℕ) (edits : List Edit) → n ≡ length edits → renewed_after n edits ≡ map Push (list_of edits)
renewed_now n edits all =
    ap (λ es. map Push (list_of es) ++ drop n edits) (take_all n edits (omega (arith, all)))
    ∙ ap (λ es. map Push (list_of edits) ++ es) (drop_all n edits (omega (arith, all)))
    ∙ append-nil (map Push (list_of edits))

-- for a prefix of the hub's updates, those of the vector that was made anew are a prefix too
pub renewed_prefix : (n : ℕ) (edits more : List Edit) → n ≤ length edits → IsPrefix edits more → IsPrefix (renewed_after n edits) (renewed_after n more)
renewed_prefix n edits more some begins = (begins.0, sym (renewed_more n edits begins.0 some) ∙ ap (renewed_after n) begins.1)

-- ---- how many cells are open

-- how many cells updates ever needed
abbrev needed : List Edit → ℕ
needed es = max (longest es) (most_reserved es)

needed-snoc : (es : List Edit) (e : Edit) → needed (es ++ e ∷ []) ≡ max (needed es) (max (length (list_of (es ++ e ∷ []))) (reserved_by e))
needed-snoc es e = omega (arith, longest-snoc es e, most_reserved-snoc es e)

-- no edits need none
needed-nil : needed [] ≡ 0
unfolding longest most_reserved list_of replayed
needed-nil = refl

-- what edits need is no less than they make
list_within : (es : List Edit) → length (list_of es) ≤ needed es
list_within es =
    let enough = (suffices_above es (needed es) (omega arith)).lists (length es) (omega arith) in
    rw (take_all (length es) es (omega arith)) at enough

-- the pushes of a list need as many as they make
pushes_need : (es : List Edit) (xs : List ℤ) → replayed es ≡ Some (list_of es) → needed es ≡ length (list_of es) → needed (es ++ map Push xs) ≡ length (list_of es) + length xs
pushes_need es [] legal so_far = ap needed (append-nil es) ∙ omega (arith, so_far)
pushes_need es (x ∷ xs) legal so_far =
    let next = list_of-snoc es (Push x) _ legal refl in
    let long : length (list_of (es ++ Push x ∷ [])) ≡ length (list_of es) + 1 = ap length next.1 ∙ length_push (list_of es) x in
    let here : needed (es ++ Push x ∷ []) ≡ length (list_of (es ++ Push x ∷ [])) = omega (arith, needed-snoc es (Push x), so_far, long) in
    ap needed (sym (append_assoc es (Push x ∷ []) (map Push xs)))
    ∙ pushes_need (es ++ Push x ∷ []) xs (next.0 ∙ ap Some (sym next.1)) here
    ∙ omega (arith, long)

-- two lists of updates make the same elements, and the first needs what the second does or n cells; both hold after further updates
needed_alike : (es fs more : List Edit) (n : ℕ) → replayed es ≡ replayed fs → needed es ≡ max (needed fs) n → needed (es ++ more) ≡ max (needed (fs ++ more)) n
needed_alike es fs [] n same so_far = ap needed (append-nil es) ∙ so_far ∙ ap (λ es. max (needed es) n) (sym (append-nil fs))
needed_alike es fs (e ∷ more) n same so_far =
    let next = replayed_alike es fs (e ∷ []) same in
    let list = ap length (list_alike (es ++ e ∷ []) (fs ++ e ∷ []) next) in
    ap needed (sym (append_assoc es (e ∷ []) more))
    ∙ needed_alike (es ++ e ∷ []) (fs ++ e ∷ []) more n next (omega (arith, needed-snoc es e, needed-snoc fs e, so_far, list))
    ∙ ap (λ es. max (needed es) n) (append_assoc fs (e ∷ []) more)

-- the cells that the hub's updates need are those that its vector's need, or those that were needed before it was made anew
needed_renewed : (n : ℕ) (edits : List Edit) → replayed edits ≡ Some (list_of edits) → needed edits ≡ max (needed (renewed_after n edits)) (needed (take n edits))
needed_renewed n edits legal =
    let front = take n edits in
    let before = legal_beginnings edits legal n in
    let pushed : needed (map Push (list_of front)) ≡ length (list_of front) = pushes_need [] (list_of front) (replayed-nil ∙ ap Some (sym (list_of_replayed [] [] replayed-nil))) (omega (arith, needed-nil, ap length (list_of_replayed [] [] replayed-nil))) ∙ omega (arith, ap length (list_of_replayed [] [] replayed-nil)) in
    ap needed (sym (take-append-drop n edits))
    ∙ needed_alike front (map Push (list_of front)) (drop n edits) (needed front) (before ∙ sym (replayed_pushes (list_of front))) (omega (arith, pushed, list_within front))

capacity_of_greater : (k j : ℕ) → capacity_of (max k j) ≡ max (capacity_of k) (capacity_of j)
capacity_of_greater k j =
    elim (cases_lt k j) [
      | inl less ↦ let most : max k j ≡ j = omega arith in ap capacity_of most ∙ omega (arith, capacity_of_mono k j (omega arith))
      | inr no_less ↦ let most : max k j ≡ k = omega arith in ap capacity_of most ∙ omega (arith, capacity_of_mono j k no_less)
    ]

-- the least capacity for the greater of two numbers is the greater of theirs
least_capacity_of_max : (n m : ℕ) → n ≤ 1048568 → m ≤ 1048568 → least_capacity (max n m) ≡ max (least_capacity n) (least_capacity m)
least_capacity_of_max n m first second =
    let one = fewest_within n 17 first in
    let other = fewest_within m 17 second in
    let both : max one.0 other.0 ≤ 17 = omega (arith, one.1, other.1) in
    least_capacity_is (max n m) (max one.0 other.0) (fewest_of_max n m one.0 other.0 one.2 other.2) both
    ∙ capacity_of_greater one.0 other.0
    ∙ ap₂ max (sym (least_capacity_is n one.0 one.2 one.1)) (sym (least_capacity_is m other.0 other.2 other.1))

-- the capacity after the hub's updates is that of its vector, or that when it was made anew
pub renewed_capacity : (n : ℕ) (edits : List Edit) → replayed edits ≡ Some (list_of edits) → max (longest edits) (most_reserved edits) ≤ 1048568 → capacity_after edits ≡ max (capacity_after (renewed_after n edits)) (capacity_after (take n edits))
unfolding capacity_after
renewed_capacity n edits legal few =
    let is = needed_renewed n edits legal in
    ap least_capacity is
    ∙ least_capacity_of_max (needed (renewed_after n edits)) (needed (take n edits)) (omega (arith, is, few)) (omega (arith, is, few))

-- before the first edit none are open
pub capacity_of_none : capacity_after (take 0 []) ≡ 0
unfolding capacity_after longest most_reserved list_of replayed least_capacity
capacity_of_none = refl

-- ---- the result of an update

-- two vectors with as many buckets and the same list refuse the same updates, while both have updates left
refused_alike : (one two : Bounds) (xs : List ℤ) (e : Edit) → one.buckets ≡ two.buckets → refused_on one xs e ≡ refused_on two xs e
refused_alike one two xs (Push x) same = ap (λ buckets. refused_on (record { buckets = buckets; edits = 0 }) xs (Push x)) same
refused_alike one two xs Pop same = refl
refused_alike one two xs (Write i x) same = refl
refused_alike one two xs (Reserve n) same = ap (λ buckets. refused_on (record { buckets = buckets; edits = 0 }) xs (Reserve n)) same
refused_alike one two xs (Swap i j) same = refl
refused_alike one two xs (Truncate n) same = refl

pub verdict_alike : (one two : Bounds) (es fs : List Edit) (e : Edit) → one.buckets ≡ two.buckets → list_of es ≡ list_of fs → length es ≢ one.edits → length fs ≢ two.edits → verdict_of one es e ≡ verdict_of two fs e
verdict_alike one two es fs e buckets list left left_too =
    cond-false _ _ _ (ne_eqb (length es) one.edits left)
    ∙ refused_alike one two (list_of es) e buckets
    ∙ ap (λ xs. refused_on two xs e) list
    ∙ sym (cond-false _ _ _ (ne_eqb (length fs) two.edits left_too))

-- their receipts of an accepted update are equal, except for its number and the capacity
pub receipt_alike : (es fs : List Edit) (e : Edit) (least : ℕ) → list_of fs ≡ list_of es → capacity_after (es ++ e ∷ []) ≡ max (capacity_after (fs ++ e ∷ [])) least → numbered (length es + 1) (receipt_with least (receipt_of fs e)) ≡ receipt_of es e
receipt_alike es fs (Push x) least list cells = ap (λ xs. Pushed (length es + 1) (length xs)) list
receipt_alike es fs Pop least list cells = ap (λ xs. Popped (length es + 1) (slice_index_or xs (length xs - 1) (pos 0))) list
receipt_alike es fs (Write i x) least list cells = ap (λ xs. Written (length es + 1) (slice_index_or xs i (pos 0))) list
receipt_alike es fs (Reserve n) least list cells = ap (Reserved (length es + 1)) (sym cells)
receipt_alike es fs (Swap i j) least list cells = ap (λ xs. Swapped (length es + 1) (slice_index_or xs j (pos 0)) (slice_index_or xs i (pos 0))) list
receipt_alike es fs (Truncate n) least list cells = ap (λ xs. Truncated (length es + 1) (length xs - n)) list

-- the receipt's number is that of the update
own_number : (es : List Edit) (e : Edit) (least : ℕ) → numbered (length es + 1) (receipt_with least (receipt_of es e)) ≡ receipt_with least (receipt_of es e)
own_number es (Push x) least = refl
own_number es Pop least = refl
own_number es (Write i x) least = refl
own_number es (Reserve n) least = refl
own_number es (Swap i j) least = refl
own_number es (Truncate n) least = refl

-- ---- a vector that represents its hub

module _ (limits : Bounds) (renewed capacity : ℕ) where
  -- its list is the hub's
  pub stands_list : (edits : List Edit) (h : History) → StandsFor limits renewed capacity edits h → list_of h.journal ≡ list_of edits
  stands_list edits h stands = ap list_of stands.journal ∙ renewed_list renewed edits stands.run.legal

  -- its history is that of the hub if it is never made anew
  pub stands_alone : (edits : List Edit) (h : History) → StandsFor limits renewed capacity edits h → IsOfOneVector limits → h ≡ record { limits = limits; journal = edits }
  stands_alone edits h stands one =
      let journal : h.journal ≡ edits = stands.journal ∙ ap (λ n. renewed_after n edits) (stands.never one) ∙ renewed_never edits in
      let same : min limits.edits 16777215 ≡ limits.edits = omega (arith, one) in
      λ i. record { limits = (stands.vector.limits_are ∙ ap (λ n. record limits { edits = n }) same) i; journal = journal i }

-- neither of two is true
neither_true : (a b : Bool) → (a || b) ≡ false → (a ≡ false) × (b ≡ false)
neither_true false b none = (refl, none)
neither_true true b none = absurd (false≢true (sym none))

-- a hub has updates left while its vector has made fewer than `most`, or if it is of one vector
pub data HasEditsLeft (most : ℕ) (limits : Bounds) (edits : List Edit) (h : History) : Type 0 where
  IsOne : IsOfOneVector limits → HasEditsLeft most limits edits h
  Lasts : limits ≡ lasting limits → length h.journal < most → length edits < 2 ^ 62 → HasEditsLeft most limits edits h

-- its vector refuses the updates that the hub refuses
pub verdict_stands : (most : ℕ) (limits : Bounds) (renewed capacity : ℕ) (edits : List Edit) (h : History) (e : Edit) → most ≤ 16777215 → StandsFor limits renewed capacity edits h → HasEditsLeft most limits edits h → verdict_of h.limits h.journal e ≡ verdict_of limits edits e
verdict_stands most limits renewed capacity edits h e some stands (IsOne one) = ap (λ h. verdict_of h.limits h.journal e) (stands_alone limits renewed capacity edits h stands one)
verdict_stands most limits renewed capacity edits h e some stands (Lasts lasts few left) =
    let all : limits.edits ≡ 2 ^ 62 = ap (λ l. l.edits) lasts in
    verdict_alike h.limits limits h.journal edits e (ap (λ l. l.buckets) stands.vector.limits_are) (stands_list limits renewed capacity edits h stands)
    (λ worn. omega (arith, worn, ap (λ l. l.edits) stands.vector.limits_are, few, all, some))
    (λ worn. omega (arith, worn, left, all))

-- then there are fewer updates than the hub can number
pub few_edits : (most : ℕ) (limits : Bounds) (edits : List Edit) (h : History) → IsRun limits edits → HasEditsLeft most limits edits h → length edits < 2 ^ 62
few_edits most limits edits h run (IsOne one) = omega (arith, one, run.edits)
few_edits most limits edits h run (Lasts lasts few left) = left

-- a hub that isn't worn has updates left
pub edits_left : (limits : Bounds) (lasts : Bool) (edits : List Edit) (h : History) (made all : ℕ) → LastsAs lasts limits → made ≡ length h.journal → all ≡ length edits → (lasts && (nat_le 16777214 made || nat_le (2 ^ 62) all)) ≡ false → HasEditsLeft 16777214 limits edits h
edits_left limits false edits h made all one is are left = IsOne one
edits_left limits true edits h made all lasts is are left =
    let parts = neither_true (nat_le 16777214 made) (nat_le (2 ^ 62) all) left in
    Lasts lasts (omega (arith, leb-false 16777214 made parts.0, is)) (omega (arith, leb-false (2 ^ 62) all parts.1, are))

kept_by : (limits : Bounds) (edits : List Edit) (h : History) → limits ≡ lasting limits → IsOfOneVector limits ⊎ (length h.journal < 16777215) → length edits < 2 ^ 62 → HasEditsLeft 16777215 limits edits h
kept_by limits edits h lasts (inl one) left = IsOne one
kept_by limits edits h lasts (inr few) left = Lasts lasts few left

-- a hub that has not made all updates that it can number has one left, which its vector holds in reserve
pub edit_kept : (limits : Bounds) (lasts : Bool) (renewed capacity : ℕ) (edits : List Edit) (h : History) (all : ℕ) → LastsAs lasts limits → StandsFor limits renewed capacity edits h → all ≡ length edits → (lasts && nat_le (2 ^ 62) all) ≡ false → HasEditsLeft 16777215 limits edits h
edit_kept limits false renewed capacity edits h all one stands are left = IsOne one
edit_kept limits true renewed capacity edits h all lasts stands are left = kept_by limits edits h lasts stands.spare (omega (arith, leb-false (2 ^ 62) all left, are))

-- a hub that has made all of them is worn
pub is_worn_out : (limits : Bounds) (lasts : Bool) (edits : List Edit) (e : Edit) (all : ℕ) → LastsAs lasts limits → IsRun limits edits → all ≡ length edits → (lasts && nat_le (2 ^ 62) all) ≡ true → verdict_of limits edits e ≡ Some Worn
is_worn_out limits false edits e all one run are used = absurd (false≢true used)
is_worn_out limits true edits e all lasts run are used =
    cond-true _ _ _ (eq-eqb (length edits) limits.edits (omega (arith, leb-true (2 ^ 62) all used, are, ap (λ l. l.edits) lasts, run.edits)))

-- an accepted update reserves no more cells than 17 buckets have
reserved_few : (limits : Bounds) (xs : List ℤ) (e : Edit) → limits.buckets ≤ 17 → refused_on limits xs e ≡ None → reserved_by e ≤ 1048568
reserved_few limits xs (Push x) few free = omega arith
reserved_few limits xs Pop few free = omega arith
reserved_few limits xs (Write i x) few free = omega arith
reserved_few limits xs (Reserve n) few free = omega (arith, unrefused_reserve limits xs n free, capacity_of_most limits.buckets few)
reserved_few limits xs (Swap i j) few free = omega arith
reserved_few limits xs (Truncate n) few free = omega arith

-- what holds of a hub and its vector after an update that the vector accepted
pub record EditStands (limits : Bounds) (renewed capacity : ℕ) (edits : List Edit) (e : Edit) (receipt : Receipt) (new : History) : Type 0 where
  pub stands : StandsFor limits renewed capacity (edits ++ e ∷ []) new
  pub verdict : verdict_of limits edits e ≡ None
  pub receipt_is : numbered (length (edits ++ e ∷ [])) (receipt_with capacity receipt) ≡ receipt_of edits e
  pub number : IsOfOneVector limits → receipt_with capacity receipt ≡ numbered (length (edits ++ e ∷ [])) (receipt_with capacity receipt)

-- the update was applied to the hub's list too, with the same result
record HasMade (edits : List Edit) (e : Edit) (new : History) : Type 0 where
  legal : replayed (edits ++ e ∷ []) ≡ Some (list_of (edits ++ e ∷ []))
  list : list_of new.journal ≡ list_of (edits ++ e ∷ [])
  few : max (longest (edits ++ e ∷ [])) (most_reserved (edits ++ e ∷ [])) ≤ 1048568

module _ (limits : Bounds) (renewed capacity : ℕ) (edits : List Edit) (e : Edit) (old new : History) where
  has_made : (receipt : Receipt) → StandsFor limits renewed capacity edits old → Accepts old e receipt new → IsLegalInLimits new → HasMade edits e new
  has_made receipt stands accepts within =
      let list = stands_list limits renewed capacity edits old stands in
      let free = (not_refused old.limits old.journal e accepts.verdict).1 in
      let possible = accepted_is_possible old.limits old.journal e accepts.verdict in
      let made = list_of-snoc edits e possible.0 stands.run.legal (ap (λ xs. applied xs e) (sym list) ∙ possible.1) in
      let is : list_of new.journal ≡ list_of (edits ++ e ∷ []) =
      ap (λ h. list_of h.journal) accepts.journal ∙ (list_of-snoc old.journal e possible.0 stands.vector.within.legal possible.1).1 ∙ sym made.1 in
      let reserved = reserved_few old.limits (list_of old.journal) e stands.vector.within.allowed.few_buckets free in
      record {
        legal = made.0 ∙ ap Some (sym made.1);
        list = is;
        few = omega (arith, needed-snoc edits e, stands.cells, reserved, ap length is, within.few);
      }

  -- there are no more edits than the hub takes
  edits_within : StandsFor limits renewed capacity edits old → HasEditsLeft 16777214 limits edits old → length new.journal ≡ length old.journal + 1 → length new.journal ≤ min limits.edits 16777215 → length (edits ++ e ∷ []) ≤ limits.edits
  edits_within stands (IsOne one) longer within = omega (arith, longer, within, length_push edits e, ap (λ h. length h.journal) (stands_alone limits renewed capacity edits old stands one))
  edits_within stands (Lasts lasts few left) longer within = omega (arith, length_push edits e, left, ap (λ l. l.edits) lasts)

  still_spare : HasEditsLeft 16777214 limits edits old → length new.journal ≡ length old.journal + 1 → IsOfOneVector limits ⊎ (length new.journal < 16777215)
  still_spare (IsOne one) longer = inl one
  still_spare (Lasts lasts few left) longer = inr (omega (arith, few, longer))

  -- after an update the vector still represents its hub
  stands_more : (receipt : Receipt) → StandsFor limits renewed capacity edits old → HasEditsLeft 16777214 limits edits old → Accepts old e receipt new → IsLegalInLimits new → HasMade edits e new → StandsFor limits renewed capacity (edits ++ e ∷ []) new
  stands_more receipt stands left accepts within made =
      let limits_are : new.limits ≡ vector_limits limits = ap (λ h. h.limits) accepts.journal ∙ stands.vector.limits_are in
      let journal : new.journal ≡ renewed_after renewed (edits ++ e ∷ []) =
      ap (λ h. h.journal) accepts.journal ∙ ap (λ es. es ++ e ∷ []) stands.journal ∙ sym (renewed_more renewed edits (e ∷ []) stands.some) in
      let list = made.list in
      let long = length_push edits e in
      let longer : length new.journal ≡ length old.journal + 1 = ap (λ h. length h.journal) accepts.journal ∙ length_push old.journal e in
      record {
        vector = record { limits_are = limits_are; within = within };
        journal = journal;
        run = record {
          legal = made.legal;
          edits = edits_within stands left longer (omega (arith, within.edits, ap (λ l. l.edits) limits_are));
          size = omega (arith, ap length list, within.size, ap (λ l. capacity_of l.buckets) limits_are);
          few = omega (arith, ap length list, within.few);
          elements = subst (All IsElement) list within.elements;
        };
        some = omega (arith, stands.some, long);
        never = stands.never;
        spare = still_spare left longer;
        capacity_is = stands.capacity_is ∙ ap capacity_after (sym (take-append-le renewed edits (e ∷ []) stands.some));
        cells = made.few;
      }

  -- the vector's receipt is that of the hub
  pub edit_stands : (receipt : Receipt) → StandsFor limits renewed capacity edits old → HasEditsLeft 16777214 limits edits old → Accepts old e receipt new → IsLegalInLimits new → EditStands limits renewed capacity edits e receipt new
  edit_stands receipt stands left accepts within =
      let made = has_made receipt stands accepts within in
      let more = edits ++ e ∷ [] in
      let cells : capacity_after more ≡ max (capacity_after (old.journal ++ e ∷ [])) capacity =
      renewed_capacity renewed more made.legal made.few
      ∙ ap₂ (λ one other. max (capacity_after one) (capacity_after other)) (renewed_more renewed edits (e ∷ []) stands.some ∙ ap (λ es. es ++ e ∷ []) (sym stands.journal)) (take-append-le renewed edits (e ∷ []) stands.some)
      ∙ ap (max (capacity_after (old.journal ++ e ∷ []))) (sym stands.capacity_is) in
      record {
        stands = stands_more receipt stands left accepts within made;
        verdict = sym (verdict_stands 16777214 limits renewed capacity edits old e (omega arith) stands left) ∙ accepts.verdict;
        receipt_is =
            ap₂ (λ n receipt. numbered n (receipt_with capacity receipt)) (length_push edits e) accepts.receipt_is
            ∙ receipt_alike edits old.journal e capacity (stands_list limits renewed capacity edits old stands) cells;
        number = λ one.
            let is : receipt ≡ receipt_of edits e = accepts.receipt_is ∙ ap (λ h. receipt_of h.journal e) (stands_alone limits renewed capacity edits old stands one) in
            ap (receipt_with capacity) is ∙ sym (own_number edits e capacity)
            ∙ ap₂ (λ n receipt. numbered n (receipt_with capacity receipt)) (sym (length_push edits e)) (sym is);
      }

-- ---- a vector that is made anew

-- a vector that has just the hub's elements, as pushes, represents the hub from then on
pub stands_anew : (limits : Bounds) (renewed capacity : ℕ) (edits : List Edit) (old new : History) (n c : ℕ) → StandsFor limits renewed capacity edits old → limits ≡ lasting limits → IsLegalInLimits new
    → new ≡ record { limits = vector_limits limits; journal = map Push (list_of edits) } → n ≡ length edits → c ≡ max (capacity_after old.journal) capacity → StandsFor limits n c edits new
stands_anew limits renewed capacity edits old new n c stands lasts within is all cells =
    let journal : new.journal ≡ map Push (list_of edits) = ap (λ h. h.journal) is in
    let front : take n edits ≡ edits = take_all n edits (omega (arith, all)) in
    record {
      vector = record { limits_are = ap (λ h. h.limits) is; within = within };
      journal = journal ∙ sym (renewed_now n edits all);
      run = stands.run;
      some = omega (arith, all);
      never = λ one. absurd (omega (arith, one, ap (λ l. l.edits) lasts));
      spare = inr (omega (arith, ap length journal, length-map (list_of edits) Push, stands.run.few));
      capacity_is =
          cells ∙ ap₂ (λ es c. max (capacity_after es) c) stands.journal stands.capacity_is
          ∙ sym (renewed_capacity renewed edits stands.run.legal stands.cells) ∙ ap capacity_after (sym front);
      cells = stands.cells;
    }

-- an empty vector represents a hub without updates
pub stands_at_first : (limits : Bounds) (h : History) (c : ℕ) → IsLegalInLimits h → h ≡ record { limits = vector_limits limits; journal = [] } → c ≡ 0 → StandsFor limits 0 c [] h
stands_at_first limits h c within is none =
    let list : list_of [] ≡ [] = list_of_replayed [] [] replayed-nil in
    record {
      vector = record { limits_are = ap (λ h. h.limits) is; within = within };
      journal = ap (λ h. h.journal) is ∙ sym (renewed_never []);
      run = record {
        legal = legal_empty;
        edits = omega arith;
        size = omega (arith, ap length list);
        few = omega (arith, ap length list);
        elements = subst (All IsElement) (sym list) (All-nil IsElement);
      };
      some = omega arith;
      never = λ one. refl;
      spare = inr (omega (arith, ap (λ h. length h.journal) is));
      capacity_is = none ∙ sym capacity_of_none;
      cells = omega (arith, needed-nil);
    }

-- the limits of a hub that are those of a vector are its vector's
pub vector_limits_are : (limits : Bounds) → IsOfOneVector limits → vector_limits limits ≡ limits
vector_limits_are limits one = let same : min limits.edits 16777215 ≡ limits.edits = omega (arith, one) in ap (λ n. record limits { edits = n }) same

-- and those of a vector of a hub that lasts are the ones that it was made with
pub lasting_limits_are : (limits vector : Bounds) → limits ≡ lasting vector → vector.edits ≡ 16777215 → vector ≡ vector_limits limits
lasting_limits_are limits vector is many = λ i. record { buckets = ap (λ l. l.buckets) (sym is) i; edits = (many ∙ ap (λ l. min l.edits 16777215) (sym is)) i }

-- limits of a hub that lasts are such themselves
pub lasts_so : (limits vector : Bounds) → limits ≡ lasting vector → limits ≡ lasting limits
lasts_so limits vector is = is ∙ ap lasting (sym is)

-- a hub that is opened for such a vector has these limits, and lasts if that was asked for
pub opened_vector : (limits vector : Bounds) (lasts : Bool) → limits ≡ opened_limits lasts vector → (lasts ≡ true → vector.edits ≡ 16777215) → vector.edits ≤ 16777215 → vector ≡ vector_limits limits
opened_vector limits vector true is many few = lasting_limits_are limits vector is (many refl)
opened_vector limits vector false is many few = sym is ∙ sym (vector_limits_are limits (subst IsOfOneVector (sym is) few))

pub opened_so : (limits vector : Bounds) (lasts : Bool) → limits ≡ opened_limits lasts vector → vector.edits ≤ 16777215 → LastsAs lasts limits
opened_so limits vector true is few = lasts_so limits vector is
opened_so limits vector false is few = subst IsOfOneVector (sym is) few
