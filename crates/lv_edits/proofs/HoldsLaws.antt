-- A store that has the contents which a journal leaves (`HoldsReplay`): what follows of the history, and that each kind of edit keeps it so.
use Rattle.std.proofs.Common.{◌≡◌, ℕ, ℤ, pos, ◌+◌, ◌-◌, ◌<◌, ◌≤◌, max, All, Some, None, Option, Result, List, [], ◌∷◌, ◌++◌, length, take, slice_set, get_or, inl, inr, Bool, true, false, nat_eq, if◌then◌else◌, refl, sym, ap, subst, ◌∙◌, arith, lit≤, true≢false}
use Rattle.std.specs.Prelude.{◌≢◌, IfSome, IsErrAnd, IsSomeAnd}
use Rattle.std.specs.List.{Contains, swap}
use Rattle.std.proofs.lemmas.Bool.{cases_Bool, cond-false, cond-true, eqb-false, eqb-true, or_cases}
use Rattle.std.proofs.lemmas.List.{length_push, length-set, length-take, set-set}
use Rattle.std.proofs.lemmas.List.Edits.{length-swap, swap_is}
use Rattle.std.proofs.lemmas.List.Elements.{All-get_or}
use Rattle.std.proofs.lemmas.Result.{err_from_is_err_and}
use Rattle.lv_geometry.specs.Bounds.{Bounds}
use Rattle.lv_geometry.specs.Cells.{AreFewest, capacity_of}
use Rattle.lv_geometry.specs.Elements.{IsElement}
use Rattle.lv_geometry.specs.declared.refusals.Refusal.{Refusal}
use Rattle.lv_geometry.specs.declared.refusals.Refusal.TheVariants.{NoMemory}
use Rattle.lv_store.specs.Inner.{IsStore}
use Rattle.lv_store.specs.State.{AreAlike, StoreState, announced, are_at, elements_of, empty_store, value_in, writes_of}
use Rattle.lv_store.proofs.ElementsLaws.{elements-popped, elements-pushed, elements-rewritten, elements-unwritten, elements-written, elements_alike, get_or-elements, length-elements}
use Rattle.lv_geometry.proofs.Capacities.{capacity_of_mono}
use Rattle.lv_edits.specs.declared.edit.Edit.{Edit}
use Rattle.lv_edits.specs.declared.edit.Edit.TheVariants.{Push, Pop, Write, Reserve, Swap, Truncate}
use Rattle.lv_edits.specs.declared.receipt.Receipt.{Receipt}
use Rattle.lv_edits.specs.Capacity.{capacity_after, reserved_by}
use Rattle.lv_edits.specs.History.{History, applied, list_of}
use Rattle.lv_edits.specs.Inner.{AreNeeded, HoldsReplay, history_of, write_at_second}
use Rattle.lv_edits.specs.Kept.{CarriesElement, IsLegalInLimits}
use Rattle.lv_edits.specs.Touch.{LastWroteAt, indices_written}
use Rattle.lv_edits.specs.Verdict.{Answers, refused_on, verdict_of}
use Rattle.lv_edits.proofs.CapacityLaws.{AreNeeded-empty, AreNeeded-snoc, capacity_after_needed, fewest_within}
use Rattle.lv_edits.proofs.HistoryLaws.{IsLegalInLimits-empty, IsLegalInLimits-snoc, applied_pop, applied_swap, applied_truncate, applied_write, list_of-snoc, list_of_replayed, not_refused, replayed-nil, unrefused_pop, unrefused_push, unrefused_reserve, unrefused_swap, unrefused_truncate, unrefused_write}

-- the list has as many elements as the store
pub size_held : (s : StoreState) (journal : List Edit) → HoldsReplay s journal → s.descriptor.size ≡ length (list_of journal)
size_held s journal held = sym (ap length (sym held.items) ∙ length-elements s)

-- the open cells are as many as the history ever needed
pub capacity_held : (s : StoreState) (journal : List Edit) → HoldsReplay s journal → capacity_of s.buckets ≡ capacity_after journal
capacity_held s journal held =
    sym (capacity_after_needed journal s.buckets held.needed (omega (arith, held.sound.few, held.kept.allowed.few_buckets)))

-- the store reads the list's element at an index of the list
pub read_held : (s : StoreState) (journal : List Edit) (i : ℕ) (d : ℤ) → HoldsReplay s journal → i < s.descriptor.size → value_in s i ≡ get_or (list_of journal) i d
read_held s journal i d held inside =
    sym (ap (λ xs. get_or xs i d) (sym held.items) ∙ get_or-elements s i d inside)

-- and a number of 64 bits
pub fits_held : (s : StoreState) (journal : List Edit) (i : ℕ) → HoldsReplay s journal → i < s.descriptor.size → IsElement (value_in s i)
fits_held s journal i held inside =
    subst IsElement (get_or-elements s i (pos 0) inside) (All-get_or IsElement (elements_of s) i (pos 0) (omega (arith, length-elements s)) (subst (All IsElement) (sym held.items) held.kept.elements))

-- if nothing is pending, nothing is pending at an index
pub none_pending : (s : StoreState) (journal : List Edit) → s.descriptor.pending ≡ None → (i : ℕ) → are_at i s.descriptor.pending ≡ true → LastWroteAt journal i
none_pending s journal settled i there = absurd (true≢false (sym there ∙ ap (are_at i) settled))

-- the last edit wrote at an index at which a write is pending
pub wrote_last : (s : StoreState) (journal : List Edit) (h : History) (i : ℕ) → HoldsReplay s journal → history_of s journal ≡ h → are_at i s.descriptor.pending ≡ true → LastWroteAt h.journal i
wrote_last s journal h i held is there = rw (← is) (held.pending i there)

-- no edits are held by an empty store
pub HoldsReplay-empty : (limits : Bounds) → IsStore (empty_store limits) → HoldsReplay (empty_store limits) []
HoldsReplay-empty limits sound = record {
  sound = sound;
  kept = IsLegalInLimits-empty limits sound.allowed;
  items = sym (list_of_replayed [] [] replayed-nil);
  needed = AreNeeded-empty;
  edit = refl;
  pending = none_pending (empty_store limits) [] refl;
}

-- a store that reads alike, with the same buckets and nothing pending, holds the same
pub HoldsReplay-alike : (s t : StoreState) (journal : List Edit) → HoldsReplay s journal → AreAlike s t → t.buckets ≡ s.buckets → t.descriptor.pending ≡ None → IsStore t → HoldsReplay t journal
HoldsReplay-alike s t journal held alike buckets settled sound = record {
  sound = sound;
  kept = rw alike.limits held.kept;
  items = elements_alike s t alike ∙ held.items;
  needed = rw buckets held.needed;
  edit = alike.edit ∙ held.edit;
  pending = none_pending t journal settled;
}

-- a store that reads the same represents a history within its limits too
pub IsLegalInLimits-alike : (s t : StoreState) (journal : List Edit) → HoldsReplay s journal → AreAlike s t → IsLegalInLimits record { limits = t.limits; journal = journal }
IsLegalInLimits-alike s t journal held alike = rw alike.limits held.kept

-- nothing refuses an accepted edit on the elements
unrefused_held : (s : StoreState) (journal : List Edit) (e : Edit) → HoldsReplay s journal → verdict_of s.limits journal e ≡ None → refused_on s.limits (elements_of s) e ≡ None
unrefused_held s journal e held free = subst (λ xs. refused_on s.limits xs e ≡ None) (sym held.items) (not_refused s.limits journal e free).1

-- an accepted edit comes before the limit of edits, also of a store that reads alike
pub edits_left : (s m : StoreState) (journal : List Edit) (e : Edit) → HoldsReplay s journal → verdict_of s.limits journal e ≡ None → AreAlike s m → m.descriptor.edit < m.limits.edits
edits_left s m journal e held free alike =
    let left : length journal ≢ s.limits.edits = (not_refused s.limits journal e free).0 in
    let within : length journal ≤ s.limits.edits = held.kept.edits in
    rw (alike.edit, alike.limits, held.edit) (omega (arith, left, within))

-- a call whose only error is `NoMemory` leaves the history as it was on that error, if the store reads the same
pub Answers-no_memory : (s m : StoreState) (journal : List Edit) (e : Edit) (r : Result Receipt Refusal) (why : Refusal) → verdict_of s.limits journal e ≡ None → AreAlike s m → why ≡ NoMemory → IsErrAnd r (λ refusal. refusal ≡ why) → Answers record { limits = s.limits; journal = journal } e r record { limits = m.limits; journal = journal }
Answers-no_memory s m journal e r why free alike is failed =
    let (refusal, refused, given) = err_from_is_err_and r failed in
    rw refused record { verdict = inr (free, given ∙ is); same = rw alike.limits refl }

-- the elements after an accepted edit are the list after it
list_held : (s : StoreState) (journal : List Edit) (e : Edit) (ys : List ℤ) → HoldsReplay s journal → applied (elements_of s) e ≡ Some ys → list_of (journal ++ e ∷ []) ≡ ys
list_held s journal e ys held made = (list_of-snoc journal e ys held.kept.legal (ap (λ xs. applied xs e) (sym held.items) ∙ made)).1

-- the cells that an accepted edit needs: n cells are enough for it beyond the open ones, it needs no more, and the limits allow them
record Asks (s : StoreState) (e : Edit) (ys : List ℤ) (n : ℕ) : Type 0 where
  no_more : n ≤ max (length ys) (reserved_by e)
  no_less : max (length ys) (reserved_by e) ≤ max n (capacity_of s.buckets)
  within : n ≤ capacity_of s.limits.buckets

-- the buckets that are needed after it are those for n cells, if these are more
needed_held : (s : StoreState) (journal : List Edit) (e : Edit) (ys : List ℤ) (n more : ℕ) → HoldsReplay s journal → applied (elements_of s) e ≡ Some ys → Asks s e ys n → ((k : ℕ) → AreFewest n k → more ≡ max s.buckets k) → AreNeeded (journal ++ e ∷ []) more
needed_held s journal e ys n more held made asks opens =
    let long : length (list_of (journal ++ e ∷ [])) ≡ length ys = ap length (list_held s journal e ys held made) in
    let fewest = fewest_within n s.limits.buckets asks.within in
    subst (AreNeeded (journal ++ e ∷ [])) (sym (opens fewest.0 fewest.2)) (AreNeeded-snoc journal e s.buckets fewest.0 n held.needed fewest.2 (omega (arith, asks.no_more)) (omega (arith, asks.no_less)))

-- if an edit announces no write, none is at an index
wrote_none : (indices : List ℕ) (k : ℕ) → are_at k (writes_of None None) ≡ true → Contains indices k
wrote_none indices k there = absurd (true≢false (sym there))

-- if an edit announces one write, that is at its index
wrote_one : (i at : ℕ) (x : ℤ) → i ≡ at → (k : ℕ) → are_at k (writes_of (Some (i, x)) None) ≡ true → Contains (at ∷ []) k
wrote_one i at x is k there = (0, lit≤ tt, sym is ∙ eqb-true i k there)

-- the one or two writes that a swap announces are at its indices
wrote_both : (i j k : ℕ) (x y : ℤ) (one : Bool) → are_at k (writes_of (Some (i, y)) (if one then None else Some (j, x))) ≡ true → Contains (i ∷ j ∷ []) k
wrote_both i j k x y true there = (0, lit≤ tt, eqb-true i k there)
wrote_both i j k x y false there =
    elim (or_cases (nat_eq j k) (nat_eq i k) there) [
      | inl second ↦ (1, lit≤ tt, eqb-true j k second)
      | inr first ↦ (0, lit≤ tt, eqb-true i k first)
    ]

-- an edit that is announced to a store that reads alike, with the cells open that it asks for, is held
HoldsReplay-announced : (s m : StoreState) (journal : List Edit) (e : Edit) (ys : List ℤ) (n : ℕ) (first second : Option (ℕ × ℤ)) (size : ℕ) → HoldsReplay s journal → verdict_of s.limits journal e ≡ None → applied (elements_of s) e ≡ Some ys → CarriesElement e → Asks s e ys n → AreAlike s m → ((k : ℕ) → AreFewest n k → m.buckets ≡ max s.buckets k) → IsStore (announced m first second size) → elements_of (announced m first second size) ≡ ys
    → ((i : ℕ) → are_at i (writes_of first second) ≡ true → Contains (indices_written (list_of journal) e) i) → HoldsReplay (announced m first second size) (journal ++ e ∷ [])
HoldsReplay-announced s m journal e ys n first second size held free made carried asks alike opens sound elements wrote =
    record {
      sound = sound;
      kept = rw alike.limits (IsLegalInLimits-snoc record { limits = s.limits; journal = journal } e held.kept free carried);
      items = elements ∙ sym (list_held s journal e ys held made);
      needed = needed_held s journal e ys n m.buckets held made asks opens;
      edit = omega (arith, alike.edit, held.edit, length_push journal e);
      pending = λ i there. record { before = journal; last = e; all = refl; there = wrote i there };
    }

-- an accepted push has room within the limits
pub push_fits : (s : StoreState) (journal : List Edit) (x : ℤ) → HoldsReplay s journal → verdict_of s.limits journal (Push x) ≡ None → s.descriptor.size + 1 ≤ capacity_of s.limits.buckets
push_fits s journal x held free =
    let not_full = unrefused_push s.limits (elements_of s) x (unrefused_held s journal (Push x) held free) in
    omega (arith, not_full, length-elements s, held.sound.size, capacity_of_mono s.buckets s.limits.buckets held.sound.few)

-- and is held once it is announced
pub push_held : (s m : StoreState) (journal : List Edit) (x : ℤ) (i : ℕ) → i ≡ s.descriptor.size → HoldsReplay s journal → verdict_of s.limits journal (Push x) ≡ None → IsElement x → AreAlike s m → m.descriptor.pending ≡ None → ((k : ℕ) → AreFewest (i + 1) k → m.buckets ≡ max s.buckets k) → IsStore (announced m (Some (i, x)) None (i + 1)) → HoldsReplay (announced m (Some (i, x)) None (i + 1)) (journal ++ Push x ∷ [])
push_held s m journal x i at held free fits alike settled opens sound =
    let place : i ≡ m.descriptor.size = at ∙ sym alike.size in
    let elements : elements_of (announced m (Some (i, x)) None (i + 1)) ≡ elements_of s ++ x ∷ [] = rw place (elements-pushed m x settled) ∙ ap (λ xs. xs ++ x ∷ []) (elements_alike s m alike) in
    let long : length (elements_of s ++ x ∷ []) ≡ i + 1 = length_push (elements_of s) x ∙ ap (λ n. n + 1) (length-elements s ∙ sym at) in
    HoldsReplay-announced s m journal (Push x) (elements_of s ++ x ∷ []) (i + 1) (Some (i, x)) None (i + 1) held free refl fits record {
      no_more = omega arith;
      no_less = omega arith;
      within = omega (arith, push_fits s journal x held free);
    } alike opens sound elements (wrote_one i (length (list_of journal)) x (at ∙ size_held s journal held))

-- there is an element if a pop is accepted
pub pop_fits : (s : StoreState) (journal : List Edit) → HoldsReplay s journal → verdict_of s.limits journal Pop ≡ None → 1 ≤ s.descriptor.size
pop_fits s journal held free =
    omega (arith, unrefused_pop s.limits (elements_of s) (unrefused_held s journal Pop held free), length-elements s)

-- and it is held once one element fewer is announced
pub pop_held : (s m : StoreState) (journal : List Edit) (last : ℕ) → last ≡ s.descriptor.size - 1 → HoldsReplay s journal → verdict_of s.limits journal Pop ≡ None → AreAlike s m → m.descriptor.pending ≡ None → ((k : ℕ) → AreFewest 0 k → m.buckets ≡ max s.buckets k) → IsStore (announced m None None last) → HoldsReplay (announced m None None last) (journal ++ Pop ∷ [])
pop_held s m journal last at held free alike settled opens sound =
    let size = length-elements s in
    let last_is : last ≡ length (elements_of s) - 1 = at ∙ ap (λ n. n - 1) (sym size) in
    let elements : elements_of (announced m None None last) ≡ take (length (elements_of s) - 1) (elements_of s) = elements-popped m last settled (omega (arith, alike.size)) ∙ ap (take last) (elements_alike s m alike) ∙ ap (λ n. take n (elements_of s)) last_is in
    HoldsReplay-announced s m journal Pop (take (length (elements_of s) - 1) (elements_of s)) 0 None None last held free (applied_pop (elements_of s) (omega (arith, pop_fits s journal held free))) tt record {
      no_more = omega arith;
      no_less = omega (arith, length-take (length (elements_of s) - 1) (elements_of s), held.sound.size);
      within = omega arith;
    } alike opens sound elements (wrote_none [])

-- the index of an accepted write is that of an element
pub write_fits : (s : StoreState) (journal : List Edit) (i : ℕ) (x : ℤ) → HoldsReplay s journal → verdict_of s.limits journal (Write i x) ≡ None → i < s.descriptor.size
write_fits s journal i x held free =
    omega (arith, unrefused_write s.limits (elements_of s) i x (unrefused_held s journal (Write i x) held free), length-elements s)

-- and it is held once it is announced
pub write_held : (s m : StoreState) (journal : List Edit) (i : ℕ) (x : ℤ) (size : ℕ) → size ≡ m.descriptor.size → HoldsReplay s journal → verdict_of s.limits journal (Write i x) ≡ None → IsElement x → AreAlike s m → m.descriptor.pending ≡ None → ((k : ℕ) → AreFewest 0 k → m.buckets ≡ max s.buckets k) → IsStore (announced m (Some (i, x)) None size) → HoldsReplay (announced m (Some (i, x)) None size) (journal ++ Write i x ∷ [])
write_held s m journal i x size at held free fits alike settled opens sound =
    let inside = write_fits s journal i x held free in
    let elements : elements_of (announced m (Some (i, x)) None size) ≡ slice_set (elements_of s) i x = rw at (elements-written m i x settled (omega (arith, alike.size))) ∙ ap (λ xs. slice_set xs i x) (elements_alike s m alike) in
    HoldsReplay-announced s m journal (Write i x) (slice_set (elements_of s) i x) 0 (Some (i, x)) None size held free (applied_write (elements_of s) i x (omega (arith, length-elements s))) fits record {
      no_more = omega arith;
      no_less = omega (arith, length-set (elements_of s) i x, length-elements s, held.sound.size);
      within = omega arith;
    } alike opens sound elements (wrote_one i i x refl)

-- an accepted reserve asks for no more than the limits allow
pub reserve_fits : (s : StoreState) (journal : List Edit) (n : ℕ) → HoldsReplay s journal → verdict_of s.limits journal (Reserve n) ≡ None → n ≤ capacity_of s.limits.buckets
reserve_fits s journal n held free =
    unrefused_reserve s.limits (elements_of s) n (unrefused_held s journal (Reserve n) held free)

-- and it is held once its number is announced
pub reserve_held : (s m : StoreState) (journal : List Edit) (n size : ℕ) → size ≡ m.descriptor.size → HoldsReplay s journal → verdict_of s.limits journal (Reserve n) ≡ None → AreAlike s m → m.descriptor.pending ≡ None → ((k : ℕ) → AreFewest n k → m.buckets ≡ max s.buckets k) → IsStore (announced m None None size) → HoldsReplay (announced m None None size) (journal ++ Reserve n ∷ [])
reserve_held s m journal n size at held free alike settled opens sound =
    let elements : elements_of (announced m None None size) ≡ elements_of s = rw at (elements-unwritten m settled) ∙ elements_alike s m alike in
    HoldsReplay-announced s m journal (Reserve n) (elements_of s) n None None size held free refl tt record {
      no_more = omega arith;
      no_less = omega (arith, length-elements s, held.sound.size);
      within = reserve_fits s journal n held free;
    } alike opens sound elements (wrote_none [])

-- the indices of an accepted swap are those of elements
pub swap_fits : (s : StoreState) (journal : List Edit) (i j : ℕ) → HoldsReplay s journal → verdict_of s.limits journal (Swap i j) ≡ None → (i < s.descriptor.size) × (j < s.descriptor.size)
swap_fits s journal i j held free =
    let both = unrefused_swap s.limits (elements_of s) i j (unrefused_held s journal (Swap i j) held free) in
    (omega (arith, both.0, length-elements s), omega (arith, both.1, length-elements s))

-- the second of its writes, if it has two, is at another index than the first
pub second_apart : (i j cells : ℕ) (x y : ℤ) → j < cells → IfSome (write_at_second i j x) (λ write. (write.0 < cells) × IsSomeAnd {T = ℕ × ℤ} (Some (i, y)) (λ other. write.0 ≢ other.0))
second_apart i j cells x y inside = by_test (nat_eq i j) (λ other same. eqb-false i j other (sym same))
  where
    by_test : (one : Bool) → (one ≡ false → j ≢ i) → IfSome (if one then None else Some (j, x)) (λ (write : ℕ × ℤ). (write.0 < cells) × (write.0 ≢ i))
    by_test true apart = tt
    by_test false apart = (inside, apart refl)

-- a swap announces one write if its indices are equal, and otherwise two
elements-both : (s : StoreState) (i j : ℕ) (x y : ℤ) → s.descriptor.pending ≡ None → i < s.descriptor.size → j < s.descriptor.size → x ≡ value_in s i → y ≡ value_in s j
    → elements_of (announced s (Some (i, y)) (write_at_second i j x) s.descriptor.size) ≡ slice_set (slice_set (elements_of s) i y) j x
elements-both s i j x y none first second before after =
    elim (cases_Bool (nat_eq i j)) [
      | inl same ↦
          let one : i ≡ j = eqb-true i j same in
          let alike : y ≡ x = after ∙ ap (value_in s) (sym one) ∙ sym before in
          ap (λ w. elements_of (announced s (Some (i, y)) w s.descriptor.size)) (cond-true _ _ _ same)
          ∙ elements-written s i y none first
          ∙ sym (set-set (elements_of s) i y y)
          ∙ ap (λ k. slice_set (slice_set (elements_of s) i y) k y) one
          ∙ ap (slice_set (slice_set (elements_of s) i y) j) alike
      | inr other ↦
          ap (λ w. elements_of (announced s (Some (i, y)) w s.descriptor.size)) (cond-false _ _ _ other)
          ∙ elements-rewritten s i j y x none first second
    ]

-- so it exchanges the two elements
elements-swapped : (s : StoreState) (i j : ℕ) (x y : ℤ) → s.descriptor.pending ≡ None → i < s.descriptor.size → j < s.descriptor.size → x ≡ value_in s i → y ≡ value_in s j → elements_of (announced s (Some (i, y)) (write_at_second i j x) s.descriptor.size) ≡ swap (elements_of s) i j
elements-swapped s i j x y none first second before after =
    let xs = elements_of s in
    elements-both s i j x y none first second before after
    ∙ ap (λ z. slice_set (slice_set xs i z) j x) (after ∙ sym (get_or-elements s j (pos 0) second))
    ∙ ap (slice_set (slice_set xs i (get_or xs j (pos 0))) j) (before ∙ sym (get_or-elements s i (pos 0) first))
    ∙ swap_is xs i j (pos 0) (omega (arith, length-elements s)) (omega (arith, length-elements s))

-- and it is held once that is announced
pub swap_held : (s m : StoreState) (journal : List Edit) (i j : ℕ) (x y : ℤ) (size : ℕ) → size ≡ m.descriptor.size → x ≡ value_in s i → y ≡ value_in s j → HoldsReplay s journal → verdict_of s.limits journal (Swap i j) ≡ None → AreAlike s m → m.descriptor.pending ≡ None
    → ((k : ℕ) → AreFewest 0 k → m.buckets ≡ max s.buckets k) → IsStore (announced m (Some (i, y)) (write_at_second i j x) size) → HoldsReplay (announced m (Some (i, y)) (write_at_second i j x) size) (journal ++ Swap i j ∷ [])
swap_held s m journal i j x y size at before after held free alike settled opens sound =
    let inside = swap_fits s journal i j held free in
    let same = elements_alike s m alike in
    let swapped = elements-swapped m i j x y settled (omega (arith, inside.0, alike.size)) (omega (arith, inside.1, alike.size)) (before ∙ sym (alike.values i)) (after ∙ sym (alike.values j)) in
    let elements : elements_of (announced m (Some (i, y)) (write_at_second i j x) size) ≡ swap (elements_of s) i j = rw at swapped ∙ ap (λ xs. swap xs i j) same in
    HoldsReplay-announced s m journal (Swap i j) (swap (elements_of s) i j) 0 (Some (i, y)) (write_at_second i j x) size held free (applied_swap (elements_of s) i j (omega (arith, inside.0, length-elements s)) (omega (arith, inside.1, length-elements s))) tt record {
      no_more = omega arith;
      no_less = omega (arith, length-swap (elements_of s) i j, length-elements s, held.sound.size);
      within = omega arith;
    } alike opens sound elements (λ k there. wrote_both i j k x y (nat_eq i j) there)

-- an accepted truncate keeps no more elements than there are
pub truncate_fits : (s : StoreState) (journal : List Edit) (n : ℕ) → HoldsReplay s journal → verdict_of s.limits journal (Truncate n) ≡ None → n ≤ s.descriptor.size
truncate_fits s journal n held free =
    omega (arith, unrefused_truncate s.limits (elements_of s) n (unrefused_held s journal (Truncate n) held free), length-elements s)

-- and it is held once that size is announced
pub truncate_held : (s m : StoreState) (journal : List Edit) (n : ℕ) → HoldsReplay s journal → verdict_of s.limits journal (Truncate n) ≡ None → AreAlike s m → m.descriptor.pending ≡ None → ((k : ℕ) → AreFewest 0 k → m.buckets ≡ max s.buckets k) → IsStore (announced m None None n) → HoldsReplay (announced m None None n) (journal ++ Truncate n ∷ [])
truncate_held s m journal n held free alike settled opens sound =
    let within = truncate_fits s journal n held free in
    let elements : elements_of (announced m None None n) ≡ take n (elements_of s) = elements-popped m n settled (omega (arith, alike.size)) ∙ ap (take n) (elements_alike s m alike) in
    HoldsReplay-announced s m journal (Truncate n) (take n (elements_of s)) 0 None None n held free (applied_truncate (elements_of s) n (omega (arith, length-elements s))) tt record {
      no_more = omega arith;
      no_less = omega (arith, length-take n (elements_of s), length-elements s, held.sound.size);
      within = omega arith;
    } alike opens sound elements (wrote_none [])
