-- What a store shows: as long as no index reads otherwise, and after one more edit.
use Rattle.std.proofs.Common.{◌≡◌, ℕ, ℤ, pos, ◌+◌, ◌-◌, ◌/◌, ◌<◌, ◌≤◌, Bool, true, false, ◌||◌, if◌then◌else◌, Option, Some, None, List, [], ◌∷◌, ◌++◌, length, replicate, get_or, set, slice_get, nat_eq, refl, sym, ap, ◌∙◌, inl, inr, arith}
use Rattle.std.specs.Prelude.{All, IfSome}
use Rattle.std.proofs.lemmas.Bool.{cases_eq, cases_lt, cond-false, cond-true, eq-eqb, ne_eqb}
use Rattle.std.proofs.lemmas.List.{get_or-append_right, get_or-replicate, get_or-set_other, get_or-set_same, get_or_append_left, get_or_past, get_or_push, length_push, length-replicate, length-set}
use Rattle.std.proofs.lemmas.List.Elements.{All-set, All-weaker}
use Rattle.std.proofs.lemmas.List.Sums.{fold_push}
use Rattle.std.proofs.lemmas.Option.{IfSome_then, slice_get-get_or}
use Rattle.lv_geometry.specs.Cells.{capacity_of}
use Rattle.lv_geometry.specs.Elements.{IsElement}
use Rattle.lv_store.specs.Announced.{Announcements, Shows, last_value, last_version, writes_at}
use Rattle.lv_store.specs.Inner.{IsStore}
use Rattle.lv_store.specs.declared.descriptors.Writes.{Writes}
use Rattle.lv_store.specs.State.{Opens, StoreState, announced, are_in, block_version, blocks_of, completed, empty_store, is_in, value_in, with_element, with_version, writes_of, written, written_by}
use Rattle.lv_geometry.specs.Bounds.{Bounds}
use Rattle.lv_geometry.proofs.Ranges.{last_pass, last_pass-next, last_pass_same}

-- an index whose cell is open is in a block that is open
block_open : (i buckets : ℕ) → i < capacity_of buckets → i / 8 < blocks_of buckets
block_open i buckets inside = omega arith

-- two states that read alike at each index and in each block, after as many edits, show the same announcements
pub Shows-same : (old new : StoreState) → new.descriptor.edit ≡ old.descriptor.edit → ((i : ℕ) → value_in new i ≡ value_in old i) → ((block : ℕ) → block_version new block ≡ block_version old block) → (all : Announcements) → Shows old all → Shows new all
Shows-same old new edits values versions all h =
    record {
      edit = edits ∙ h.edit;
      values = λ i. values i ∙ h.values i;
      versions = λ block. versions block ∙ h.versions block;
    }

-- copies of what is read past their end read alike everywhere
get_or_copies : {T : Type 0} (n k : ℕ) (x : T) → get_or (replicate n x) k x ≡ x
get_or_copies n k x =
    elim (cases_lt k n) [
      | inl inside ↦ get_or-replicate n k x x inside
      | inr past ↦ get_or_past (replicate n x) k x (omega (arith, length-replicate n x))
    ]

-- a list that is made longer by what is read past its end reads as before
pub get_or-longer : {T : Type 0} (xs : List T) (n : ℕ) (x : T) (k : ℕ) → get_or (xs ++ replicate n x) k x ≡ get_or xs k x
get_or-longer xs n x k =
    elim (cases_lt k (length xs)) [
      | inl inside ↦ get_or_append_left xs (replicate n x) x k inside
      | inr past ↦ get_or-append_right xs (replicate n x) (length xs) k x refl past ∙ get_or_copies n (k - length xs) x ∙ sym (get_or_past xs k x past)
    ]

-- open buckets change no element
pub value_in-opens : (old new : StoreState) (cells : ℕ) → Opens old new cells → (i : ℕ) → value_in new i ≡ value_in old i
value_in-opens old new cells h i =
    ap (λ d. written_by d.pending i (get_or new.values i (pos 0))) h.descriptor ∙ ap (written_by old.descriptor.pending i) (ap (λ xs. get_or xs i (pos 0)) h.values ∙ get_or-longer old.values _ (pos 0) i)

-- and no answer
pub Shows-opens : (old new : StoreState) (cells : ℕ) → Opens old new cells → (all : Announcements) → Shows old all → Shows new all
Shows-opens old new cells h =
    Shows-same old new (ap (λ d. d.edit) h.descriptor) (value_in-opens old new cells h)
    (λ block. ap (λ d. if are_in block d.pending then d.edit else get_or new.versions block 0) h.descriptor ∙ ap (λ n. if are_in block old.descriptor.pending then old.descriptor.edit else n) (ap (λ xs. get_or xs block 0) h.versions ∙ get_or-longer old.versions _ 0 block))

-- an element that is put into a list is read there, and the others elsewhere
get_or-put : {T : Type 0} (xs : List T) (j : ℕ) (x d : T) (i : ℕ) → j < length xs → get_or (set xs j x) i d ≡ if nat_eq j i then x else get_or xs i d
get_or-put xs j x d i inside =
    elim (cases_eq i j) [
      | inl same ↦ rw same (get_or-set_same xs j x d inside ∙ sym (cond-true _ _ _ (eq-eqb j j refl)))
      | inr other ↦ get_or-set_other xs j i x d other ∙ sym (cond-false _ _ _ (ne_eqb j i (λ same. other (sym same))))
    ]

-- a write, if there is one, that is put into elements is read there, and the others elsewhere
get_or-with_element : (write : Option (ℕ × ℤ)) (xs : List ℤ) (i : ℕ) → IfSome write (λ w. w.0 < length xs) → get_or (with_element write xs) i (pos 0) ≡ written write i (get_or xs i (pos 0))
get_or-with_element None xs i inside = refl
get_or-with_element (Some w) xs i inside = get_or-put xs w.0 w.1 (pos 0) i inside

-- and its edit's number among versions
get_or-with_version : (write : Option (ℕ × ℤ)) (edit : ℕ) (xs : List ℕ) (block : ℕ) → IfSome write (λ w. w.0 / 8 < length xs) → get_or (with_version write edit xs) block 0 ≡ if is_in block write then edit else get_or xs block 0
get_or-with_version None edit xs block inside = refl
get_or-with_version (Some w) edit xs block inside = get_or-put xs (w.0 / 8) edit 0 block inside

-- one of two, put over the other
either_put : {T : Type 0} (second first : Bool) (x y : T) → (if second then x else if first then x else y) ≡ if second || first then x else y
either_put true first x y = refl
either_put false first x y = refl

-- writes that are completed change no element
pub value_in-completed : (s : StoreState) (writes : Option Writes) → s.descriptor.pending ≡ writes → IsStore s → (i : ℕ) → value_in (completed s writes) i ≡ value_in s i
value_in-completed s None is sound i = refl
value_in-completed s (Some w) is sound i =
    let inside = rw is at sound.pending in
    let first = with_element (Some w.first) s.values in
    let long = length-set s.values w.first.0 w.first.1 in
    get_or-with_element w.second first i (IfSome_then w.second inside.1 (λ v at. omega (arith, at.0.0, sound.values, long)))
    ∙ ap (written w.second i) (get_or-with_element (Some w.first) s.values i (omega (arith, inside.0.0, sound.values)))
    ∙ ap (λ p. written_by p i (get_or s.values i (pos 0))) (sym is)

-- and no version
block_version-completed : (s : StoreState) (writes : Option Writes) → s.descriptor.pending ≡ writes → IsStore s → (block : ℕ) → block_version (completed s writes) block ≡ block_version s block
block_version-completed s None is sound block = refl
block_version-completed s (Some w) is sound block =
    let inside = rw is at sound.pending in
    let edit = s.descriptor.edit in
    let first = with_version (Some w.first) edit s.versions in
    let long = length-set s.versions (w.first.0 / 8) edit in
    get_or-with_version w.second edit first block (IfSome_then w.second inside.1 (λ v at. omega (arith, block_open v.0 s.buckets at.0.0, sound.versions, long)))
    ∙ ap (λ v. if is_in block w.second then edit else v) (get_or-with_version (Some w.first) edit s.versions block (omega (arith, block_open w.first.0 s.buckets inside.0.0, sound.versions)))
    ∙ either_put (is_in block w.second) (is_in block (Some w.first)) edit (get_or s.versions block 0)
    ∙ ap (λ p. if are_in block p then edit else get_or s.versions block 0) (sym is)

-- nor the edit
edit_completed : (s : StoreState) (writes : Option Writes) → (completed s writes).descriptor.edit ≡ s.descriptor.edit
edit_completed s None = refl
edit_completed s (Some w) = refl

-- and no answer
pub Shows-completed : (s : StoreState) (writes : Option Writes) → s.descriptor.pending ≡ writes → IsStore s → (all : Announcements) → Shows s all → Shows (completed s writes) all
Shows-completed s writes is sound =
    Shows-same s (completed s writes) (edit_completed s writes) (value_in-completed s writes is sound) (block_version-completed s writes is sound)

-- a list of numbers of 64 bits stays one with such a write
elements_with : (write : Option (ℕ × ℤ)) (xs : List ℤ) → IfSome write (λ w. IsElement w.1) → All IsElement xs → (length (with_element write xs) ≡ length xs) × All IsElement (with_element write xs)
elements_with None xs fits all = (refl, all)
elements_with (Some w) xs fits all = (length-set xs w.0 w.1, All-set IsElement xs w.0 w.1 fits all)

-- and versions with one that none of them is above stay such
versions_with : (write : Option (ℕ × ℤ)) (edit : ℕ) (xs : List ℕ) → All (λ version. version ≤ edit) xs → (length (with_version write edit xs) ≡ length xs) × All (λ version. version ≤ edit) (with_version write edit xs)
versions_with None edit xs all = (refl, all)
versions_with (Some w) edit xs all =
    (length-set xs (w.0 / 8) edit, All-set (λ version. version ≤ edit) xs (w.0 / 8) edit (omega arith) all)

-- a store whose writes are completed keeps what a store keeps
pub IsStore-completed : (s : StoreState) (writes : Option Writes) → s.descriptor.pending ≡ writes → IsStore s → IsStore (completed s writes)
IsStore-completed s None is sound = sound
IsStore-completed s (Some w) is sound =
    let inside = rw is at sound.pending in
    let edit = s.descriptor.edit in
    let first = elements_with (Some w.first) s.values inside.0.1 sound.elements in
    let second = elements_with w.second (with_element (Some w.first) s.values) (IfSome_then w.second inside.1 (λ v at. at.0.1)) first.1 in
    let first_version = versions_with (Some w.first) edit s.versions sound.past in
    let second_version = versions_with w.second edit (with_version (Some w.first) edit s.versions) first_version.1 in
    record {
      allowed = sound.allowed;
      few = sound.few;
      values = second.0 ∙ first.0 ∙ sound.values;
      versions = second_version.0 ∙ first_version.0 ∙ sound.versions;
      elements = second.1;
      past = second_version.1;
      edits = sound.edits;
      size = sound.size;
      pending = tt;
    }

-- a store that announces a write of a number of 64 bits at an open cell keeps it too
pub IsStore-announced : (s : StoreState) (i : ℕ) (x : ℤ) → s.descriptor.edit < s.limits.edits → i < capacity_of s.buckets → IsElement x → IsStore s → IsStore (announced s (Some (i, x)) None s.descriptor.size)
IsStore-announced s i x left inside fits sound =
    record {
      allowed = sound.allowed;
      few = sound.few;
      values = sound.values;
      versions = sound.versions;
      elements = sound.elements;
      past = All-weaker (λ version. version ≤ s.descriptor.edit) (λ version. version ≤ s.descriptor.edit + 1) (λ version past. omega (arith, past)) s.versions sound.past;
      edits = omega (arith, left);
      size = sound.size;
      pending = ((inside, fits), tt);
    }

-- an empty store shows that nothing was announced
pub Shows-empty : (limits : Bounds) → Shows (empty_store limits) []
unfolding last_value last_version
Shows-empty limits = record {
  edit = refl;
  values = λ i. get_or_past [] i (pos 0) (omega arith);
  versions = λ block. get_or_past [] block 0 (omega arith);
}

-- the element announced last, after one more edit
last_value-snoc : (all : Announcements) (writes : Option Writes) (i : ℕ) → last_value (all ++ writes ∷ []) i ≡ written_by writes i (last_value all i)
unfolding last_value
last_value-snoc all writes i = fold_push (λ x w. written_by w i x) (pos 0) all writes

-- the edits before the last one wrote in the same blocks as without it
writes_at_before : (all : Announcements) (writes : Option Writes) (block j : ℕ) → j < length all → writes_at (all ++ writes ∷ []) block j ≡ writes_at all block j
writes_at_before all writes block j before =
    let edit : slice_get (all ++ writes ∷ []) j ≡ slice_get all j = slice_get-get_or (all ++ writes ∷ []) j writes (omega (arith, length_push all writes)) ∙ ap Some (get_or_append_left all (writes ∷ []) writes j before) ∙ sym (slice_get-get_or all j writes before) in
    rw edit refl

-- the last edit wrote in the blocks of its announced writes
writes_at_last : (all : Announcements) (writes : Option Writes) (block : ℕ) → writes_at (all ++ writes ∷ []) block (length all) ≡ are_in block writes
writes_at_last all writes block =
    let edit : slice_get (all ++ writes ∷ []) (length all) ≡ Some writes = slice_get-get_or (all ++ writes ∷ []) (length all) writes (omega (arith, length_push all writes)) ∙ ap Some (get_or_push all writes writes (length all) refl) in
    rw edit refl

-- the last edit that wrote in a block is the last place of the announcements that is in it
last_version_is : (all : Announcements) (block : ℕ) → last_version all block ≡ last_pass (writes_at all block) (length all)
unfolding last_version last_pass
last_version_is all block = refl

-- one more edit is the last that wrote in a block if one of its writes is in the block; otherwise that is the one before
last_version-snoc : (all : Announcements) (writes : Option Writes) (block : ℕ) → last_version (all ++ writes ∷ []) block ≡ if are_in block writes then length all + 1 else last_version all block
last_version-snoc all writes block =
    let before = last_pass_same (writes_at (all ++ writes ∷ []) block) (writes_at all block) (length all) (writes_at_before all writes block) in
    last_version_is (all ++ writes ∷ []) block
    ∙ ap (last_pass (writes_at (all ++ writes ∷ []) block)) (length_push all writes)
    ∙ last_pass-next (writes_at (all ++ writes ∷ []) block) (length all)
    ∙ rw (writes_at_last all writes block, before, ← last_version_is all block) refl

-- the version of a block is the next edit's number if that edit announced a write there; otherwise it stays
block_version-announced : (s : StoreState) (first second : Option (ℕ × ℤ)) (size block : ℕ) → s.descriptor.pending ≡ None → block_version (announced s first second size) block ≡ if are_in block (writes_of first second) then s.descriptor.edit + 1 else block_version s block
block_version-announced s first second size block settled =
    ap (λ n. if are_in block (writes_of first second) then s.descriptor.edit + 1 else n) (sym (ap (λ p. if are_in block p then s.descriptor.edit else get_or s.versions block 0) settled))

-- a store that announces writes, or none, shows this announcement after the earlier ones
pub Shows-announced : (s : StoreState) (first second : Option (ℕ × ℤ)) (size : ℕ) → s.descriptor.pending ≡ None → (all : Announcements) → Shows s all → Shows (announced s first second size) (all ++ writes_of first second ∷ [])
Shows-announced s first second size settled all shown =
    let writes = writes_of first second in
    let next : s.descriptor.edit + 1 ≡ length all + 1 = ap (λ n. n + 1) shown.edit in
    record {
      edit = next ∙ sym (length_push all writes);
      values = λ i. ap (written_by writes i) (sym (ap (λ p. written_by p i (get_or s.values i (pos 0))) settled) ∙ shown.values i) ∙ sym (last_value-snoc all writes i);
      versions = λ block.
          block_version-announced s first second size block settled
          ∙ ap (λ n. if are_in block writes then n else block_version s block) next
          ∙ ap (λ n. if are_in block writes then length all + 1 else n) (shown.versions block)
          ∙ sym (last_version-snoc all writes block);
    }
