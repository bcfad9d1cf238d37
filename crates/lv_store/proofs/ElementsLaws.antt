-- The elements of a store as a list: what is at an index of it, and what each change of the store makes of it.
use Rattle.std.proofs.Common.{◌≡◌, ◌*◌, ℕ, ℤ, pos, ◌+◌, ◌-◌, ◌<◌, ◌≤◌, if◌then◌else◌, Some, None, Option, false, [], ◌∷◌, ◌++◌, length, map, take, drop, slice_range, get_or, set, nat_eq, refl, sym, ap, ◌∙◌, arith}
use Rattle.std.specs.List.{range_with_len}
use Rattle.std.proofs.lemmas.Bool.{cond-false, cond-true, eq-eqb, ne_eqb, or_parts}
use Rattle.std.proofs.lemmas.List.{ext_get_or, get_or-take, length-take-le}
use Rattle.std.proofs.lemmas.List.FromFn.{get_or-map-range_with_len, length-map-range_with_len, map-range_with_len_more}
use Rattle.lv_store.specs.Inner.{IsStore}
use Rattle.lv_store.specs.declared.descriptors.Writes.{Writes}
use Rattle.lv_store.specs.State.{AreAlike, Opens, StoreState, announced, are_at, completed, elements_of, indices_of, is_at, settled, value_in, written, written_by}
use Rattle.lv_store.proofs.Blocks.{part_is, put_among, same_at}
use Rattle.lv_store.proofs.ShowsLaws.{value_in-completed, value_in-opens}

-- there are as many as the size says
pub length-elements : (s : StoreState) → length (elements_of s) ≡ s.descriptor.size
length-elements s = length-map-range_with_len (value_in s) 0 s.descriptor.size

-- the element at an index below the size
pub get_or-elements : (s : StoreState) (i : ℕ) (d : ℤ) → i < s.descriptor.size → get_or (elements_of s) i d ≡ value_in s i
get_or-elements s i d inside = get_or-map-range_with_len (value_in s) 0 s.descriptor.size i i d inside (omega arith)

-- the elements of neighbours that are below the size
part_of_elements : (s : StoreState) (from n : ℕ) → from + n ≤ s.descriptor.size → map (value_in s) (range_with_len from n) ≡ take n (drop from (elements_of s))
part_of_elements s from n inside =
    sym (part_is (elements_of s) from n (pos 0) (omega (arith, length-elements s)) ∙ same_at (λ i. get_or (elements_of s) i (pos 0)) (value_in s) from n (pos 0) (λ i low below. get_or-elements s i (pos 0) (omega arith)))

-- those of a block
pub block_of_elements : (s : StoreState) (block : ℕ) → 8 * block + 8 ≤ s.descriptor.size → map (value_in s) (indices_of block) ≡ take 8 (drop (8 * block) (elements_of s))
block_of_elements s block inside = part_of_elements s (8 * block) 8 inside

-- the elements at `n` indices from `from` on are those of the range with these two ends
pub range_of_elements : (s : StoreState) (from n : ℕ) → from + n ≤ s.descriptor.size → map (value_in s) (range_with_len from n) ≡ slice_range (elements_of s) from (from + n)
range_of_elements s from n inside =
    let count : n ≡ from + n - from = omega arith in
    part_of_elements s from n inside ∙ ap (λ k. take k (drop from (elements_of s))) count

-- stores that read alike have the same elements
pub elements_alike : (s t : StoreState) → AreAlike s t → elements_of t ≡ elements_of s
elements_alike s t alike =
    ap (λ n. map (value_in t) (range_with_len 0 n)) alike.size ∙ same_at (value_in t) (value_in s) 0 s.descriptor.size (pos 0) (λ i from below. alike.values i)

-- writes that are completed leave all alike, and no bucket more open
completed_alike : (s : StoreState) (writes : Option Writes) → s.descriptor.pending ≡ writes → IsStore s → AreAlike s (completed s writes) × ((completed s writes).buckets ≡ s.buckets) × ((completed s writes).descriptor.pending ≡ None)
completed_alike s None is sound = (record { limits = refl; edit = refl; size = refl; values = λ i. refl }, refl, is)
completed_alike s (Some w) is sound = (record { limits = refl; edit = refl; size = refl; values = value_in-completed s (Some w) is sound }, refl, refl)

-- a settled store reads the same, has as many buckets, and has nothing pending
pub settled_alike : (s : StoreState) → IsStore s → AreAlike s (settled s) × ((settled s).buckets ≡ s.buckets) × ((settled s).descriptor.pending ≡ None)
settled_alike s sound = completed_alike s s.descriptor.pending refl sound

-- buckets that are opened leave all alike
pub opens_alike : (s t : StoreState) (cells : ℕ) → Opens s t cells → AreAlike s t
opens_alike s t cells h = record {
  limits = h.limits;
  edit = ap (λ d. d.edit) h.descriptor;
  size = ap (λ d. d.size) h.descriptor;
  values = value_in-opens s t cells h;
}

-- a store reads as it does
pub alike_to_itself : (s : StoreState) → AreAlike s s
alike_to_itself s = record { limits = refl; edit = refl; size = refl; values = λ i. refl }

-- what is alike to one of two that are alike is so to the other
pub alike_through : (s t u : StoreState) → AreAlike s t → AreAlike t u → AreAlike s u
alike_through s t u first second = record {
  limits = second.limits ∙ first.limits;
  edit = second.edit ∙ first.edit;
  size = second.size ∙ first.size;
  values = λ i. second.values i ∙ first.values i;
}

-- nothing pending is read in the cells
unpending : (s : StoreState) (i : ℕ) → s.descriptor.pending ≡ None → value_in s i ≡ get_or s.values i (pos 0)
unpending s i none = ap (λ p. written_by p i (get_or s.values i (pos 0))) none

-- an element that is announced at the size is one more at the end
pub elements-pushed : (s : StoreState) (x : ℤ) → s.descriptor.pending ≡ None → elements_of (announced s (Some (s.descriptor.size, x)) None (s.descriptor.size + 1)) ≡ elements_of s ++ x ∷ []
elements-pushed s x none =
    let n = s.descriptor.size in
    let f = value_in (announced s (Some (n, x)) None (n + 1)) in
    map-range_with_len_more f 0 n n (omega arith)
    ∙ ap (λ xs. xs ++ f n ∷ []) (same_at f (value_in s) 0 n (pos 0) (λ i from below. cond-false _ _ _ (ne_eqb n i (λ same. absurd (omega arith))) ∙ sym (unpending s i none)))
    ∙ ap (λ y. elements_of s ++ y ∷ []) (cond-true _ _ _ (eq-eqb n n refl))

-- no write, and one element fewer, is all but the last
pub elements-popped : (s : StoreState) (n : ℕ) → s.descriptor.pending ≡ None → n ≤ s.descriptor.size → elements_of (announced s None None n) ≡ take n (elements_of s)
elements-popped s n none fewer =
    let t = announced s None None n in
    let long : length (take n (elements_of s)) ≡ n = length-take-le n (elements_of s) (omega (arith, length-elements s)) in
    ext_get_or (pos 0) _ _ (length-elements t ∙ sym long) (λ i below.
    let inside : i < n = omega (arith, length-elements t) in
    get_or-elements t i (pos 0) inside ∙ sym (get_or-take n (elements_of s) i (pos 0) inside ∙ get_or-elements s i (pos 0) (omega arith) ∙ unpending s i none))

-- an element that is announced below the size is set there
pub elements-written : (s : StoreState) (i : ℕ) (x : ℤ) → s.descriptor.pending ≡ None → i < s.descriptor.size → elements_of (announced s (Some (i, x)) None s.descriptor.size) ≡ set (elements_of s) i x
elements-written s i x none inside =
    let n = s.descriptor.size in
    sym (
    put_among (value_in s) 0 n i i x (pos 0) inside (omega arith)
    ∙ same_at (λ k. if nat_eq i k then x else value_in s k) (value_in (announced s (Some (i, x)) None n)) 0 n (pos 0) (λ k from below. ap (λ y. if nat_eq i k then x else y) (unpending s k none)))

-- two elements that are announced below the size are set there
pub elements-rewritten : (s : StoreState) (i j : ℕ) (x y : ℤ) → s.descriptor.pending ≡ None → i < s.descriptor.size → j < s.descriptor.size → elements_of (announced s (Some (i, x)) (Some (j, y)) s.descriptor.size) ≡ set (set (elements_of s) i x) j y
elements-rewritten s i j x y none first second =
    let n = s.descriptor.size in
    sym (
    ap (λ xs. set xs j y) (sym (elements-written s i x none first))
    ∙ put_among (value_in (announced s (Some (i, x)) None n)) 0 n j j y (pos 0) second (omega arith))

-- no write, and the same size, leaves the elements
pub elements-unwritten : (s : StoreState) → s.descriptor.pending ≡ None → elements_of (announced s None None s.descriptor.size) ≡ elements_of s
elements-unwritten s none = same_at _ (value_in s) 0 s.descriptor.size (pos 0) (λ i from below. sym (unpending s i none))

-- a write that is not at an index leaves what is there
unwritten_once : (write : Option (ℕ × ℤ)) (i : ℕ) (x : ℤ) → is_at i write ≡ false → written write i x ≡ x
unwritten_once None i x free = refl
unwritten_once (Some w) i x free = cond-false (nat_eq w.0 i) w.1 x free

-- an edit's writes, if it has any, leave the element at an index if none of them is at that index
unwritten_at : (writes : Option Writes) (i : ℕ) (x : ℤ) → are_at i writes ≡ false → written_by writes i x ≡ x
unwritten_at None i x free = refl
unwritten_at (Some w) i x free =
    let parts = or_parts (is_at i w.second) (is_at i (Some w.first)) free in
    unwritten_once w.second i (written (Some w.first) i x) parts.0 ∙ unwritten_once (Some w.first) i x parts.1

-- contiguous cells have the elements at their indices, if no write is pending at any of them
pub free_of_writes : (s : StoreState) (from n : ℕ) → from + n ≤ length s.values → ((i : ℕ) → from ≤ i → i < from + n → are_at i s.descriptor.pending ≡ false) → take n (drop from s.values) ≡ map (value_in s) (range_with_len from n)
free_of_writes s from n inside free =
    part_is s.values from n (pos 0) inside
    ∙ same_at (λ i. get_or s.values i (pos 0)) (value_in s) from n (pos 0) (λ i low below. sym (unwritten_at s.descriptor.pending i (get_or s.values i (pos 0)) (free i low below)))
