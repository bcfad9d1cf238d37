-- What a series keeps of the elements in memory, and what each edit of these does to it.
use Rattle.std.proofs.Common.{◌≡◌, ℕ, ℤ, pos, ◌+◌, ◌-◌, ◌*◌, ◌<◌, ◌≤◌, true, List, [], ◌∷◌, ◌++◌, length, take, drop, slice_index_or, slice_range, slice_set, nat_le, nat_lt, sym, ap, ◌∙◌, arith, length-drop}
use Rattle.std.specs.List.{swap}
use Rattle.std.proofs.lemmas.Bool.{and_parts, leb-true, ltb-true}
use Rattle.std.proofs.lemmas.List.{drop-append-le, drop-drop, drop-set-add, drop-take, get_or-drop, length-take-le, take-take}
use Rattle.std.proofs.lemmas.List.Edits.{swap_is}
use Rattle.lv_series.specs.declared.edits.LongEdit.TheVariants.{Push, Pop, Write, Expire, Swap, Truncate}
use Rattle.lv_series.specs.Blocks.{IsWindow}
use Rattle.lv_series.specs.Series.{Held, changed, element_of, held_in, is_border, is_kept, size_of, slice_of}

-- an index that is kept is between the first and the size
pub kept_inside : (h : Held) (i : ℕ) → is_kept h i ≡ true → (h.first ≤ i) × (i < size_of h)
kept_inside h i kept =
    let parts = and_parts (nat_le h.first i) (nat_lt i (size_of h)) kept in
    (leb-true h.first i parts.0, ltb-true i (size_of h) parts.1)

pub border_inside : (h : Held) (i : ℕ) → is_border h i ≡ true → (h.first ≤ i) × (i ≤ size_of h)
border_inside h i border =
    let parts = and_parts (nat_le h.first i) (nat_le i (size_of h)) border in
    (leb-true h.first i parts.0, leb-true i (size_of h) parts.1)

-- a range has as many elements as indices
pub slice_long : (h : Held) (lo hi : ℕ) → lo ≤ hi → h.first ≤ lo → hi ≤ size_of h → length (slice_of h lo hi) ≡ hi - lo
slice_long h lo hi order low high = length-take-le (hi - h.first - (lo - h.first)) (drop (lo - h.first) h.elements) (omega (arith, length-drop (lo - h.first) h.elements)) ∙ omega arith

-- its first elements
pub slice_start : (h : Held) (lo hi count : ℕ) → h.first ≤ lo → lo + count ≤ hi → take count (slice_of h lo hi) ≡ slice_of h lo (lo + count)
slice_start h lo hi count low few =
    let wide : lo + count - h.first - (lo - h.first) ≡ count = omega arith in
    take-take count (hi - h.first - (lo - h.first)) (drop (lo - h.first) h.elements) (omega arith) ∙ ap (λ n. take n (drop (lo - h.first) h.elements)) (sym wide)

-- two elements exchanged in a list, without its first elements
swap_dropped : (skip : ℕ) (xs : List ℤ) (i j : ℕ) → skip + i < length xs → skip + j < length xs → drop skip (swap xs (skip + i) (skip + j)) ≡ swap (drop skip xs) i j
swap_dropped skip xs i j first second =
    let a = slice_index_or xs (skip + i) (pos 0) in
    let b = slice_index_or xs (skip + j) (pos 0) in
    let left = length-drop skip xs in
    ap (drop skip) (sym (swap_is xs (skip + i) (skip + j) (pos 0) first second))
    ∙ drop-set-add skip (slice_set xs (skip + i) b) j a
    ∙ ap (λ zs. slice_set zs j a) (drop-set-add skip xs i b)
    ∙ ap (λ x. slice_set (slice_set (drop skip xs) i x) j a) (sym (get_or-drop skip xs j (pos 0)))
    ∙ ap (λ x. slice_set (slice_set (drop skip xs) i (slice_index_or (drop skip xs) j (pos 0))) j x) (sym (get_or-drop skip xs i (pos 0)))
    ∙ swap_is (drop skip xs) i j (pos 0) (omega (arith, first, left)) (omega (arith, second, left))

module _ (base first : ℕ) (els : List ℤ) (window : IsWindow base first els) where
  -- the index behind the last element
  pub size_in : size_of (held_in base first els) ≡ 8 * base + length els
  size_in = omega (arith, length-drop (first - 8 * base) els, window.low, window.high)

  -- an element
  pub element_in : (i : ℕ) → first ≤ i → slice_index_or els (i - 8 * base) (pos 0) ≡ element_of (held_in base first els) i
  element_in i low =
      let place : i - 8 * base ≡ first - 8 * base + (i - first) = omega (arith, window.low) in
      ap (λ n. slice_index_or els n (pos 0)) place ∙ sym (get_or-drop (first - 8 * base) els (i - first) (pos 0))

  -- a range
  pub range_in : (lo hi : ℕ) → first ≤ lo → lo ≤ hi → slice_range els (lo - 8 * base) (hi - 8 * base) ≡ slice_of (held_in base first els) lo hi
  range_in lo hi low order =
      let place : lo - 8 * base ≡ first - 8 * base + (lo - first) = omega (arith, window.low) in
      let wide : hi - 8 * base - (lo - 8 * base) ≡ hi - first - (lo - first) = omega (arith, window.low) in
      ap (λ n. take n (drop (lo - 8 * base) els)) wide
      ∙ ap (λ n. take (hi - first - (lo - first)) (drop n els)) place
      ∙ ap (take (hi - first - (lo - first))) (sym (drop-drop (lo - first) (first - 8 * base) els))

  -- more elements at the end
  pub more_in : (xs : List ℤ) → held_in base first (els ++ xs) ≡ record { first = first; elements = drop (first - 8 * base) els ++ xs }
  more_in xs = ap (λ ys. record { first = first; elements = ys }) (drop-append-le (first - 8 * base) els xs (omega (arith, window.high)))

  -- an element more
  pub push_in : (x : ℤ) → held_in base first (els ++ x ∷ []) ≡ changed (held_in base first els) (Push x)
  push_in x = more_in (x ∷ [])

  -- the first so many
  pub truncate_in : (n : ℕ) → first ≤ n → held_in base first (take (n - 8 * base) els) ≡ changed (held_in base first els) (Truncate n)
  truncate_in n low =
      let count : n - 8 * base ≡ first - 8 * base + (n - first) = omega (arith, window.low) in
      ap (λ ys. record { first = first; elements = ys }) (ap (λ k. drop (first - 8 * base) (take k els)) count ∙ drop-take (first - 8 * base) (n - first) els)

  -- all but the last
  pub pop_in : first < 8 * base + length els → held_in base first (take (length els - 1) els) ≡ changed (held_in base first els) Pop
  pop_in some =
      let count : length els - 1 ≡ first - 8 * base + (length (drop (first - 8 * base) els) - 1) = omega (arith, length-drop (first - 8 * base) els, window.low) in
      ap (λ ys. record { first = first; elements = ys }) (ap (λ k. drop (first - 8 * base) (take k els)) count ∙ drop-take (first - 8 * base) (length (drop (first - 8 * base) els) - 1) els)

  -- an element written
  pub write_in : (i : ℕ) (x : ℤ) → first ≤ i → held_in base first (slice_set els (i - 8 * base) x) ≡ changed (held_in base first els) (Write i x)
  write_in i x low =
      let place : i - 8 * base ≡ first - 8 * base + (i - first) = omega (arith, window.low) in
      ap (λ ys. record { first = first; elements = ys }) (ap (λ k. drop (first - 8 * base) (slice_set els k x)) place ∙ drop-set-add (first - 8 * base) els (i - first) x)

  -- two elements exchanged
  pub swap_in : (i j : ℕ) → first ≤ i → i < 8 * base + length els → first ≤ j → j < 8 * base + length els → held_in base first (swap els (i - 8 * base) (j - 8 * base)) ≡ changed (held_in base first els) (Swap i j)
  swap_in i j low within other inside_too =
      let place : i - 8 * base ≡ first - 8 * base + (i - first) = omega (arith, window.low) in
      let second : j - 8 * base ≡ first - 8 * base + (j - first) = omega (arith, window.low) in
      ap (λ ys. record { first = first; elements = ys })
      (ap (λ k. drop (first - 8 * base) (swap els k (j - 8 * base))) place ∙ ap (λ k. drop (first - 8 * base) (swap els (first - 8 * base + (i - first)) k)) second
      ∙ swap_dropped (first - 8 * base) els (i - first) (j - first) (omega (arith, window.low)) (omega (arith, window.low)))

  -- elements expired, where another block is first in memory now
  pub expire_in : (next i : ℕ) (ys : List ℤ) → first ≤ i → drop (i - 8 * next) ys ≡ drop (i - 8 * base) els → held_in next i ys ≡ changed (held_in base first els) (Expire i)
  expire_in next i ys low is =
      let count : i - 8 * base ≡ first - 8 * base + (i - first) = omega (arith, window.low) in
      ap (λ zs. record { first = i; elements = zs }) (is ∙ ap (λ n. drop n els) count ∙ sym (drop-drop (i - first) (first - 8 * base) els))
