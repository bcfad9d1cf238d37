-- A list that is stored in pieces, and is blank past what was written of them.
use Rattle.std.proofs.Common.{◌≡◌, ℕ, zero, suc, ◌+◌, ◌-◌, ◌*◌, ◌/◌, ◌%◌, ◌<◌, ◌≤◌, if◌then◌else◌, Some, List, [], ◌∷◌, ◌++◌, length, get_or, set, slice_get, nat_eq, refl, sym, ap, ◌∙◌, inl, inr, arith}
use Rattle.std.proofs.lemmas.Bool.{cases_eq, cases_lt, cases_order, cond-false, cond-true, eq-eqb, le-ltb, lt-ltb, ne_eqb}
use Rattle.std.proofs.lemmas.List.{get_or-append_right, get_or-drop, get_or-set_other, get_or-set_same, get_or-take, get_or_append_left, get_or_past, get_or_push, get_or_read, length-append, length-drop, length-take}
use Rattle.std.proofs.lemmas.Option.{slice_get-get_or}
use Rattle.std.specs.Prelude.{drop, slice_range}
use Rattle.lv_summary.specs.Inner.{AreEight, AreLaterEight, in_pieces, item_at, later_item, lengthened, put_late, room_in_pieces}
use Rattle.lv_summary.proofs.ByNumber.{length-by_number, read_number}
use Rattle.lv_summary.proofs.LevelLaws.{get_or-lengthened, length-lengthened}

-- how many items there are
pub length-in_pieces : {A : Type 0} (front : List A) (later : List (List A)) (blank : A) (count : ℕ) → length (in_pieces front later blank count) ≡ count
length-in_pieces front later blank count = length-by_number (item_at front later blank) count

-- the item at a number below the count is in the list
pub read_pieces : {A : Type 0} (front : List A) (later : List (List A)) (blank : A) (count k : ℕ) → k < count → slice_get (in_pieces front later blank count) k ≡ Some (item_at front later blank k)
read_pieces front later blank count k inside = read_number (item_at front later blank) count k inside

-- an item of the first piece
pub item_at-early : {A : Type 0} (front : List A) (later : List (List A)) (blank : A) (k : ℕ) → k < 512 → item_at front later blank k ≡ get_or front k blank
item_at-early front later blank k early = cond-true _ _ _ (lt-ltb k 512 early)

-- an item behind it
pub item_at-late : {A : Type 0} (front : List A) (later : List (List A)) (blank : A) (k : ℕ) → 512 ≤ k → item_at front later blank k ≡ later_item later k blank
item_at-late front later blank k late = cond-false _ _ _ (le-ltb k 512 late)

-- at a number of the first piece, no item is read of the pieces behind it
later_item-early : {A : Type 0} (later : List (List A)) (number : ℕ) (blank : A) → number < 512 → later_item later number blank ≡ blank
later_item-early later number blank early = cond-true _ _ _ (lt-ltb number 512 early)

-- the item at any other number is in its piece
pub later_item-late : {A : Type 0} (later : List (List A)) (number : ℕ) (blank : A) → 512 ≤ number → later_item later number blank ≡ get_or (get_or later (number / 512 - 1) []) (number % 512) blank
later_item-late later number blank late = cond-false _ _ _ (le-ltb number 512 late)

-- the item at a number past what was written of the first piece is what is read of those behind it
pub item_at-past : {A : Type 0} (front : List A) (later : List (List A)) (blank : A) (number : ℕ) → length front ≤ number → item_at front later blank number ≡ later_item later number blank
item_at-past front later blank number past =
    elim (cases_lt number 512) [
      | inl early ↦
          item_at-early front later blank number early ∙ get_or_past front number blank past ∙ sym (later_item-early later number blank early)
      | inr late ↦ item_at-late front later blank number late
    ]

-- eight neighbours that were written to the first piece are those of the list
pub eight_early : {A : Type 0} (front eight : List A) (later : List (List A)) (blank : A) (count first : ℕ) → length front ≤ 512 → first + 8 ≤ length front → eight ≡ slice_range front first (first + 8) → first + 8 ≤ count → AreEight eight (in_pieces front later blank count) first
eight_early front eight later blank count first short written is inside =
    let long : length (slice_range front first (first + 8)) ≡ 8 = omega (arith, length-take (first + 8 - first) (drop first front), length-drop first front) in (
      ap length is ∙ long,
      λ k small.
          ap (λ xs. slice_get xs k) is
          ∙ slice_get-get_or (slice_range front first (first + 8)) k blank (omega (arith, long))
          ∙ ap Some (
          get_or-take (first + 8 - first) (drop first front) k blank (omega arith)
          ∙ get_or-drop first front k blank
          ∙ sym (item_at-early front later blank (first + k) (omega arith))
          )
          ∙ sym (read_pieces front later blank count (first + k) (omega arith)),
    )

-- eight neighbours of a piece behind the first are eight neighbours of the list
pub eight_late : {A : Type 0} (front eight : List A) (later : List (List A)) (blank : A) (count first : ℕ) → AreLaterEight eight later first → first + 8 ≤ count → AreEight eight (in_pieces front later blank count) first
eight_late front eight later blank count first are inside = (
  are.1,
  λ k small.
      are.2 k small blank
      ∙ ap Some (sym (item_at-late front later blank (first + k) (omega (arith, are.0))))
      ∙ sym (read_pieces front later blank count (first + k) (omega arith)),
)

-- pieces to which nothing was written are blank
pub later_item-none : {A : Type 0} (later : List (List A)) → ((j : ℕ) → j < length later → get_or later j [] ≡ []) → (number : ℕ) (blank : A) → later_item later number blank ≡ blank
later_item-none later none number blank =
    elim (cases_lt number 512) [
      | inl early ↦ later_item-early later number blank early
      | inr late ↦
          later_item-late later number blank late
          ∙ ap (λ xs. get_or xs (number % 512) blank) (elim (cases_lt (number / 512 - 1) (length later)) [
            | inl inside ↦ none (number / 512 - 1) inside
            | inr past ↦ get_or_past later (number / 512 - 1) [] past
          ])
    ]

-- what is read of one piece to which nothing was written
get_or-nothing : {A : Type 0} (j : ℕ) → get_or {A = List A} ([] ∷ []) j [] ≡ []
get_or-nothing zero = refl
get_or-nothing (suc j) = refl

-- a piece that is added changes nothing
pub later_item-added : {A : Type 0} (later : List (List A)) (number : ℕ) (blank : A) → later_item (later ++ [] ∷ []) number blank ≡ later_item later number blank
later_item-added later number blank =
    elim (cases_lt number 512) [
      | inl early ↦ later_item-early (later ++ [] ∷ []) number blank early ∙ sym (later_item-early later number blank early)
      | inr late ↦
          later_item-late (later ++ [] ∷ []) number blank late
          ∙ ap (λ xs. get_or xs (number % 512) blank) (elim (cases_lt (number / 512 - 1) (length later)) [
            | inl inside ↦ get_or_append_left later ([] ∷ []) [] (number / 512 - 1) inside
            | inr past ↦
                get_or-append_right later ([] ∷ []) (length later) (number / 512 - 1) [] refl past
                ∙ get_or-nothing (number / 512 - 1 - length later)
                ∙ sym (get_or_past later (number / 512 - 1) [] past)
          ])
          ∙ sym (later_item-late later number blank late)
    ]

-- each number below the room has its piece
pub piece_there : (count capacity later number : ℕ) → count ≤ room_in_pieces capacity later → number < count → 512 ≤ number → number / 512 - 1 < later
piece_there count capacity later number fits inside late =
    elim (cases_lt capacity 512) [
      | inl low ↦
          let room : room_in_pieces capacity later ≡ capacity = cond-true _ _ _ (lt-ltb capacity 512 low) in
          absurd (omega arith)
      | inr high ↦
          let room : room_in_pieces capacity later ≡ 512 + 512 * later = cond-false _ _ _ (le-ltb capacity 512 high) in
          omega arith
    ]

-- an item that is put into the first piece
pub set_early : {A : Type 0} (front others : List A) (later : List (List A)) (blank : A) (number : ℕ) (s : A) → number < 512 → ((k : ℕ) → get_or others k blank ≡ (if nat_eq k number then s else get_or front k blank)) → (k : ℕ) → item_at others later blank k ≡ (if nat_eq k number then s else item_at front later blank k)
set_early front others later blank number s early is k =
    elim (cases_lt k 512) [
      | inl low ↦
          item_at-early others later blank k low
          ∙ is k
          ∙ ap (λ x. if nat_eq k number then s else x) (sym (item_at-early front later blank k low))
      | inr high ↦
          item_at-late others later blank k high
          ∙ sym (cond-false _ _ _ (ne_eqb k number (λ same. omega arith)) ∙ item_at-late front later blank k high)
    ]

-- what is read of a piece with another item at a place
get_or-put_late : {A : Type 0} (written : List A) (place : ℕ) (s blank : A) (k : ℕ) → get_or (put_late written place s blank) k blank ≡ (if nat_eq k place then s else get_or written k blank)
get_or-put_late written place s blank k =
    elim (cases_lt place (length written)) [
      | inl inside ↦
          ap (λ xs. get_or xs k blank) (cond-true _ _ _ (lt-ltb place (length written) inside))
          ∙ elim (cases_eq k place) [
            | inl same ↦
                ap (λ k. get_or (set written place s) k blank) same
                ∙ get_or-set_same written place s blank inside
                ∙ sym (cond-true _ _ _ (eq-eqb k place same))
            | inr other ↦ get_or-set_other written place k s blank other ∙ sym (cond-false _ _ _ (ne_eqb k place other))
          ]
      | inr past ↦
          let front = lengthened written place blank in
          let long : length front ≡ place = omega (arith, length-lengthened written place blank) in
          ap (λ xs. get_or xs k blank) (cond-false _ _ _ (le-ltb place (length written) past))
          ∙ elim (cases_order k place) [
            | inl same ↦ get_or_push front s blank k (long ∙ sym same) ∙ sym (cond-true _ _ _ (eq-eqb k place same))
            | inr (inl before) ↦
                get_or_append_left front (s ∷ []) blank k (omega (arith, long))
                ∙ get_or-lengthened written place blank k
                ∙ sym (cond-false _ _ _ (ne_eqb k place (λ same. omega arith)))
            | inr (inr behind) ↦
                get_or_past (front ++ s ∷ []) k blank (omega (arith, long, length-append front (s ∷ [])))
                ∙ sym (cond-false _ _ _ (ne_eqb k place (λ same. omega arith)) ∙ get_or_past written k blank (omega arith))
          ]
    ]

-- an item that is put into a piece behind the first is put there among those behind it
later_item-set : {A : Type 0} (later : List (List A)) (blank : A) (number : ℕ) (s : A) → 512 ≤ number → number / 512 - 1 < length later → (k : ℕ) → 512 ≤ k → later_item (set later (number / 512 - 1) (put_late (get_or later (number / 512 - 1) []) (number % 512) s blank)) k blank ≡ (if nat_eq k number then s else later_item later k blank)
later_item-set later blank number s late there k high =
    let piece = get_or later (number / 512 - 1) [] in
    let others = set later (number / 512 - 1) (put_late piece (number % 512) s blank) in
    later_item-late others k blank high
    ∙ elim (cases_eq (k / 512 - 1) (number / 512 - 1)) [
      | inl same ↦
          ap (λ j. get_or (get_or others j []) (k % 512) blank) same
          ∙ ap (λ xs. get_or xs (k % 512) blank) (get_or-set_same later (number / 512 - 1) (put_late piece (number % 512) s blank) [] there)
          ∙ get_or-put_late piece (number % 512) s blank (k % 512)
          ∙ elim (cases_eq k number) [
            | inl equal ↦
                cond-true _ _ _ (eq-eqb (k % 512) (number % 512) (ap (λ k. k % 512) equal)) ∙ sym (cond-true _ _ _ (eq-eqb k number equal))
            | inr other ↦
                cond-false _ _ _ (ne_eqb (k % 512) (number % 512) (λ alike. other (omega arith)))
                ∙ ap (λ j. get_or (get_or later j []) (k % 512) blank) (sym same)
                ∙ sym (cond-false _ _ _ (ne_eqb k number other) ∙ later_item-late later k blank high)
          ]
      | inr other ↦
          ap (λ xs. get_or xs (k % 512) blank) (get_or-set_other later (number / 512 - 1) (k / 512 - 1) (put_late piece (number % 512) s blank) [] other)
          ∙ sym (cond-false _ _ _ (ne_eqb k number (λ equal. other (ap (λ k. k / 512 - 1) equal))) ∙ later_item-late later k blank high)
    ]

-- so it is put into the list, by one piece that has changed
pub set_late : {A : Type 0} (front before after : List A) (later : List (List A)) (blank : A) (number : ℕ) (s : A) → 512 ≤ number → number / 512 - 1 < length later → before ≡ get_or later (number / 512 - 1) before → after ≡ put_late before (number % 512) s blank → (k : ℕ) → item_at front (set later (number / 512 - 1) after) blank k ≡ (if nat_eq k number then s else item_at front later blank k)
set_late front before after later blank number s late there was is k =
    let place = number / 512 - 1 in
    let put = put_late (get_or later place []) (number % 512) s blank in
    let same : after ≡ put = is ∙ ap (λ xs. put_late xs (number % 512) s blank) (get_or_read later place before there was []) in
    ap (λ piece. item_at front (set later place piece) blank k) same
    ∙ elim (cases_lt k 512) [
      | inl low ↦
          item_at-early front (set later place put) blank k low
          ∙ sym (cond-false _ _ _ (ne_eqb k number (λ same. omega arith)) ∙ item_at-early front later blank k low)
      | inr high ↦
          item_at-late front (set later place put) blank k high
          ∙ later_item-set later blank number s late there k high
          ∙ ap (λ x. if nat_eq k number then s else x) (sym (item_at-late front later blank k high))
    ]
