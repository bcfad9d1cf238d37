-- Items that are put side by side into a list, one by one or as a piece.
use Rattle.std.proofs.Common.{◌≡◌, ◌≢◌, ◌⊎◌, ℕ, ◌+◌, ◌-◌, ◌*◌, ◌/◌, ◌%◌, ◌<◌, ◌≤◌, false, ◌&&◌, Option, Some, List, [], length, get_or, set, nat_le, nat_lt, slice_get, refl, sym, ap, ◌∙◌, inl, inr, arith}
use Rattle.std.proofs.lemmas.Bool.{and_cases, and_left, and_right, cases_eq, cases_lt, cond-false, cond-true, le-ltb, leb-false, lt-leb, lt-ltb, ltb-false}
use Rattle.std.proofs.lemmas.List.{get_or-set_other, get_or-set_same, length-set}
use Rattle.std.proofs.lemmas.Option.{slice_get-get_or, slice_get_past}
use Rattle.lv_summary.specs.Inner.{HasItems, HasPart, in_pieces, item_at, room_in_pieces}
use Rattle.lv_summary.proofs.LateLaws.{item_at-early, item_at-late, later_item-late, length-in_pieces, read_pieces}
use Rattle.lv_summary.proofs.LevelLaws.{slice_get-set_other, slice_get-set_same}

-- a number that is none of so many from one on is below them, or behind
pub apart_cases : (first count k : ℕ) → (nat_le first k && nat_lt k (first + count)) ≡ false → (k < first) ⊎ (first + count ≤ k)
apart_cases first count k apart =
    elim (and_cases (nat_le first k) (nat_lt k (first + count)) apart) [
      | inl before ↦ inl (leb-false first k before)
      | inr behind ↦ inr (ltb-false k (first + count) behind)
    ]

-- and one that is below them or behind is none of them
apart_from : (first count k : ℕ) → (k < first) ⊎ (first + count ≤ k) → (nat_le first k && nat_lt k (first + count)) ≡ false
apart_from first count k where_it_is =
    elim where_it_is [
      | inl before ↦ and_left (nat_le first k) (nat_lt k (first + count)) (lt-leb first k before)
      | inr behind ↦ and_right (nat_le first k) (nat_lt k (first + count)) (le-ltb k (first + count) behind)
    ]

-- before any is put, the list is as before
pub HasItems-none : {A : Type 0} (xs : List A) (first : ℕ) (item : ℕ → Option A) → HasItems xs xs first 0 item
HasItems-none xs first item = record { long = refl; item_is = λ k small. absurd (omega arith); others = λ k apart. refl }

-- one more is put behind those that were
pub HasItems-more : {A : Type 0} (old new : List A) (first count : ℕ) (item : ℕ → Option A) (x : A) → HasItems old new first count item → first + count < length old → item count ≡ Some x → HasItems old (set new (first + count) x) first (count + 1) item
HasItems-more old new first count item x h inside is =
    record {
      long = length-set new (first + count) x ∙ h.long;
      item_is = λ j small. elim (cases_eq j count) [
        | inl same ↦
            ap (λ j. slice_get (set new (first + count) x) (first + j)) same
            ∙ slice_get-set_same new (first + count) x (omega (arith, h.long))
            ∙ sym is
            ∙ ap item (sym same)
        | inr other ↦
            let apart : first + j ≢ first + count = λ same. other (omega arith) in
            slice_get-set_other new (first + count) (first + j) x apart ∙ h.item_is j (omega arith)
      ];
      others = λ j outside. elim (apart_cases first (count + 1) j outside) [
        | inl before ↦
            let apart : j ≢ first + count = λ same. omega arith in
            slice_get-set_other new (first + count) j x apart ∙ h.others j (apart_from first count j (inl before))
        | inr behind ↦
            let apart : j ≢ first + count = λ same. omega arith in
            slice_get-set_other new (first + count) j x apart ∙ h.others j (apart_from first count j (inr (omega arith)))
      ];
    }

-- pieces with other items side by side are a list with that part
part_of_pieces : {A : Type 0} (front others : List A) (later those : List (List A)) (blank : A) (count first : ℕ) (part : List A) → length part ≡ 512 → first + 512 ≤ count
    → ((k : ℕ) → k < 512 → item_at others those blank (first + k) ≡ get_or part k blank)
    → ((k : ℕ) → (k < first) ⊎ (first + 512 ≤ k) → item_at others those blank k ≡ item_at front later blank k)
    → HasPart (in_pieces front later blank count) (in_pieces others those blank count) first part
part_of_pieces front others later those blank count first part whole fits inside outside =
    record {
      long = length-in_pieces others those blank count ∙ sym (length-in_pieces front later blank count);
      item_is = λ k small.
          read_pieces others those blank count (first + k) (omega (arith, whole))
          ∙ ap Some (inside k (omega (arith, whole)))
          ∙ sym (slice_get-get_or part k blank small);
      others = λ k apart. elim (cases_lt k count) [
        | inl below ↦
            let same : item_at others those blank k ≡ item_at front later blank k =
            elim (apart_cases first (length part) k apart) [
              | inl before ↦ outside k (inl before)
              | inr behind ↦ outside k (inr (omega (arith, whole)))
            ]
            in
            read_pieces others those blank count k below ∙ ap Some same ∙ sym (read_pieces front later blank count k below)
        | inr past ↦
            slice_get_past (in_pieces others those blank count) k (omega (arith, length-in_pieces others those blank count))
            ∙ sym (slice_get_past (in_pieces front later blank count) k (omega (arith, length-in_pieces front later blank count)))
      ];
    }

-- the first piece gives way to a part
pub part_early : {A : Type 0} (front part : List A) (later : List (List A)) (blank : A) (count first : ℕ) → length part ≡ 512 → first % 512 ≡ 0 → first + 512 ≤ count → first < 512 → HasPart (in_pieces front later blank count) (in_pieces part later blank count) first part
part_early front part later blank count first whole aligned fits early =
    let start : first ≡ 0 = omega arith in
    part_of_pieces front part later later blank count first part whole fits
    (λ k small. let same : first + k ≡ k = omega arith in item_at-early part later blank (first + k) (omega arith) ∙ ap (λ j. get_or part j blank) same)
    (λ k apart.
    let late : 512 ≤ k = elim apart [ inl before ↦ absurd (omega arith) | inr behind ↦ omega arith ] in
    item_at-late part later blank k late ∙ sym (item_at-late front later blank k late))

-- past the count all is blank as before
pub blank_early : {A : Type 0} (front part : List A) (later : List (List A)) (blank : A) (count first : ℕ) → first + 512 ≤ count → ((k : ℕ) → count ≤ k → item_at front later blank k ≡ blank) → (k : ℕ) → count ≤ k → item_at part later blank k ≡ blank
blank_early front part later blank count first fits none k past =
    item_at-late part later blank k (omega arith) ∙ sym (item_at-late front later blank k (omega arith)) ∙ none k past

-- a list that has a whole piece of items has memory for more than one, so a whole first piece keeps its room
pub room_early : (count capacity other later first : ℕ) → count ≤ room_in_pieces capacity later → first + 512 ≤ count → 512 ≤ other → count ≤ room_in_pieces other later
room_early count capacity other later first fits long whole =
    let room : room_in_pieces other later ≡ 512 + 512 * later = cond-false _ _ _ (le-ltb other 512 whole) in
    elim (cases_lt capacity 512) [
      | inl low ↦
          let short : room_in_pieces capacity later ≡ capacity = cond-true _ _ _ (lt-ltb capacity 512 low) in
          absurd (omega arith)
      | inr high ↦
          let same : room_in_pieces capacity later ≡ 512 + 512 * later = cond-false _ _ _ (le-ltb capacity 512 high) in
          omega arith
    ]

-- one piece behind the first gives way to a part: items elsewhere are as before
part_late-outside : {A : Type 0} (front part : List A) (later : List (List A)) (blank : A) (first : ℕ) → first % 512 ≡ 0 → 512 ≤ first → (k : ℕ) → (k < first) ⊎ (first + 512 ≤ k) → item_at front (set later (first / 512 - 1) part) blank k ≡ item_at front later blank k
part_late-outside front part later blank first aligned late k apart =
    elim (cases_lt k 512) [
      | inl low ↦ item_at-early front (set later (first / 512 - 1) part) blank k low ∙ sym (item_at-early front later blank k low)
      | inr high ↦
          let other : k / 512 - 1 ≢ first / 512 - 1 = λ same. elim apart [ inl before ↦ omega arith | inr behind ↦ omega arith ] in
          item_at-late front (set later (first / 512 - 1) part) blank k high
          ∙ later_item-late (set later (first / 512 - 1) part) k blank high
          ∙ ap (λ xs. get_or xs (k % 512) blank) (get_or-set_other later (first / 512 - 1) (k / 512 - 1) part [] other)
          ∙ sym (item_at-late front later blank k high ∙ later_item-late later k blank high)
    ]

-- one piece behind the first gives way to a part: the list has the part in its place
pub part_late : {A : Type 0} (front part : List A) (later : List (List A)) (blank : A) (count first : ℕ) → length part ≡ 512 → first % 512 ≡ 0 → first + 512 ≤ count → 512 ≤ first → first / 512 - 1 < length later → HasPart (in_pieces front later blank count) (in_pieces front (set later (first / 512 - 1) part) blank count) first part
part_late front part later blank count first whole aligned fits late there =
    part_of_pieces front front later (set later (first / 512 - 1) part) blank count first part whole fits
    (λ k small.
    let place : (first + k) / 512 - 1 ≡ first / 512 - 1 = omega arith in
    let rest : (first + k) % 512 ≡ k = omega arith in
    item_at-late front (set later (first / 512 - 1) part) blank (first + k) (omega arith)
    ∙ later_item-late (set later (first / 512 - 1) part) (first + k) blank (omega arith)
    ∙ ap (λ j. get_or (get_or (set later (first / 512 - 1) part) j []) ((first + k) % 512) blank) place
    ∙ ap (λ xs. get_or xs ((first + k) % 512) blank) (get_or-set_same later (first / 512 - 1) part [] there)
    ∙ ap (λ j. get_or part j blank) rest)
    (part_late-outside front part later blank first aligned late)

-- past the count all is blank as before
pub blank_late : {A : Type 0} (front part : List A) (later : List (List A)) (blank : A) (count first : ℕ) → first % 512 ≡ 0 → first + 512 ≤ count → 512 ≤ first → ((k : ℕ) → count ≤ k → item_at front later blank k ≡ blank) → (k : ℕ) → count ≤ k → item_at front (set later (first / 512 - 1) part) blank k ≡ blank
blank_late front part later blank count first aligned fits late none k past =
    part_late-outside front part later blank first aligned late k (inr (omega arith)) ∙ none k past
