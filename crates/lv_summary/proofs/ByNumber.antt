-- Lists of so many items, each given by its number, with blanks past the count.
use Rattle.std.proofs.Common.{◌≡◌, ℕ, ◌<◌, ◌≤◌, max, if◌then◌else◌, Some, List, length, map, replicate, get_or, set, slice_get, nat_eq, sym, ap, ◌∙◌, inl, inr, arith}
use Rattle.std.proofs.lemmas.Bool.{cases_eq, cases_lt, cond-false, cond-true, eq-eqb, ne_eqb}
use Rattle.std.proofs.lemmas.List.{get_or-replicate, get_or-set_other, get_or-set_same, get_or_past, length-replicate, length-set}
use Rattle.std.proofs.lemmas.List.FromFn.{fill_by_all, get_or-map-range_with_len, length-map-range_with_len}
use Rattle.std.proofs.lemmas.Option.{slice_get-get_or}
use Rattle.std.specs.List.{range_with_len}
use Rattle.lv_summary.specs.Inner.{lengthened}
use Rattle.lv_summary.proofs.LevelLaws.{get_or-lengthened, length-lengthened}

-- so many items, each given by its number
abbrev by_number : {A : Type 0} → (ℕ → A) → ℕ → List A
by_number item count = map item (range_with_len 0 count)

-- how many there are
pub length-by_number : {A : Type 0} (item : ℕ → A) (count : ℕ) → length (by_number item count) ≡ count
length-by_number item count = length-map-range_with_len item 0 count

-- what is at a number below the count
pub get_or-by_number : {A : Type 0} (item : ℕ → A) (blank : A) (count k : ℕ) → k < count → get_or (by_number item count) k blank ≡ item k
get_or-by_number item blank count k inside = get_or-map-range_with_len item 0 count k k blank inside (omega arith)

-- it is there
pub read_number : {A : Type 0} (item : ℕ → A) (count k : ℕ) → k < count → slice_get (by_number item count) k ≡ Some (item k)
read_number item count k inside =
    slice_get-get_or (by_number item count) k (item k) (omega (arith, length-by_number item count))
    ∙ ap Some (get_or-by_number item (item k) count k inside)

-- if the same is at each number, the lists are the same
pub by_number-same : {A : Type 0} (item other : ℕ → A) (blank : A) (count : ℕ) → ((k : ℕ) → other k ≡ item k) → by_number other count ≡ by_number item count
by_number-same item other blank count is =
    sym (fill_by_all other (by_number item count) count blank (length-by_number item count) (λ k below. get_or-by_number item blank count k below ∙ sym (is k)))

-- a list whose items are all blank is copies of the blank
pub by_number-blank : {A : Type 0} (item : ℕ → A) (blank : A) (count : ℕ) → ((k : ℕ) → item k ≡ blank) → by_number item count ≡ replicate count blank
by_number-blank item blank count none =
    sym (fill_by_all item (replicate count blank) count blank (length-replicate count blank) (λ k inside. get_or-replicate count k blank blank inside ∙ sym (none k)))

-- a list that is made longer has blanks where nothing was written
pub by_number-longer : {A : Type 0} (item : ℕ → A) (blank : A) (count items : ℕ) → ((k : ℕ) → count ≤ k → item k ≡ blank) → by_number item (max count items) ≡ lengthened (by_number item count) items blank
by_number-longer item blank count items none =
    let long = length-by_number item count in
    sym (fill_by_all item (lengthened (by_number item count) items blank) (max count items) blank (omega (arith, length-lengthened (by_number item count) items blank, long))
    (λ k inside.
    get_or-lengthened (by_number item count) items blank k
    ∙ elim (cases_lt k count) [
      | inl before ↦ get_or-by_number item blank count k before
      | inr past ↦ get_or_past (by_number item count) k blank (omega (arith, long)) ∙ sym (none k past)
    ]))

-- if only the item at one number is another, the list is the old one with that item set
pub by_number-set : {A : Type 0} (item other : ℕ → A) (blank : A) (count number : ℕ) (s : A) → number < count → ((k : ℕ) → other k ≡ (if nat_eq k number then s else item k)) → by_number other count ≡ set (by_number item count) number s
by_number-set item other blank count number s inside is =
    let long = length-by_number item count in
    sym (fill_by_all other (set (by_number item count) number s) count blank (length-set (by_number item count) number s ∙ long)
    (λ k below.
    elim (cases_eq k number) [
      | inl same ↦
          ap (λ k. get_or (set (by_number item count) number s) k blank) same
          ∙ get_or-set_same (by_number item count) number s blank (omega (arith, long))
          ∙ sym (is k ∙ cond-true _ _ _ (eq-eqb k number same))
      | inr apart ↦
          get_or-set_other (by_number item count) number k s blank apart
          ∙ get_or-by_number item blank count k below
          ∙ sym (is k ∙ cond-false _ _ _ (ne_eqb k number apart))
    ]))

-- if that number is below the count, what is past the count is blank as before
pub still_blank : {A : Type 0} (item other : ℕ → A) (blank : A) (count number : ℕ) (s : A) → number < count → ((k : ℕ) → other k ≡ (if nat_eq k number then s else item k)) → ((k : ℕ) → count ≤ k → item k ≡ blank) → (k : ℕ) → count ≤ k → other k ≡ blank
still_blank item other blank count number s inside is none k past =
    is k ∙ cond-false _ _ _ (ne_eqb k number (λ same. omega arith)) ∙ none k past
