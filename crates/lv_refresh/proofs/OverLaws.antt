-- How the marks over some words change when the words do, and how the least mark is found below them.
use Rattle.std.proofs.Common.{◌≡◌, ◌≢◌, ℕ, ◌+◌, ◌*◌, ◌/◌, ◌%◌, ◌-◌, ◌^◌, ◌<◌, ◌≤◌, true, false, ◌&&◌, ◌||◌, not, List, [], ◌∷◌, ◌++◌, length, get_or, set, nat_eq, nat_lt, replicate, take, refl, sym, ap, ◌∙◌, inl, inr, arith}
use Rattle.std.specs.Int.{bit_at, bit_not, trailing_zeros, w64}
use Rattle.std.specs.Prelude.{bit_and, bit_or}
use Rattle.std.proofs.lemmas.Bool.{cases_eq, cases_lt, eq-eqb, eqb-true, le-ltb, lt-ltb, ne_eqb, not-false, true≢false}
use Rattle.std.proofs.lemmas.List.{get_or-replicate, get_or-set_other, get_or-set_same, get_or-append_right, get_or_append_left, get_or_past, length-append, length-replicate, length-set, take_all}
use Rattle.std.proofs.lemmas.Nat.{and_le_l}
use Rattle.std.proofs.lemmas.Nat.Bits.{bit_at-trailing_zeros, bit_at-zero, bit_at_set_same}
use Rattle.lv_refresh.specs.Inner.{AreMarks, AreOver}
use Rattle.lv_refresh.specs.Marks.{is_marked}
use Rattle.lv_refresh.proofs.MarkLaws.{is_marked-clear, is_marked-set, least_marked, unmarked_word}

-- whether a word has a mark, by the word
some_word : (words : List ℕ) (k word : ℕ) → get_or words k 0 ≡ word → not (nat_eq (get_or words k 0) 0) ≡ not (nat_eq word 0)
some_word words k word is = ap (λ w. not (nat_eq w 0)) is

-- a word that is marked over the words is not 0
pub word_of_mark : (over words : List ℕ) (k : ℕ) → AreOver over words → is_marked over k ≡ true → get_or words k 0 ≢ 0
word_of_mark over words k is marked none = true≢false (sym marked ∙ is k ∙ ap not (eq-eqb (get_or words k 0) 0 none))

-- one that isn't is 0
pub word_unmarked : (over words : List ℕ) (k : ℕ) → AreOver over words → is_marked over k ≡ false → get_or words k 0 ≡ 0
word_unmarked over words k is unmarked = eqb-true (get_or words k 0) 0 (not-false (nat_eq (get_or words k 0) 0) (sym (is k) ∙ unmarked))

-- a word that is marked is one of the words
pub marked_inside : (over words : List ℕ) (k : ℕ) → AreOver over words → is_marked over k ≡ true → k < length words
marked_inside over words k is marked =
    elim (cases_lt k (length words)) [
      | inl inside ↦ inside
      | inr past ↦ absurd (word_of_mark over words k is marked (get_or_past words k 0 past))
    ]

-- a place where zeros are appended reads as before
get_or-zeros : (words : List ℕ) (n j : ℕ) → get_or (words ++ replicate n 0) j 0 ≡ get_or words j 0
get_or-zeros words n j =
    elim (cases_lt j (length words)) [
      | inl inside ↦ get_or_append_left words (replicate n 0) 0 j inside
      | inr past ↦ elim (cases_lt (j - length words) n) [
        | inl new ↦ get_or-append_right words (replicate n 0) (length words) j 0 refl past ∙ get_or-replicate n (j - length words) 0 0 new ∙ sym (get_or_past words j 0 past)
        | inr beyond ↦
            get_or_past (words ++ replicate n 0) j 0 (omega (arith, length-append words (replicate n 0), length-replicate {A = ℕ} n 0)) ∙ sym (get_or_past words j 0 past)
      ]
    ]

-- further words of zeros have no mark
pub is_marked-grown : (words : List ℕ) (all more j : ℕ) → length words ≤ all → is_marked (take all words ++ replicate more 0) j ≡ is_marked words j
is_marked-grown words all more j enough =
    ap (λ kept. is_marked (kept ++ replicate more 0) j) (take_all all words enough) ∙ ap (λ word. nat_eq (bit_at word (j % 64)) 1) (get_or-zeros words more (j / 64))

-- a number is the least that is marked
pub record IsLeast (words : List ℕ) (i : ℕ) : Type 0 where
  pub marked : is_marked words i ≡ true
  pub room : i < 64 * length words
  pub least : (j : ℕ) → j < i → is_marked words j ≡ false

module _ (over words : List ℕ) (is : AreOver over words) where
  -- a word that has a mark now is marked
  pub AreOver-set : (next : List ℕ) (k word : ℕ) → k < length words → word ≢ 0 → ((j : ℕ) → is_marked next j ≡ nat_eq j k || is_marked over j) → AreOver next (set words k word)
  AreOver-set next k word inside some marks =
      λ j. elim (cases_eq j k) [
        | inl same ↦
            marks j
            ∙ ap (λ here. here || is_marked over j) (eq-eqb j k same)
            ∙ sym (some_word (set words k word) j word (ap (λ i. get_or (set words k word) i 0) same ∙ get_or-set_same words k word 0 inside) ∙ ap not (ne_eqb word 0 some))
        | inr other ↦
            marks j
            ∙ ap (λ here. here || is_marked over j) (ne_eqb j k other)
            ∙ is j
            ∙ sym (some_word (set words k word) j (get_or words j 0) (get_or-set_other words k j word 0 other))
      ]

  -- a word that has none any longer is marked no more
  pub AreOver-clear : (next : List ℕ) (k word : ℕ) → k < length words → word ≡ 0 → ((j : ℕ) → is_marked next j ≡ not (nat_eq j k) && is_marked over j) → AreOver next (set words k word)
  AreOver-clear next k word inside none marks =
      λ j. elim (cases_eq j k) [
        | inl same ↦
            marks j
            ∙ ap (λ here. not here && is_marked over j) (eq-eqb j k same)
            ∙ sym (some_word (set words k word) j word (ap (λ i. get_or (set words k word) i 0) same ∙ get_or-set_same words k word 0 inside) ∙ ap not (eq-eqb word 0 none))
        | inr other ↦
            marks j
            ∙ ap (λ here. not here && is_marked over j) (ne_eqb j k other)
            ∙ is j
            ∙ sym (some_word (set words k word) j (get_or words j 0) (get_or-set_other words k j word 0 other))
      ]

  -- a word that had a mark and still has one stays marked
  pub AreOver-keep : (k word : ℕ) → k < length words → get_or words k 0 ≢ 0 → word ≢ 0 → AreOver over (set words k word)
  AreOver-keep k word inside had has =
      λ j. elim (cases_eq j k) [
        | inl same ↦
            is j
            ∙ some_word words j (get_or words k 0) (ap (λ i. get_or words i 0) same)
            ∙ ap not (ne_eqb (get_or words k 0) 0 had)
            ∙ sym (some_word (set words k word) j word (ap (λ i. get_or (set words k word) i 0) same ∙ get_or-set_same words k word 0 inside) ∙ ap not (ne_eqb word 0 has))
        | inr other ↦
            is j ∙ sym (some_word (set words k word) j (get_or words j 0) (get_or-set_other words k j word 0 other))
      ]

  -- words without marks need none
  pub AreOver-grow : (next : List ℕ) (n : ℕ) → ((j : ℕ) → is_marked next j ≡ is_marked over j) → AreOver next (words ++ replicate n 0)
  AreOver-grow next n alike = λ j. alike j ∙ is j ∙ sym (some_word (words ++ replicate n 0) j (get_or words j 0) (get_or-zeros words n j))

  -- if every word is of ones, all are marked
  pub AreOver-all : (next : List ℕ) → ((j : ℕ) → is_marked next j ≡ nat_lt j (length words) || is_marked over j) → AreOver next (replicate (length words) (2 ^ 64 - 1))
  AreOver-all next marks =
      λ j. elim (cases_lt j (length words)) [
        | inl inside ↦
            marks j
            ∙ ap (λ here. here || is_marked over j) (lt-ltb j (length words) inside)
            ∙ sym (some_word (replicate (length words) (2 ^ 64 - 1)) j (2 ^ 64 - 1) (get_or-replicate (length words) j (2 ^ 64 - 1) 0 inside))
        | inr past ↦
            marks j
            ∙ ap (λ here. here || is_marked over j) (le-ltb j (length words) past)
            ∙ is j
            ∙ some_word words j 0 (get_or_past words j 0 past)
            ∙ sym (some_word (replicate (length words) (2 ^ 64 - 1)) j 0 (get_or_past (replicate (length words) (2 ^ 64 - 1)) j 0 (omega (arith, length-replicate {A = ℕ} (length words) (2 ^ 64 - 1)))))
      ]

  -- the least mark is in the least word that is marked
  pub least_below : (k word : ℕ) → is_marked over k ≡ true → ((j : ℕ) → j < k → is_marked over j ≡ false) → word ≡ get_or words k 0 → word < 2 ^ 64 → IsLeast words (k * 64 + trailing_zeros w64 word)
  least_below k word marked least here small =
      let some : word ≢ 0 = λ none. word_of_mark over words k is marked (sym here ∙ none) in
      let found = least_marked words k word (λ j before. word_unmarked over words j is (least j before)) here (omega arith) small in
      let bit = (bit_at-trailing_zeros w64 word (omega arith) small).0 in
      record { marked = found.0; room = omega (arith, bit, marked_inside over words k is marked); least = found.1 }

  -- there is none if no word is marked
  pub none_below : ((k : ℕ) → is_marked over k ≡ false) → (j : ℕ) → is_marked words j ≡ false
  none_below none j = unmarked_word words j (word_unmarked over words (j / 64) is (none (j / 64)))

-- a word that a mark was set in is not 0
marked_word : (w k : ℕ) → k < 64 → bit_or w (1 * 2 ^ k % 2 ^ 64) ≢ 0
marked_word w k small none =
    omega (arith, bit_at_set_same w64 w k small, ap (λ v. bit_at v k) none, bit_at-zero k)

-- a word that has a mark once others are taken away had one
some_before : (word mask : ℕ) → bit_and word mask ≢ 0 → word ≢ 0
some_before word mask some =
    let most : bit_and word mask ≤ word = and_le_l word mask in
    omega arith

-- one word has its bits as marks: none if it is 0
pub word_empty : (j : ℕ) → is_marked (0 ∷ []) j ≡ false
word_empty j =
    unmarked_word (0 ∷ []) j (elim (cases_lt (j / 64) 1) [
      | inl first ↦ ap (λ k. get_or (0 ∷ []) k 0) (let at : j / 64 ≡ 0 = omega arith in at)
      | inr past ↦ get_or_past (0 ∷ []) (j / 64) 0 past
    ])

-- setting one marks its number
pub word_set : (over k : ℕ) → k < 64 → (j : ℕ) → is_marked (bit_or over (1 * 2 ^ k % 2 ^ 64) ∷ []) j ≡ nat_eq j k || is_marked (over ∷ []) j
word_set over k small j =
    let at : k / 64 ≡ 0 = omega arith in
    let bit : k % 64 ≡ k = omega arith in
    let all : is_marked (set (over ∷ []) (k / 64) (bit_or over (1 * 2 ^ (k % 64) % 2 ^ 64))) j ≡ nat_eq j k || is_marked (over ∷ []) j = is_marked-set (over ∷ []) k over j (omega arith) (ap (λ place. get_or (over ∷ []) place 0) (sym at)) in
    ap (λ b. is_marked (set (over ∷ []) 0 (bit_or over (1 * 2 ^ b % 2 ^ 64))) j) (sym bit)
    ∙ ap (λ place. is_marked (set (over ∷ []) place (bit_or over (1 * 2 ^ (k % 64) % 2 ^ 64))) j) (sym at)
    ∙ all

-- and clearing one takes the mark of its number away
pub word_clear : (over k : ℕ) → k < 64 → (j : ℕ) → is_marked (bit_and over (bit_not w64 (1 * 2 ^ k % 2 ^ 64)) ∷ []) j ≡ not (nat_eq j k) && is_marked (over ∷ []) j
word_clear over k small j =
    let at : k / 64 ≡ 0 = omega arith in
    let bit : k % 64 ≡ k = omega arith in
    let all : is_marked (set (over ∷ []) (k / 64) (bit_and over (bit_not w64 (1 * 2 ^ (k % 64) % 2 ^ 64)))) j ≡ not (nat_eq j k) && is_marked (over ∷ []) j = is_marked-clear (over ∷ []) k over j (omega arith) (ap (λ place. get_or (over ∷ []) place 0) (sym at)) in
    ap (λ b. is_marked (set (over ∷ []) 0 (bit_and over (bit_not w64 (1 * 2 ^ b % 2 ^ 64)))) j) (sym bit)
    ∙ ap (λ place. is_marked (set (over ∷ []) place (bit_and over (bit_not w64 (1 * 2 ^ (k % 64) % 2 ^ 64)))) j) (sym at)
    ∙ all

module _ (words over : List ℕ) (marks : AreMarks words over) where
  -- marks are kept as they must be when a number is marked
  pub AreMarks-set : (next : List ℕ) (i w : ℕ) → i / 64 < length words → length next ≡ length over → ((j : ℕ) → is_marked next j ≡ nat_eq j (i / 64) || is_marked over j) → AreMarks (set words (i / 64) (bit_or w (1 * 2 ^ (i % 64) % 2 ^ 64))) next
  AreMarks-set next i w inside long marked =
      let word = bit_or w (1 * 2 ^ (i % 64) % 2 ^ 64) in
      record {
        few = omega (arith, length-set words (i / 64) word, marks.few);
        room = omega (arith, length-set words (i / 64) word, marks.room);
        over_is = AreOver-set over words marks.over_is next (i / 64) word inside (marked_word w (i % 64) (omega arith)) marked;
      }

  -- and when one is set in a word that has others
  pub AreMarks-more : (i w : ℕ) → i / 64 < length words → w ≡ get_or words (i / 64) 0 → w ≢ 0 → AreMarks (set words (i / 64) (bit_or w (1 * 2 ^ (i % 64) % 2 ^ 64))) over
  AreMarks-more i w inside is some =
      let word = bit_or w (1 * 2 ^ (i % 64) % 2 ^ 64) in
      record {
        few = omega (arith, length-set words (i / 64) word, marks.few);
        room = omega (arith, length-set words (i / 64) word, marks.room);
        over_is = AreOver-keep over words marks.over_is (i / 64) word inside (λ none. some (is ∙ none)) (marked_word w (i % 64) (omega arith));
      }

  -- when the last marks of a word are taken away
  pub AreMarks-clear : (next : List ℕ) (k word : ℕ) → k < length words → word ≡ 0 → length next ≡ length over → ((j : ℕ) → is_marked next j ≡ not (nat_eq j k) && is_marked over j) → AreMarks (set words k word) next
  AreMarks-clear next k word inside none long marked =
      record {
        few = omega (arith, length-set words k word, marks.few);
        room = omega (arith, length-set words k word, marks.room);
        over_is = AreOver-clear over words marks.over_is next k word inside none marked;
      }

  -- and when its word has others
  pub AreMarks-keep : (i w mask : ℕ) → i / 64 < length words → w ≡ get_or words (i / 64) 0 → bit_and w mask ≢ 0 → AreMarks (set words (i / 64) (bit_and w mask)) over
  AreMarks-keep i w mask inside is some =
      record {
        few = omega (arith, length-set words (i / 64) (bit_and w mask), marks.few);
        room = omega (arith, length-set words (i / 64) (bit_and w mask), marks.room);
        over_is = AreOver-keep over words marks.over_is (i / 64) (bit_and w mask) inside (λ none. some_before w mask some (is ∙ none)) some;
      }
