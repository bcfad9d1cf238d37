-- How a change of one word changes the marks, and which mark is the least.
use Rattle.std.proofs.Common.{◌≡◌, ◌≢◌, ℕ, ◌+◌, ◌-◌, ◌*◌, ◌/◌, ◌%◌, ◌^◌, ◌<◌, ◌≤◌, Bool, true, false, ◌&&◌, ◌||◌, not, List, [], ◌∷◌, length, get_or, set, sum, nat_eq, nat_lt, replicate, refl, subst, sym, ap, ◌∙◌, inl, inr, arith}
use Rattle.std.specs.Int.{bit_at, bit_not, trailing_zeros, w64}
use Rattle.std.specs.Prelude.{bit_and, bit_or}
use Rattle.std.proofs.lemmas.Bool.{cases_eq, cases_lt, eq-eqb, le-ltb, lt-ltb, ne_eqb, true≢false}
use Rattle.std.proofs.lemmas.List.{get_or-replicate, get_or-set_other, get_or-set_same}
use Rattle.std.proofs.lemmas.List.Sums.{sum_by-set}
use Rattle.std.proofs.lemmas.Nat.{and_le_l}
use Rattle.std.proofs.lemmas.Nat.Bits.{bit_at-trailing_zeros, bit_at-zero, bit_at_clear_other, bit_at_clear_same, bit_at_ones, bit_at_set_other, bit_at_set_same}
use Rattle.lv_refresh.specs.Marks.{is_marked}

-- two numbers are one if their words and their bits are
same_place : (i j : ℕ) → j / 64 ≡ i / 64 → j % 64 ≡ i % 64 → j ≡ i
same_place i j word bit = omega arith

-- a mark is where its word has a bit
marked_by : (words : List ℕ) (i word : ℕ) → get_or words (i / 64) 0 ≡ word → is_marked words i ≡ nat_eq (bit_at word (i % 64)) 1
marked_by words i word is = ap (λ w. nat_eq (bit_at w (i % 64)) 1) is

-- marking a number marks it, and no other
pub is_marked-set : (words : List ℕ) (i w j : ℕ) → i / 64 < length words → w ≡ get_or words (i / 64) 0 → is_marked (set words (i / 64) (bit_or w (1 * 2 ^ (i % 64) % 2 ^ 64))) j ≡ nat_eq j i || is_marked words j
is_marked-set words i w j inside is =
    let next = bit_or w (1 * 2 ^ (i % 64) % 2 ^ 64) in
    elim (cases_eq (j / 64) (i / 64)) [
      | inl word ↦
          let here : get_or (set words (i / 64) next) (j / 64) 0 ≡ next = ap (λ k. get_or (set words (i / 64) next) k 0) word ∙ get_or-set_same words (i / 64) next 0 inside in
          elim (cases_eq (j % 64) (i % 64)) [
            | inl bit ↦
                let same = same_place i j word bit in
                marked_by _ j next here
                ∙ ap (λ b. nat_eq (bit_at next b) 1) bit
                ∙ ap (λ b. nat_eq b 1) (bit_at_set_same w64 w (i % 64) (omega arith))
                ∙ ap (λ b. b || is_marked words j) (sym (eq-eqb j i same))
            | inr bit ↦
                marked_by _ j next here
                ∙ ap (λ b. nat_eq b 1) (bit_at_set_other w64 w (i % 64) (omega arith) (j % 64) bit)
                ∙ sym (marked_by words j w (ap (λ k. get_or words k 0) word ∙ sym is))
                ∙ ap (λ b. b || is_marked words j) (sym (ne_eqb j i (λ same. bit (ap (λ n. n % 64) same))))
          ]
      | inr word ↦
          marked_by _ j _ (get_or-set_other words (i / 64) (j / 64) next 0 word)
          ∙ ap (λ b. b || is_marked words j) (sym (ne_eqb j i (λ same. word (ap (λ n. n / 64) same))))
    ]

-- taking the mark of a number away takes no other away
pub is_marked-clear : (words : List ℕ) (i w j : ℕ) → i / 64 < length words → w ≡ get_or words (i / 64) 0 → is_marked (set words (i / 64) (bit_and w (bit_not w64 (1 * 2 ^ (i % 64) % 2 ^ 64)))) j ≡ not (nat_eq j i) && is_marked words j
is_marked-clear words i w j inside is =
    let next = bit_and w (bit_not w64 (1 * 2 ^ (i % 64) % 2 ^ 64)) in
    elim (cases_eq (j / 64) (i / 64)) [
      | inl word ↦
          let here : get_or (set words (i / 64) next) (j / 64) 0 ≡ next = ap (λ k. get_or (set words (i / 64) next) k 0) word ∙ get_or-set_same words (i / 64) next 0 inside in
          elim (cases_eq (j % 64) (i % 64)) [
            | inl bit ↦
                let same = same_place i j word bit in
                marked_by _ j next here
                ∙ ap (λ b. nat_eq (bit_at next b) 1) bit
                ∙ ap (λ b. nat_eq b 1) (bit_at_clear_same w64 w (i % 64) (omega arith))
                ∙ ap (λ b. not b && is_marked words j) (sym (eq-eqb j i same))
            | inr bit ↦
                marked_by _ j next here
                ∙ ap (λ b. nat_eq b 1) (bit_at_clear_other w64 w (i % 64) (omega arith) (j % 64) (omega arith) bit)
                ∙ sym (marked_by words j w (ap (λ k. get_or words k 0) word ∙ sym is))
                ∙ ap (λ b. not b && is_marked words j) (sym (ne_eqb j i (λ same. bit (ap (λ n. n % 64) same))))
          ]
      | inr word ↦
          marked_by _ j _ (get_or-set_other words (i / 64) (j / 64) next 0 word)
          ∙ ap (λ b. not b && is_marked words j) (sym (ne_eqb j i (λ same. word (ap (λ n. n / 64) same))))
    ]

-- a word is less without a bit that it had
word_lighter : (w k : ℕ) → k < 64 → nat_eq (bit_at w k) 1 ≡ true → bit_and w (bit_not w64 (1 * 2 ^ k % 2 ^ 64)) < w
word_lighter w k small had =
    let next = bit_and w (bit_not w64 (1 * 2 ^ k % 2 ^ 64)) in
    let other : next ≢ w = λ same. true≢false (sym had ∙ ap (λ v. nat_eq (bit_at v k) 1) (sym same) ∙ ap (λ b. nat_eq b 1) (bit_at_clear_same w64 w k small)) in
    let most : next ≤ w = and_le_l w _ in
    omega arith

-- the words together are less when a mark is taken away
pub clear_lighter : (words : List ℕ) (i w : ℕ) → i / 64 < length words → w ≡ get_or words (i / 64) 0 → is_marked words i ≡ true → sum (set words (i / 64) (bit_and w (bit_not w64 (1 * 2 ^ (i % 64) % 2 ^ 64)))) < sum words
clear_lighter words i w inside is had =
    let next = bit_and w (bit_not w64 (1 * 2 ^ (i % 64) % 2 ^ 64)) in
    let less : next < w = word_lighter w (i % 64) (omega arith) (sym (marked_by words i w (sym is)) ∙ had) in
    omega (arith, sum_by-set (λ x. x) words (i / 64) next 0 inside)

-- words of ones have every mark
pub is_marked-ones : (n j : ℕ) → j / 64 < n → is_marked (replicate n (2 ^ 64 - 1)) j ≡ true
is_marked-ones n j inside =
    marked_by _ j (2 ^ 64 - 1) (get_or-replicate n (j / 64) (2 ^ 64 - 1) 0 inside) ∙ ap (λ b. nat_eq b 1) (bit_at_ones 64 (j % 64) (omega arith))

-- a word that is 0 has no mark
pub unmarked_word : (words : List ℕ) (j : ℕ) → get_or words (j / 64) 0 ≡ 0 → is_marked words j ≡ false
unmarked_word words j none = marked_by words j 0 none ∙ ap (λ b. nat_eq b 1) (bit_at-zero (j % 64))

-- the least mark is the lowest bit of the first word that is not 0
pub least_marked : (words : List ℕ) (first word : ℕ) → ((k : ℕ) → k < first → get_or words k 0 ≡ 0) → word ≡ get_or words first 0 → 0 < word → word < 2 ^ 64 → (is_marked words (first * 64 + trailing_zeros w64 word) ≡ true) × ((j : ℕ) → j < first * 64 + trailing_zeros w64 word → is_marked words j ≡ false)
least_marked words first word none is some small =
    let zeros = bit_at-trailing_zeros w64 word some small in
    let bit = trailing_zeros w64 word in
    let below : bit < 64 = zeros.0 in
    let at : (first * 64 + bit) / 64 ≡ first = omega arith in
    let place : (first * 64 + bit) % 64 ≡ bit = omega arith in (
      marked_by words (first * 64 + bit) word (ap (λ k. get_or words k 0) at ∙ sym is) ∙ ap (λ b. nat_eq (bit_at word b) 1) place ∙ ap (λ b. nat_eq b 1) zeros.1,
      λ j before. elim (cases_lt (j / 64) first) [
        | inl earlier ↦ unmarked_word words j (none (j / 64) earlier)
        | inr there ↦
            let word_is : j / 64 ≡ first = omega arith in
            marked_by words j word (ap (λ k. get_or words k 0) word_is ∙ sym is) ∙ ap (λ b. nat_eq b 1) (zeros.2 (j % 64) (omega arith))
      ],
    )

-- the least mark of one word is its lowest bit
pub least_of_word : (word : ℕ) → 0 < word → word < 2 ^ 64 → (is_marked (word ∷ []) (trailing_zeros w64 word) ≡ true) × ((j : ℕ) → j < trailing_zeros w64 word → is_marked (word ∷ []) j ≡ false)
least_of_word word some small =
    let bit = trailing_zeros w64 word in
    let alone : 0 * 64 + bit ≡ bit = omega arith in
    subst (λ n. (is_marked (word ∷ []) n ≡ true) × ((j : ℕ) → j < n → is_marked (word ∷ []) j ≡ false)) alone
    (least_marked (word ∷ []) 0 word (λ k none. absurd (omega arith)) refl some small)

-- a number that there is room for has a word
pub word_inside : (words : List ℕ) (i : ℕ) → i < 64 * length words → i / 64 < length words
word_inside words i room = omega arith

-- a word of zeros has no mark, and the marks of the others stay
pub is_marked-cleared : (words : List ℕ) (k j : ℕ) → k < length words → is_marked (set words k 0) j ≡ not (nat_eq (j / 64) k) && is_marked words j
is_marked-cleared words k j inside =
    elim (cases_eq (j / 64) k) [
      | inl same ↦
          marked_by (set words k 0) j 0 (ap (λ i. get_or (set words k 0) i 0) same ∙ get_or-set_same words k 0 0 inside)
          ∙ ap (λ b. nat_eq b 1) (bit_at-zero (j % 64))
          ∙ sym (ap (λ here. not here && is_marked words j) (eq-eqb (j / 64) k same))
      | inr other ↦
          marked_by (set words k 0) j (get_or words (j / 64) 0) (get_or-set_other words k (j / 64) 0 0 other)
          ∙ sym (ap (λ here. not here && is_marked words j) (ne_eqb (j / 64) k other))
    ]

-- the numbers below the next one are those below a number, and it
pub below_next : (j i : ℕ) (marked : Bool) → nat_eq j i || (nat_lt j i || marked) ≡ nat_lt j (i + 1) || marked
below_next j i marked =
    elim (cases_eq j i) [
      | inl same ↦ ap (λ here. here || (nat_lt j i || marked)) (eq-eqb j i same) ∙ ap (λ below. below || marked) (sym (lt-ltb j (i + 1) (omega arith)))
      | inr other ↦
          let alike : nat_lt j i ≡ nat_lt j (i + 1) = elim (cases_lt j i) [
            | inl below ↦ lt-ltb j i below ∙ sym (lt-ltb j (i + 1) (omega arith))
            | inr past ↦ le-ltb j i past ∙ sym (le-ltb j (i + 1) (omega arith))
          ] in
          ap (λ here. here || (nat_lt j i || marked)) (ne_eqb j i other) ∙ ap (λ below. below || marked) alike
    ]
