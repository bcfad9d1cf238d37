-- Which indices the node of a level over an index has.
use Rattle.std.proofs.Common.{◌≡◌, ℕ, ◌+◌, ◌*◌, ◌/◌, ◌%◌, ◌^◌, ◌<◌, ◌≤◌, sym, ap, ◌∙◌, inl, inr, arith}
use Rattle.std.proofs.lemmas.Bool.{cases_lt}
use Rattle.std.proofs.lemmas.Nat.{div-add-mod', mul-le}
use Rattle.std.proofs.Math.Nat.{add-mod_right, div-eq_of_lt-le, div-mul-le_self, lt-div-mul-add, mul-mod_left}
use Rattle.std.proofs.Math.Pow.{pow_mono}
use Rattle.lv_geometry.specs.Nodes.{first_index, over}
use Rattle.lv_geometry.proofs.NodeLaws.{some_width, width_in_twos}
use Rattle.lv_reduce.specs.Pieces.{Fits}
use Rattle.lv_reduce.proofs.Zeros.{lesser_power}

-- a lesser level is no wider
pub no_wider : (lesser level : ℕ) → lesser ≤ level → 8 ^ lesser ≤ 8 ^ level
no_wider lesser level less =
    let twos : 3 * lesser ≤ 3 * level = omega arith in
    let narrower : 2 ^ (3 * lesser) ≤ 2 ^ (3 * level) = pow_mono twos in
    omega (arith, width_in_twos lesser, width_in_twos level)

-- the node over an index begins at or before it
pub first_le : (level i : ℕ) → first_index (over level i) ≤ i
first_le level i = div-mul-le_self i (8 ^ level)

-- and ends after it
pub last_gt : (level i : ℕ) → i < first_index (over level i) + 8 ^ level
last_gt level i = let some = some_width level in lt-div-mul-add {a = i} {b = 8 ^ level} (omega arith)

-- the indices of a node are those that it is over
pub over_same : (level i j : ℕ) → first_index (over level i) ≤ j → j < first_index (over level i) + 8 ^ level → over level j ≡ over level i
over_same level i j from below =
    ap (λ n. record { level = level; number = n }) (div-eq_of_lt-le (8 ^ level) from (omega arith))

-- a multiple of the width is where its node begins
pub first_of_aligned : (level i : ℕ) → i % 8 ^ level ≡ 0 → first_index (over level i) ≡ i
first_of_aligned level i aligned = omega (arith, div-add-mod' i (8 ^ level))

-- where a node begins is a multiple of its width
pub aligned_of_first : (level i : ℕ) → first_index (over level i) ≡ i → i % 8 ^ level ≡ 0
aligned_of_first level i first = omega (arith, div-add-mod' i (8 ^ level))

-- a multiple of a width is one of each lesser width
pub lesser_aligned : (i lesser level : ℕ) → lesser ≤ level → i % 8 ^ level ≡ 0 → i % 8 ^ lesser ≡ 0
lesser_aligned i lesser level less aligned =
    let in_twos : i % 2 ^ (3 * level) ≡ 0 = ap (λ w. i % w) (sym (width_in_twos level)) ∙ aligned in
    ap (λ w. i % w) (width_in_twos lesser) ∙ lesser_power i (3 * lesser) (3 * level) (omega arith) in_twos

-- of two multiples of a width the greater is at least the width above the lesser
pub multiples_apart : (w i j : ℕ) → i % w ≡ 0 → j % w ≡ 0 → i < j → i + w ≤ j
multiples_apart w i j first second below =
    elim (cases_lt (i / w) (j / w)) [
      | inl less ↦ omega (arith, mul-le (i / w + 1) w (j / w) w (omega arith) (omega arith), div-add-mod' i w, div-add-mod' j w)
      | inr no_less ↦ absurd (omega (arith, mul-le (j / w) w (i / w) w no_less (omega arith), div-add-mod' i w, div-add-mod' j w))
    ]

-- if a level fits, each lesser one does
pub lesser_fits : (at hi lesser level : ℕ) → lesser ≤ level → Fits at hi level → Fits at hi lesser
lesser_fits at hi lesser level less fits =
    record { begins = lesser_aligned at lesser level less fits.begins; ends = omega (arith, fits.ends, no_wider lesser level less) }

-- past the end of a node, a node of a level no lower that doesn't begin there has the first node in it
pub still_over : (at lower level : ℕ) → lower ≤ level → at % 8 ^ lower ≡ 0 → first_index (over level (at + 8 ^ lower)) < at + 8 ^ lower → over level at ≡ over level (at + 8 ^ lower)
still_over at lower level less aligned before =
    let first : first_index (over level (at + 8 ^ lower)) % 8 ^ lower ≡ 0 = lesser_aligned (first_index (over level (at + 8 ^ lower))) lower level less (mul-mod_left ((at + 8 ^ lower) / 8 ^ level) (8 ^ level)) in
    let next : (at + 8 ^ lower) % 8 ^ lower ≡ 0 = add-mod_right at (8 ^ lower) ∙ aligned in
    let apart = multiples_apart (8 ^ lower) (first_index (over level (at + 8 ^ lower))) (at + 8 ^ lower) first next before in
    over_same level (at + 8 ^ lower) at (omega arith) (omega (arith, last_gt level (at + 8 ^ lower)))

-- the cell at an index inside a range fits there
pub cell_fits : (at hi : ℕ) → at < hi → Fits at hi 0
cell_fits at hi some = record { begins = omega arith; ends = omega arith }
