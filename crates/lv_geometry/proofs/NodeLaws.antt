-- The levels and the widths of nodes, what shifts give of them, and how many rows are enough for a level.
use Rattle.std.proofs.Common.{◌≡◌, ℕ, zero, suc, ◌+◌, ◌-◌, ◌*◌, ◌/◌, ◌%◌, ◌^◌, ◌<◌, ◌≤◌, true, nat_le, nat_lt, refl, ap, ◌∙◌, subst, sym, inl, inr, arith}
use Rattle.std.specs.Int.{div_ceil}
use Rattle.std.proofs.Math.Nat.{div-mul-le_self, le_of_mul-le-mul_right, lt-div-mul-add, mul-le-mul_right, one-le-pow, pow-suc}
use Rattle.std.proofs.lemmas.Bool.{and_from, and_parts, cases_eq, cases_lt, le-leb, le-ltb, leb-true, lt-leb, lt-ltb}
use Rattle.std.proofs.lemmas.Nat.{one_shl}
use Rattle.lv_geometry.specs.declared.nodes.Node.{Node}
use Rattle.lv_geometry.specs.Nodes.{is_below, is_node, over}
use Rattle.lv_geometry.proofs.HighestBits.{times_eight}

-- what holds at each number from 0 to 7 holds of each below 8
pub at_each_child : (P : ℕ → Type 0) → P 0 → P 1 → P 2 → P 3 → P 4 → P 5 → P 6 → P 7 → (k : ℕ) → k < 8 → P k
at_each_child P p0 p1 p2 p3 p4 p5 p6 p7 k small =
    elim (cases_eq k 0) [
      | inl is ↦ subst P (sym is) p0
      | inr not_0 ↦ elim (cases_eq k 1) [
        | inl is ↦ subst P (sym is) p1
        | inr not_1 ↦ elim (cases_eq k 2) [
          | inl is ↦ subst P (sym is) p2
          | inr not_2 ↦ elim (cases_eq k 3) [
            | inl is ↦ subst P (sym is) p3
            | inr not_3 ↦ elim (cases_eq k 4) [
              | inl is ↦ subst P (sym is) p4
              | inr not_4 ↦ elim (cases_eq k 5) [
                | inl is ↦ subst P (sym is) p5
                | inr not_5 ↦ elim (cases_eq k 6) [
                  | inl is ↦ subst P (sym is) p6
                  | inr not_6 ↦ let is : k ≡ 7 = omega arith in subst P (sym is) p7
                ]
              ]
            ]
          ]
        ]
      ]
    ]

-- what holds at each number from 1 to 6 holds of each level
pub at_each_level : (P : ℕ → Type 0) → P 1 → P 2 → P 3 → P 4 → P 5 → P 6 → (level : ℕ) → 1 ≤ level → level ≤ 6 → P level
at_each_level P p1 p2 p3 p4 p5 p6 level low high =
    at_each_child (λ k. 1 ≤ k → k ≤ 6 → P k)
    (λ low high. absurd (omega arith)) (λ low high. p1) (λ low high. p2) (λ low high. p3) (λ low high. p4) (λ low high. p5) (λ low high. p6) (λ low high. absurd (omega arith))
    level (omega arith) low high

-- the level of a node of the table is one of the six
pub level_of_node : (n : Node) → is_node n ≡ true → (1 ≤ n.level) × (n.level ≤ 6)
level_of_node n inside =
    let parts = and_parts _ _ inside in
    (leb-true 1 n.level parts.0, leb-true n.level 6 parts.1)

-- a node of one of the six levels is one of the table
pub node_of_level : (n : Node) → 1 ≤ n.level → n.level ≤ 6 → is_node n ≡ true
node_of_level n low high = and_from _ _ (le-leb 1 n.level low) (le-leb n.level 6 high)

-- a node has at least one index
pub some_width : (level : ℕ) → 1 ≤ 8 ^ level
some_width level = one-le-pow level 8 (omega arith)

-- a number below the rows that are enough for all its indices
pub number_below : (number rows width size : ℕ) → 0 < width → (number + 1) * width ≤ size → size ≤ rows * width → number < rows
number_below number rows width size some ends enough =
    let most : (number + 1) * width ≤ rows * width = omega arith in
    omega (arith, le_of_mul-le-mul_right most some)

-- what the rows of a level are enough for, an eighth of them, rounded up, are enough for on the level above
pub enough_above : (needed rows above width : ℕ) → above ≡ div_ceil rows 8 → needed ≤ rows * width → needed ≤ above * (width * 8)
enough_above needed rows above width eighth enough =
    let most : rows * width ≤ above * 8 * width = mul-le-mul_right width (omega (arith, eighth)) in
    omega arith

-- enough rows for some blocks, made as many as are enough for others, are enough for the more of them
pub covers_more : (rows blocks more n width : ℕ) → 8 * more ≤ n * width → 8 * blocks ≤ rows * width → 8 * (blocks + (more - blocks)) ≤ (rows + (n - rows)) * width
covers_more rows blocks more n width enough covers =
    let few : rows ≤ rows + (n - rows) = omega arith in
    let many : n ≤ rows + (n - rows) = omega arith in
    let least : rows * width ≤ (rows + (n - rows)) * width = mul-le-mul_right width few in
    let most : n * width ≤ (rows + (n - rows)) * width = mul-le-mul_right width many in
    elim (cases_lt blocks more) [ inl above ↦ omega arith | inr within ↦ omega arith ]

-- the width of a level is so many twos
pub width_in_twos : (level : ℕ) → 8 ^ level ≡ 2 ^ (3 * level)
width_in_twos zero = refl
width_in_twos (suc level) =
    let next : 3 * suc level ≡ 3 * level + 3 = omega arith in
    pow-suc 8 level ∙ ap (λ w. w * 8) (width_in_twos level) ∙ omega (arith, times_eight (3 * level)) ∙ ap (λ k. 2 ^ k) (sym next)

-- one shifted by three places for each level is the width of the level
pub width_by_shift : (level : ℕ) → level ≤ 6 → 1 * 2 ^ (3 * level) % 2 ^ 32 ≡ 8 ^ level
width_by_shift level low = one_shl (3 * level) 32 (omega arith) ∙ sym (width_in_twos level)

-- the node of a level over an index has the number that a shift finds
pub node_by_shift : (at level : ℕ) → record { level = level; number = at / 2 ^ (3 * level) } ≡ over level at
node_by_shift at level = ap (λ w. record { level = level; number = at / w }) (sym (width_in_twos level))

-- a number is below a quotient if and only if one more of it, times the divisor, is within the dividend
lt-quotient : (number size width : ℕ) → 0 < width → nat_lt number (size / width) ≡ nat_le ((number + 1) * width) size
lt-quotient number size width some =
    elim (cases_lt number (size / width)) [
      | inl below ↦
          let least : (number + 1) * width ≤ size / width * width = mul-le-mul_right width (omega arith) in
          lt-ltb _ _ below ∙ sym (le-leb _ _ (omega (arith, div-mul-le_self size width)))
      | inr above ↦
          let most : size / width * width ≤ number * width = mul-le-mul_right width above in
          le-ltb _ _ above ∙ sym (lt-leb ((number + 1) * width) size (omega (arith, lt-div-mul-add {a = size} {b = width} some)))
    ]

-- a node ends within a size if and only if its number is below the size shifted by three bits a level
pub below_by_shift : (n : Node) (size : ℕ) → nat_lt n.number (size / 2 ^ (3 * n.level)) ≡ is_below n size
below_by_shift n size =
    ap (λ width. nat_lt n.number (size / width)) (sym (width_in_twos n.level)) ∙ lt-quotient n.number size (8 ^ n.level) (some_width n.level)
