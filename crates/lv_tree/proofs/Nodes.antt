-- The nodes over a leaf, joined anew from the lowest on.
use Rattle.std.proofs.Common.{◌≡◌, ◌⊎◌, ℕ, suc, ◌+◌, ◌-◌, ◌*◌, ◌/◌, ◌%◌, ◌^◌, ◌<◌, ◌≤◌, List, length, take, drop, slice_index_or, slice_set, refl, sym, ap, ◌∙◌, subst, arith, inl, inr}
use Rattle.std.proofs.Math.Nat.{mul-le-mul_left, mul-le-mul_right, pow-suc}
use Rattle.std.proofs.Math.Pow.{pow_mono, pow_pos, pow-add}
use Rattle.std.proofs.lemmas.Bool.{cases_eq, cases_lt}
use Rattle.std.proofs.lemmas.List.{drop-set-lt, get_or-set_other, get_or-set_same}
use Rattle.lv_bodies.specs.Body.{Operations}
use Rattle.lv_bodies.specs.Long.{CanJoinLong, LongLaws}
use Rattle.lv_tree.specs.Folds.{AreFolds}
use Rattle.lv_tree.specs.Nodes.{IsRight, IsTree, IsTreeBut}
use Rattle.lv_tree.specs.Parts.{joined_on, part_of, run_of}
use Rattle.lv_tree.proofs.Glue.{Meet, meet, part_one}
use Rattle.lv_tree.proofs.Runs.{run_past}

-- powers of two
pub double : (j : ℕ) → 2 ^ (j + 1) ≡ 2 * 2 ^ j
double j = let one : j + 1 ≡ suc j = omega arith in ap (λ k. 2 ^ k) one ∙ pow-suc 2 j ∙ omega arith

-- what a node of one level covers, that of another level at its place does not
one_level : (lo hi p j k : ℕ) → hi ≤ 2 * lo → lo ≤ p * 2 ^ j → p * 2 ^ k + 2 ^ k ≤ hi → j < k → ⊥
one_level lo hi p j k octave low high less =
    let wide : 2 * 2 ^ j ≤ 2 ^ k = let more : j + 1 ≤ k = omega arith in subst (λ n. n ≤ 2 ^ k) (double j) (pow_mono more) in
    let far : p * (2 * 2 ^ j) ≤ p * 2 ^ k = mul-le-mul_left p wide in
    let some : 0 < 2 ^ k = pow_pos k in
    omega (arith, far, some)

pub levels_agree : (lo hi p j k : ℕ) → hi ≤ 2 * lo → lo ≤ p * 2 ^ j → p * 2 ^ j + 2 ^ j ≤ hi → lo ≤ p * 2 ^ k → p * 2 ^ k + 2 ^ k ≤ hi → j ≡ k
levels_agree lo hi p j k octave low high low_too high_too =
    elim (cases_lt j k) [
      | inl less ↦ absurd (one_level lo hi p j k octave low high_too less)
      | inr most ↦ elim (cases_lt k j) [
        | inl less ↦ absurd (one_level lo hi p k j octave low_too high less)
        | inr same ↦ omega (arith, most, same)
      ]
    ]

-- the place of a node above the leaves is before all leaves
pub before_leaves : (lo hi p j : ℕ) → hi ≤ 2 * lo → p * 2 ^ (j + 1) + 2 ^ (j + 1) ≤ hi → p < lo
before_leaves lo hi p j octave high =
    let wide : p * 2 ≤ p * 2 ^ (j + 1) = mul-le-mul_left p (let more : 1 ≤ j + 1 = omega arith in pow_mono more) in
    let some : 0 < 2 ^ (j + 1) = pow_pos (j + 1) in
    omega (arith, wide, some, high, octave)

-- of two ranges of leaves over one leaf, the wider contains the other
wider : (w d p q at : ℕ) → p * (d * w) ≤ at → at < p * (d * w) + d * w → q * w ≤ at → at < q * w + w → (p * (d * w) ≤ q * w) × (q * w + w ≤ p * (d * w) + d * w)
wider w d p q at low high low_too high_too = (
  elim (cases_lt q (p * d)) [
    | inl less ↦ absurd (let more : q + 1 ≤ p * d = omega arith in let far : (q + 1) * w ≤ p * d * w = mul-le-mul_right w more in omega (arith, far))
    | inr most ↦ let near : p * d * w ≤ q * w = mul-le-mul_right w most in omega (arith, near)
  ],
  elim (cases_lt q (p * d + d)) [
    | inl less ↦ let more : q + 1 ≤ p * d + d = omega arith in let near : (q + 1) * w ≤ (p * d + d) * w = mul-le-mul_right w more in omega (arith, near)
    | inr most ↦ absurd (let far : (p * d + d) * w ≤ q * w = mul-le-mul_right w most in omega (arith, far))
  ],
)

pub nested : (j k p q at : ℕ) → k ≤ j → p * 2 ^ j ≤ at → at < p * 2 ^ j + 2 ^ j → q * 2 ^ k ≤ at → at < q * 2 ^ k + 2 ^ k → (p * 2 ^ j ≤ q * 2 ^ k) × (q * 2 ^ k + 2 ^ k ≤ p * 2 ^ j + 2 ^ j)
nested j k p q at less low high low_too high_too =
    let whole : (j - k) + k ≡ j = omega arith in
    let cut : 2 ^ j ≡ 2 ^ (j - k) * 2 ^ k = ap (λ n. 2 ^ n) (sym whole) ∙ pow-add 2 (j - k) k in
    let P : ℕ → Type 0 = λ n. (p * n ≤ q * 2 ^ k) × (q * 2 ^ k + 2 ^ k ≤ p * n + n) in
    subst P (sym cut)
    (wider (2 ^ k) (2 ^ (j - k)) p q at (subst (λ n. p * n ≤ at) cut low) (subst (λ n. at < p * n + n) cut high) low_too high_too)

-- what a node's half is over, its parent is
pub parent : (node width at : ℕ) → node * width ≤ at → at < node * width + width → (node / 2 * (width * 2) ≤ at) × (at < node / 2 * (width * 2) + width * 2)
parent node width at low high =
    elim (cases_eq (node % 2) 0) [
      | inl even ↦
          let is : node ≡ 2 * (node / 2) = omega (arith, even) in
          let wide : node * width ≡ 2 * (node / 2) * width = ap (λ k. k * width) is in (omega (arith, wide), omega (arith, wide))
      | inr odd ↦
          let is : node ≡ 2 * (node / 2) + 1 = omega (arith, odd) in
          let wide : node * width ≡ (2 * (node / 2) + 1) * width = ap (λ k. k * width) is in (omega (arith, wide), omega (arith, wide))
    ]

-- a part of leaves depends on nothing before them
pub part_behind : {S : Type 0} (o : Operations S) (xs ys : List S) (lo a b : ℕ) → drop lo xs ≡ drop lo ys → lo ≤ a → part_of o xs a b ≡ part_of o ys a b
part_behind o xs ys lo a b same low =
    ap (joined_on o o.identity) (run_past xs lo a (b - a) low ∙ ap (λ l. take (b - a) (drop (a - lo) l)) same ∙ sym (run_past ys lo a (b - a) low))

-- another node of a level is not over the same leaf
beside : (p m j k width : ℕ) {at : ℕ} → j ≡ k → width ≡ 2 ^ k → (p ≡ m → ⊥) → m * width ≤ at → at < m * width + width → (at < p * 2 ^ j) ⊎ (p * 2 ^ j + 2 ^ j ≤ at)
beside p m j k width {at} up wide other low high =
    let is : 2 ^ j ≡ width = ap (λ n. 2 ^ n) up ∙ sym wide in
    let P : ℕ → Type 0 = λ n. (at < p * n) ⊎ (p * n + n ≤ at) in
    subst P (sym is)
    (elim (cases_lt p m) [
      | inl less ↦ inr (let more : p + 1 ≤ m = omega (arith, less) in let far : (p + 1) * width ≤ m * width = mul-le-mul_right width more in omega (arith, far, low))
      | inr most ↦ inl (let more : m + 1 ≤ p = omega (arith, most, other) in let far : (m + 1) * width ≤ p * width = mul-le-mul_right width more in omega (arith, far, high))
    ])

-- a loop that renews has come to a node over the leaf `at`
pub record Renewing {S : Type 0} (o : Operations S) (lo hi at : ℕ) (before cells : List S) (node width : ℕ) : Type 0 where
  pub level : ℕ
  pub wide : width ≡ 2 ^ level
  pub start : lo ≤ node * width
  pub low : node * width ≤ at
  pub high : at < node * width + width
  pub end : node * width + width ≤ hi
  pub others : IsTreeBut o lo hi at (level + 1) cells
  pub same : drop lo cells ≡ drop lo before
  pub rest : (j p : ℕ) → level < j → lo ≤ p * 2 ^ j → p * 2 ^ j + 2 ^ j ≤ hi → slice_index_or cells p o.identity ≡ slice_index_or before p o.identity

-- its parent's leaves are not all there
abbrev pub IsPast : ℕ → ℕ → ℕ → ℕ → Type 0
IsPast lo hi node width = (node / 2 * (width * 2) < lo) ⊎ (hi < node / 2 * (width * 2) + width * 2)

module _ {S : Type 0} (o : Operations S) (lo hi at : ℕ) (octave : hi ≤ 2 * lo) (before : List S) where
  -- if the leaves of a node's parent are not all there, no node above is left to be joined anew, so all nodes are right
  pub renewed : (cells : List S) (node width : ℕ) → Renewing o lo hi at before cells node width → IsPast lo hi node width → IsTree o lo hi cells
  renewed cells node width r past = record {
    node = λ j p low high.
        elim (cases_lt j (r.level + 1)) [
          | inl less ↦ r.others.node j p low high (inl less)
          | inr above ↦ elim (cases_lt at (p * 2 ^ j)) [
            | inl behind ↦ r.others.node j p low high (inr (inl behind))
            | inr from ↦ elim (cases_lt at (p * 2 ^ j + 2 ^ j)) [
              | inr front ↦ r.others.node j p low high (inr (inr front))
              | inl to ↦ absurd (
                  let over = parent node width at r.low r.high in
                  let is : width * 2 ≡ 2 ^ (r.level + 1) = omega (arith, r.wide, double r.level) in
                  let in_it = nested j (r.level + 1) p (node / 2) at above from to
                  (subst (λ n. node / 2 * n ≤ at) is over.0) (subst (λ n. at < node / 2 * n + n) is over.1) in
                  let around : (p * 2 ^ j ≤ node / 2 * (width * 2)) × (node / 2 * (width * 2) + width * 2 ≤ p * 2 ^ j + 2 ^ j) =
                  subst (λ n. (p * 2 ^ j ≤ node / 2 * n) × (node / 2 * n + n ≤ p * 2 ^ j + 2 ^ j)) (sym is) in_it in
                  elim past [
                    | inl before_all ↦ omega (arith, before_all, around.0, low)
                    | inr behind_all ↦ omega (arith, behind_all, around.1, high)
                  ])
            ]
          ]
        ];
  }

module _ {S : Type 0} (o : Operations S) (within : S → ℕ → Type 0) (laws : LongLaws o within) (lo hi at : ℕ) (octave : hi ≤ 2 * lo) (before : List S) (folds : AreFolds o (run_of before lo (hi - lo))) where
  folds_now : (cells : List S) → drop lo cells ≡ drop lo before → AreFolds o (run_of cells lo (hi - lo))
  folds_now cells same = subst (λ l. AreFolds o (take (hi - lo) l)) (sym same) folds

  -- it begins at the leaf
  pub starts : lo ≤ at → at < hi → hi ≤ length before → IsTreeBut o lo hi at 0 before → Renewing o lo hi at before before at 1
  starts low high inside but = record {
    level = 0;
    wide = refl;
    start = omega (arith, low);
    low = omega arith;
    high = omega arith;
    end = omega (arith, high);
    others = record {
      node = λ j p from to which.
          elim (cases_eq j 0) [
            | inl leaf ↦
                let P : ℕ → Type 0 = λ k. lo ≤ p * 2 ^ k → p * 2 ^ k + 2 ^ k ≤ hi → IsRight o before k p in
                subst P (sym leaf) (leaf_right p) from to
            | inr above ↦ but.node j p from to (inr (elim which [
              | inl less ↦ absurd (omega (arith, less, above))
              | inr apart ↦ apart
            ]))
          ];
    };
    same = refl;
    rest = λ j p up from to. refl;
  } where
    leaf_right : (p : ℕ) → lo ≤ p * 2 ^ 0 → p * 2 ^ 0 + 2 ^ 0 ≤ hi → IsRight o before 0 p
    leaf_right p from to =
        let one : p * 2 ^ 0 ≡ p = omega arith in
        subst (λ a. slice_index_or before p o.identity ≡ part_of o before a (a + 1)) (sym one)
        (part_one o within laws before lo hi folds p (omega (arith, from)) (omega (arith, to)) inside)

  -- the two below a parent all of whose leaves are there may be joined, and that is right
  pub halves : (cells : List S) (node width : ℕ) → Renewing o lo hi at before cells node width → lo ≤ node / 2 * (width * 2) → node / 2 * (width * 2) + width * 2 ≤ hi → Meet o within (slice_index_or cells (2 * (node / 2)) o.identity) (slice_index_or cells (2 * (node / 2) + 1) o.identity) (part_of o cells (node / 2 * (width * 2)) (node / 2 * (width * 2) + width * 2))
  halves cells node width r low high =
      let m = node / 2 in
      let n = 2 ^ r.level in
      let wide : width * 2 ≡ n + n = omega (arith, r.wide) in
      let start : m * (width * 2) ≡ 2 * m * n = ap (λ k. m * k) wide ∙ omega arith in
      let middle : 2 * m * n + n ≡ (2 * m + 1) * n = omega arith in
      let first = r.others.node r.level (2 * m) (omega (arith, low, start)) (omega (arith, high, start, wide)) (inl (omega arith)) in
      let second = r.others.node r.level (2 * m + 1) (omega (arith, low, start)) (omega (arith, high, start, wide)) (inl (omega arith)) in
      let end : m * (width * 2) + width * 2 ≡ (2 * m + 1) * n + n = omega (arith, start, wide) in
      let both = meet o within laws cells lo hi (folds_now cells r.same) (2 * m * n) (2 * m * n + n) ((2 * m + 1) * n + n) (omega (arith, low, start)) (omega arith) (omega arith) (omega (arith, high, end)) in
      let seam : part_of o cells (2 * m * n + n) ((2 * m + 1) * n + n) ≡ part_of o cells ((2 * m + 1) * n) ((2 * m + 1) * n + n) = ap (λ a. part_of o cells a ((2 * m + 1) * n + n)) middle in
      let whole : part_of o cells (m * (width * 2)) (m * (width * 2) + width * 2) ≡ part_of o cells (2 * m * n) ((2 * m + 1) * n + n) = ap (λ a. part_of o cells a (m * (width * 2) + width * 2)) start ∙ ap (part_of o cells (2 * m * n)) end in
      record {
        may = subst (λ s. CanJoinLong within s (slice_index_or cells (2 * m + 1) o.identity)) (sym first) (subst (λ s. CanJoinLong within (part_of o cells (2 * m * n) (2 * m * n + n)) s) (sym second) (subst (λ s. CanJoinLong within (part_of o cells (2 * m * n) (2 * m * n + n)) s) seam both.may));
        is = ap (λ s. o.join s (slice_index_or cells (2 * m + 1) o.identity)) first ∙ ap (o.join (part_of o cells (2 * m * n) (2 * m * n + n))) (second ∙ sym seam) ∙ both.is ∙ sym whole;
      }

  -- with the parent joined anew it has come a level further
  pub goes_up : (cells : List S) (node width : ℕ) (s : S) → Renewing o lo hi at before cells node width → lo ≤ node / 2 * (width * 2) → node / 2 * (width * 2) + width * 2 ≤ hi → node / 2 < length cells → s ≡ part_of o cells (node / 2 * (width * 2)) (node / 2 * (width * 2) + width * 2) → Renewing o lo hi at before (slice_set cells (node / 2) s) (node / 2) (width * 2)
  goes_up cells node width s r low high inside is =
      let m = node / 2 in
      let over = parent node width at r.low r.high in
      let wide : width * 2 ≡ 2 ^ (r.level + 1) = omega (arith, r.wide, double r.level) in
      let low_too : lo ≤ m * 2 ^ (r.level + 1) = subst (λ n. lo ≤ m * n) wide low in
      let high_too : m * 2 ^ (r.level + 1) + 2 ^ (r.level + 1) ≤ hi = subst (λ n. m * n + n ≤ hi) wide high in
      let front : m < lo = before_leaves lo hi m r.level octave high_too in
      let same : drop lo (slice_set cells m s) ≡ drop lo cells = drop-set-lt lo cells m s front in
      record {
        level = r.level + 1;
        wide = wide;
        start = low;
        low = over.0;
        high = over.1;
        end = high;
        others = record {
          node = λ j p from to which.
              elim (cases_eq p m) [
                | inl here ↦
                    let up : j ≡ r.level + 1 = levels_agree lo hi p j (r.level + 1) octave from to (subst (λ k. lo ≤ k * 2 ^ (r.level + 1)) (sym here) low_too) (subst (λ k. k * 2 ^ (r.level + 1) + 2 ^ (r.level + 1) ≤ hi) (sym here) high_too) in
                    ap (λ k. slice_index_or (slice_set cells m s) k o.identity) here
                    ∙ get_or-set_same cells m s o.identity inside
                    ∙ is
                    ∙ ap (λ n. part_of o cells (m * n) (m * n + n)) (wide ∙ ap (λ k. 2 ^ k) (sym up))
                    ∙ ap (λ k. part_of o cells (k * 2 ^ j) (k * 2 ^ j + 2 ^ j)) (sym here)
                    ∙ sym (part_behind o (slice_set cells m s) cells lo (p * 2 ^ j) (p * 2 ^ j + 2 ^ j) same from)
                | inr other ↦
                    get_or-set_other cells m p s o.identity other
                    ∙ r.others.node j p from to (elim which [
                      | inl less ↦ elim (cases_eq j (r.level + 1)) [
                        | inl up ↦ inr (beside p m j (r.level + 1) (width * 2) up wide other over.0 over.1)
                        | inr below ↦ inl (omega (arith, less, below))
                      ]
                      | inr apart ↦ inr apart
                    ])
                    ∙ sym (part_behind o (slice_set cells m s) cells lo (p * 2 ^ j) (p * 2 ^ j + 2 ^ j) same from)
              ];
        };
        same = same ∙ r.same;
        rest = λ j p up from to.
            let other : p ≡ m → ⊥ = λ here.
            let level_is : j ≡ r.level + 1 = levels_agree lo hi p j (r.level + 1) octave from to (subst (λ k. lo ≤ k * 2 ^ (r.level + 1)) (sym here) low_too) (subst (λ k. k * 2 ^ (r.level + 1) + 2 ^ (r.level + 1) ≤ hi) (sym here) high_too) in
            omega (arith, level_is, up) in
            get_or-set_other cells m p s o.identity other ∙ r.rest j p (omega (arith, up)) from to;
      }

-- the two nodes below a node that covers leaves only have their places
pub below_inside : (lo hi node width level : ℕ) → width ≡ 2 ^ level → node / 2 * (width * 2) + width * 2 ≤ hi → 2 * (node / 2) + 1 < hi
below_inside lo hi node width level wide high =
    let some : 0 < 2 ^ level = pow_pos level in
    let two : 2 ≤ width * 2 = omega (arith, some, wide) in
    let near : node / 2 * 2 ≤ node / 2 * (width * 2) = mul-le-mul_left (node / 2) two in
    omega (arith, near, two, high)
