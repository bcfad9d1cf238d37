-- Rows of sums before each group of leaves.
use Rattle.std.proofs.Common.{◌≡◌, ℕ, suc, ◌+◌, ◌-◌, ◌*◌, ◌/◌, ◌%◌, ◌^◌, ◌<◌, ◌≤◌, List, [], length, map, take, get_or, set, sym, ap, ◌∙◌, subst, arith, inl, inr}
use Rattle.std.proofs.Math.Nat.{lt_of_mul-lt-mul_right, mul-le-mul_right, one-le-pow, pow-le-pow_right, pow-suc}
use Rattle.std.proofs.Math.Pow.{pow-add}
use Rattle.std.proofs.lemmas.Bool.{cases_eq, cases_lt}
use Rattle.std.proofs.lemmas.List.{get_or-set_other, get_or-set_same, get_or-map, get_or_past, length-set, length-take}
use Rattle.lv_tree.specs.Rows.{AreAdded, AreAsLong, AreKept, AreSums, HaveRoom, IsAdded, IsAddedIn, row_of, sum_between}
use Rattle.lv_tree.proofs.Between.{sum_beside, sum_cut, sum_front, sum_none, sum_written}

-- eight groups are under one parent
pub eightfold : (l : ℕ) → 8 ^ (l + 1) ≡ 8 ^ l * 8
eightfold l = let one : l + 1 ≡ suc l = omega arith in ap (λ k. 8 ^ k) one ∙ pow-suc 8 l

-- a group has leaves, and one of a later row no fewer
some_group : (l : ℕ) → 0 < 8 ^ l
some_group l = omega (arith, one-le-pow l 8 (omega arith))

wider : {k l : ℕ} → k ≤ l → 8 ^ k ≤ 8 ^ l
wider up = pow-le-pow_right (omega arith) up

-- a parent's leaves begin no later than its group's
pub parent_first : (m w : ℕ) → m / 8 * (w * 8) ≤ m * w
parent_first m w =
    let near : m / 8 * 8 * w ≤ m * w = mul-le-mul_right w (let few : m / 8 * 8 ≤ m = omega arith in few) in
    omega (arith, near)

-- and end no sooner
pub parent_last : (m w : ℕ) → m * w + w ≤ m / 8 * (w * 8) + w * 8
parent_last m w =
    let near : (m + 1) * w ≤ (m / 8 * 8 + 8) * w = mul-le-mul_right w (let few : m + 1 ≤ m / 8 * 8 + 8 = omega arith in few) in
    omega (arith, near)

module _ (leaves : List ℕ) (rows new : List (List ℕ)) (leaf s more : ℕ) (inside : leaf < length leaves) (small : get_or leaves leaf 0 < 2 ^ 64) (is : more ≡ (s + (2 ^ 64 - get_or leaves leaf 0)) % 2 ^ 64) where
  -- the number of one group after a write
  number_written : (l m : ℕ) (old_row new_row : List ℕ) → IsAddedIn l leaf more old_row new_row → get_or old_row m 0 ≡ sum_between leaves (m / 8 * (8 ^ l * 8)) (m * 8 ^ l) → get_or new_row m 0 ≡ sum_between (set leaves leaf s) (m / 8 * (8 ^ l * 8)) (m * 8 ^ l)
  number_written l m old_row new_row a was =
      let w = 8 ^ l in
      let q = a.place in
      let order = parent_first m w in
      elim (cases_lt q m) [
        | inr before ↦
            let far : m * w ≤ q * w = mul-le-mul_right w before in
            a.added.others m (inl before) ∙ was ∙ sym (sum_beside leaves leaf s (m / 8 * (w * 8)) (m * w) order (inr (omega (arith, far, a.low))))
        | inl behind ↦ elim (cases_lt m (q / 8 * 8 + 8)) [
          | inr past ↦
              let next : q / 8 + 1 ≤ m / 8 = omega (arith, past) in
              let far : (q / 8 + 1) * (w * 8) ≤ m / 8 * (w * 8) = mul-le-mul_right (w * 8) next in
              let near = parent_last q w in
              a.added.others m (inr past) ∙ was ∙ sym (sum_beside leaves leaf s (m / 8 * (w * 8)) (m * w) order (inl (omega (arith, far, near, a.high))))
          | inl within ↦
              let same : m / 8 ≡ q / 8 = omega (arith, behind, within) in
              let start : m / 8 * (w * 8) ≤ leaf = (let e : m / 8 * (w * 8) ≡ q / 8 * (w * 8) = ap (λ k. k * (w * 8)) same in omega (arith, e, parent_first q w, a.low)) in
              let end : leaf < m * w = (let far : (q + 1) * w ≤ m * w = mul-le-mul_right w (let one : q + 1 ≤ m = omega (arith, behind) in one) in omega (arith, far, a.high)) in
              a.added.behind m behind within
              ∙ ap (λ k. (k + more) % 2 ^ 64) was
              ∙ ap (λ k. (sum_between leaves (m / 8 * (w * 8)) (m * w) + k) % 2 ^ 64) is
              ∙ sym (sum_written leaves leaf s (m / 8 * (w * 8)) (m * w) start end inside small)
        ]
      ]

  pub rows_written : AreSums leaves rows → AreAdded leaf more rows new → AreSums (set leaves leaf s) new
  rows_written sums added = record {
    before = λ l m here few.
        let there : l < length rows = omega (arith, here, added.count) in
        number_written l m (row_of rows l) (row_of new l) (added.row l there) (sums.before l m there (omega (arith, few, length-set leaves leaf s)));
  }

-- rows of the same lengths have the same room
pub room_kept : (room : ℕ) (old new : List (List ℕ)) → AreAsLong old new → HaveRoom room old → HaveRoom room new
room_kept room old new long have = record {
  group = λ l m here few.
      let there : l < length old = omega (arith, here, long.count) in
      omega (arith, have.group l m there few, long.row l);
  high = subst (λ k. room < 8 ^ k) (sym long.count) have.high;
}

-- rows to which was added are as long
pub added_long : (leaf more : ℕ) (old new : List (List ℕ)) → AreAdded leaf more old new → AreAsLong old new
added_long leaf more old new added = record {
  count = added.count;
  row = λ l. elim (cases_lt l (length old)) [
    | inl here ↦ (added.row l here).added.size
    | inr past ↦ ap length (get_or_past new l [] (omega (arith, past, added.count)) ∙ sym (get_or_past old l [] past))
  ];
}

-- the sums of fewer leaves
pub sums_front : (count : ℕ) (leaves : List ℕ) (rows : List (List ℕ)) → count ≤ length leaves → AreSums leaves rows → AreSums (take count leaves) rows
sums_front count leaves rows most sums = record {
  before = λ l m here few.
      let size : length (take count leaves) ≡ count = omega (arith, length-take count leaves, most) in
      let under : m * 8 ^ l ≤ count = omega (arith, few, size) in
      sums.before l m here (omega (arith, under, most)) ∙ sym (sum_front leaves count (m / 8 * (8 ^ l * 8)) (m * 8 ^ l) (parent_first m (8 ^ l)) under);
}

-- a loop that takes the last leaf in has come to row k, and to the last whole group there
pub record Taking (leaves : List ℕ) (old rows : List (List ℕ)) (k place carry : ℕ) : Type 0 where
  pub whole : (place + 1) * 8 ^ k ≡ length leaves
  pub carry_is : carry ≡ sum_between leaves (place * 8 ^ k) (length leaves)
  pub long : AreAsLong old rows
  pub done : (l m : ℕ) → l < k → l < length rows → m * 8 ^ l ≤ length leaves → get_or (row_of rows l) m 0 ≡ sum_between leaves (m / 8 * (8 ^ l * 8)) (m * 8 ^ l)
  pub left : (l : ℕ) → k ≤ l → row_of rows l ≡ row_of old l

module _ (leaves : List ℕ) (old : List (List ℕ)) (sums : AreSums (take (length leaves - 1) leaves) old) where
  module _ (rows : List (List ℕ)) (k place carry : ℕ) (t : Taking leaves old rows k place carry) where
    -- the group begins before the end of the leaves
    before_last : place * 8 ^ k + 1 ≤ length leaves
    before_last = let some : 0 < 8 ^ k = some_group k in omega (arith, t.whole, some)

    -- what was there of fewer leaves
    was_there : (m : ℕ) → k < length rows → m ≤ place → get_or (row_of rows k) m 0 ≡ sum_between leaves (m / 8 * (8 ^ k * 8)) (m * 8 ^ k)
    was_there m here most =
        let n = length leaves in
        let size : length (take (n - 1) leaves) ≡ n - 1 = omega (arith, length-take (n - 1) leaves) in
        let near : m * 8 ^ k ≤ place * 8 ^ k = mul-le-mul_right (8 ^ k) most in
        let few : m * 8 ^ k ≤ n - 1 = omega (arith, near, before_last) in
        ap (λ r. get_or r m 0) (t.left k (omega arith))
        ∙ sums.before k m (omega (arith, here, t.long.count)) (omega (arith, few, size))
        ∙ sum_front leaves (n - 1) (m / 8 * (8 ^ k * 8)) (m * 8 ^ k) (parent_first m (8 ^ k)) few

    -- the group and its siblings before it
    pub carried : k < length rows → (get_or (row_of rows k) place 0 + carry) % 2 ^ 64 ≡ sum_between leaves (place / 8 * (8 ^ k * 8)) (length leaves)
    carried here =
        ap (λ x. (x + carry) % 2 ^ 64) (was_there place here (omega arith))
        ∙ ap (λ x. (sum_between leaves (place / 8 * (8 ^ k * 8)) (place * 8 ^ k) + x) % 2 ^ 64) t.carry_is
        ∙ sym (sum_cut leaves (place / 8 * (8 ^ k * 8)) (place * 8 ^ k) (length leaves) (parent_first place (8 ^ k)) (omega (arith, before_last)))

    -- there is a place behind the group
    pub place_there : HaveRoom (length leaves) old → k < length rows → place + 1 < length (row_of rows k)
    place_there room here =
        let wide = room.group k (place + 1) (omega (arith, here, t.long.count)) (omega (arith, t.whole)) in
        omega (arith, wide, t.long.row k)

    -- the rows with the number behind the group
    module _ (room : HaveRoom (length leaves) old) (here : k < length rows) (number : ℕ) (is : number ≡ sum_between leaves ((place + 1) / 8 * (8 ^ k * 8)) ((place + 1) * 8 ^ k)) where
      abbrev rows_new : List (List ℕ)
      rows_new = set rows k (set (row_of rows k) (place + 1) number)

      row_here : row_of rows_new k ≡ set (row_of rows k) (place + 1) number
      row_here = get_or-set_same rows k (set (row_of rows k) (place + 1) number) [] here

      row_there : (l : ℕ) → (l ≡ k → ⊥) → row_of rows_new l ≡ row_of rows l
      row_there l other = get_or-set_other rows k l (set (row_of rows k) (place + 1) number) [] other

      number_here : (m : ℕ) → m * 8 ^ k ≤ length leaves → get_or (row_of rows_new k) m 0 ≡ sum_between leaves (m / 8 * (8 ^ k * 8)) (m * 8 ^ k)
      number_here m few =
          ap (λ r. get_or r m 0) row_here
          ∙ elim (cases_eq m (place + 1)) [
            | inl same ↦
                ap (λ i. get_or (set (row_of rows k) (place + 1) number) i 0) same
                ∙ get_or-set_same (row_of rows k) (place + 1) number 0 (place_there room here)
                ∙ is
                ∙ ap (λ i. sum_between leaves (i / 8 * (8 ^ k * 8)) (i * 8 ^ k)) (sym same)
            | inr other ↦
                let some : 0 < 8 ^ k = some_group k in
                let less : m * 8 ^ k < (place + 1 + 1) * 8 ^ k = omega (arith, few, t.whole, some) in
                let near : m < place + 1 + 1 = lt_of_mul-lt-mul_right (8 ^ k) less in
                get_or-set_other (row_of rows k) (place + 1) m number 0 other ∙ was_there m here (omega (arith, near, other))
          ]

      long_new : AreAsLong old rows_new
      long_new = record {
        count = omega (arith, length-set rows k (set (row_of rows k) (place + 1) number), t.long.count);
        row = λ l. elim (cases_eq l k) [
          | inl same ↦ ap (λ i. length (row_of rows_new i)) same ∙ ap length row_here ∙ length-set (row_of rows k) (place + 1) number ∙ t.long.row k ∙ ap (λ i. length (row_of old i)) (sym same)
          | inr other ↦ ap length (row_there l other) ∙ t.long.row l
        ];
      }

      done_new : (l m : ℕ) → l < k + 1 → l < length rows_new → m * 8 ^ l ≤ length leaves → get_or (row_of rows_new l) m 0 ≡ sum_between leaves (m / 8 * (8 ^ l * 8)) (m * 8 ^ l)
      done_new l m up there few =
          elim (cases_eq l k) [
            | inl same ↦
                let P : ℕ → Type 0 = λ i. m * 8 ^ i ≤ length leaves → get_or (row_of rows_new i) m 0 ≡ sum_between leaves (m / 8 * (8 ^ i * 8)) (m * 8 ^ i) in
                subst P (sym same) (number_here m) few
            | inr other ↦ ap (λ r. get_or r m 0) (row_there l other) ∙ t.done l m (omega (arith, up, other)) (omega (arith, there, length-set rows k (set (row_of rows k) (place + 1) number))) few
          ]

      -- a parent is whole if its last group is
      pub takes_on : (next : ℕ) → place % 8 ≡ 7 → next ≡ sum_between leaves (place / 8 * (8 ^ k * 8)) (length leaves) → Taking leaves old rows_new (k + 1) (place / 8) next
      takes_on next last next_is = record {
        whole =
            (let e : (place / 8 + 1) * 8 ≡ place + 1 = omega (arith, last) in
            let f : (place / 8 + 1) * 8 * 8 ^ k ≡ (place + 1) * 8 ^ k = ap (λ i. i * 8 ^ k) e in
            ap (λ w. (place / 8 + 1) * w) (eightfold k) ∙ omega (arith, f, t.whole));
        carry_is = next_is ∙ ap (λ w. sum_between leaves (place / 8 * w) (length leaves)) (sym (eightfold k));
        long = long_new;
        done = done_new;
        left = λ l up. row_there l (λ same. omega (arith, up, same)) ∙ t.left l (omega (arith, up));
      }

      -- if the group isn't the last one, no wider group ends with the leaf
      pub takes_all : place % 8 < 7 → AreSums leaves rows_new
      takes_all less = record {
        before = λ l m there few.
            elim (cases_lt l (k + 1)) [
              | inl up ↦ done_new l m up there few
              | inr above ↦
                  let n = length leaves in
                  let size : length (take (n - 1) leaves) ≡ n - 1 = omega (arith, length-take (n - 1) leaves) in
                  let room_there : l < length old = omega (arith, there, long_new.count) in
                  let fewer : m * 8 ^ l ≤ n - 1 = not_whole l m above few in
                  ap (λ r. get_or r m 0) (row_there l (λ same. omega (arith, above, same)) ∙ t.left l (omega (arith, above)))
                  ∙ sums.before l m room_there (omega (arith, fewer, size))
                  ∙ sum_front leaves (n - 1) (m / 8 * (8 ^ l * 8)) (m * 8 ^ l) (parent_first m (8 ^ l)) fewer
            ];
      } where
        not_whole : (l m : ℕ) → k + 1 ≤ l → m * 8 ^ l ≤ length leaves → m * 8 ^ l ≤ length leaves - 1
        not_whole l m above few =
            let far : (l - (k + 1)) + (k + 1) ≡ l = omega (arith, above) in
            let d = m * 8 ^ (l - (k + 1)) in
            let cut : 8 ^ l ≡ 8 ^ (l - (k + 1)) * (8 ^ k * 8) = ap (λ i. 8 ^ i) (sym far) ∙ pow-add 8 (l - (k + 1)) (k + 1) ∙ ap (λ w. 8 ^ (l - (k + 1)) * w) (eightfold k) in
            let is_d : m * 8 ^ l ≡ d * 8 * 8 ^ k = ap (λ w. m * w) cut ∙ omega arith in
            let some : 0 < 8 ^ k = some_group k in
            elim (cases_lt (d * 8) (place + 1)) [
              | inl fewer ↦ (let near : d * 8 + 1 ≤ place + 1 = omega (arith, fewer) in let wide : (d * 8 + 1) * 8 ^ k ≤ (place + 1) * 8 ^ k = mul-le-mul_right (8 ^ k) near in omega (arith, wide, is_d, t.whole, some))
              | inr most ↦
                  let next : place + 1 + 1 ≤ d * 8 = omega (arith, most, less) in
                  absurd (let wide : (place + 1 + 1) * 8 ^ k ≤ d * 8 * 8 ^ k = mul-le-mul_right (8 ^ k) next in omega (arith, wide, is_d, few, t.whole, some))
            ]

    -- a number is put behind the group: the sum of its siblings and of itself if it isn't the last one, and else none
    module _ (room : HaveRoom (length leaves) old) (here : k < length rows) (row : List ℕ) (row_is : row_of rows k ≡ row) (x : ℕ) (x_is : x ≡ get_or row place 0) where
      sum_on : (x + carry) % 2 ^ 64 ≡ sum_between leaves (place / 8 * (8 ^ k * 8)) (length leaves)
      sum_on = ap (λ y. (y + carry) % 2 ^ 64) (x_is ∙ ap (λ r. get_or r place 0) (sym row_is)) ∙ carried here

      put_is : (new : List ℕ) (number : ℕ) → new ≡ set row (place + 1) number → set rows k new ≡ set rows k (set (row_of rows k) (place + 1) number)
      put_is new number is = ap (set rows k) (is ∙ ap (λ r. set r (place + 1) number) (sym row_is))

      pub taken_all : (new : List ℕ) → new ≡ set row (place + 1) ((x + carry) % 2 ^ 64) → place % 8 < 7 → AreSums leaves (set rows k new) × AreAsLong old (set rows k new)
      taken_all new is less =
          let number = (x + carry) % 2 ^ 64 in
          let same : (place + 1) / 8 ≡ place / 8 = omega (arith, less) in
          let number_is : number ≡ sum_between leaves ((place + 1) / 8 * (8 ^ k * 8)) ((place + 1) * 8 ^ k) =
          sum_on ∙ ap (sum_between leaves (place / 8 * (8 ^ k * 8))) (sym t.whole) ∙ ap (λ i. sum_between leaves (i * (8 ^ k * 8)) ((place + 1) * 8 ^ k)) (sym same) in (
            subst (AreSums leaves) (sym (put_is new number is)) (takes_all room here number number_is less),
            subst (AreAsLong old) (sym (put_is new number is)) (long_new room here number number_is),
          )

      pub taken_on : (new : List ℕ) → new ≡ set row (place + 1) 0 → place % 8 ≡ 7 → Taking leaves old (set rows k new) (k + 1) (place / 8) ((x + carry) % 2 ^ 64)
      taken_on new is last =
          let whole : (place + 1) / 8 * 8 ≡ place + 1 = omega (arith, last) in
          let start : (place + 1) / 8 * (8 ^ k * 8) ≡ (place + 1) * 8 ^ k = (let e : (place + 1) / 8 * 8 * 8 ^ k ≡ (place + 1) * 8 ^ k = ap (λ i. i * 8 ^ k) whole in omega (arith, e)) in
          let none : 0 ≡ sum_between leaves ((place + 1) / 8 * (8 ^ k * 8)) ((place + 1) * 8 ^ k) = sym (ap (λ a. sum_between leaves a ((place + 1) * 8 ^ k)) start ∙ sum_none leaves ((place + 1) * 8 ^ k)) in
          subst (λ r. Taking leaves old r (k + 1) (place / 8) ((x + carry) % 2 ^ 64)) (sym (put_is new 0 is)) (takes_on room here 0 none ((x + carry) % 2 ^ 64) last sum_on)

-- a loop over rows that adds up what comes before a place
pub record Summing (rows : List (List ℕ)) (end k place sum : ℕ) : Type 0 where
  pub low : place * 8 ^ k ≤ end
  pub high : end < place * 8 ^ k + 8 ^ k
  pub sum_is : (leaves : List ℕ) → end ≤ length leaves → AreSums leaves rows → sum ≡ sum_between leaves (place * 8 ^ k) end

-- a place of a row is in its parent
pub under_parent : (place w at : ℕ) → place * w ≤ at → at < place * w + w → (place / 8 * (w * 8) ≤ at) × (at < place / 8 * (w * 8) + w * 8)
under_parent place w at low high = (omega (arith, parent_first place w, low), omega (arith, parent_last place w, high))

pub sums_on : (rows : List (List ℕ)) (end k place sum next : ℕ) → Summing rows end k place sum → k < length rows → next ≡ (get_or (row_of rows k) place 0 + sum) % 2 ^ 64 → Summing rows end (k + 1) (place / 8) next
sums_on rows end k place sum next s here next_is =
    let over = under_parent place (8 ^ k) end s.low s.high in
    record {
      low = subst (λ w. place / 8 * w ≤ end) (sym (eightfold k)) over.0;
      high = subst (λ w. end < place / 8 * w + w) (sym (eightfold k)) over.1;
      sum_is = λ leaves most sums.
          next_is
          ∙ ap (λ x. (x + sum) % 2 ^ 64) (sums.before k place here (omega (arith, s.low, most)))
          ∙ ap (λ x. (sum_between leaves (place / 8 * (8 ^ k * 8)) (place * 8 ^ k) + x) % 2 ^ 64) (s.sum_is leaves most sums)
          ∙ sym (sum_cut leaves (place / 8 * (8 ^ k * 8)) (place * 8 ^ k) end (parent_first place (8 ^ k)) s.low)
          ∙ ap (λ w. sum_between leaves (place / 8 * w) end) (sym (eightfold k));
    }

pub sums_last : (rows : List (List ℕ)) (end k place sum : ℕ) → Summing rows end k place sum → HaveRoom end rows → length rows ≤ k → (leaves : List ℕ) → end ≤ length leaves → AreSums leaves rows → sum ≡ sum_between leaves 0 end
sums_last rows end k place sum s room most leaves few sums =
    let wide : 8 ^ length rows ≤ 8 ^ k = wider most in
    let none : place ≡ 0 = elim (cases_eq place 0) [
      | inl is ↦ is
      | inr some ↦ absurd (let far : 1 * 8 ^ k ≤ place * 8 ^ k = mul-le-mul_right (8 ^ k) (let one : 1 ≤ place = omega (arith, some) in one) in omega (arith, far, s.low, room.high, wide))
    ] in
    let zero : 0 * 8 ^ k ≡ 0 = omega arith in
    s.sum_is leaves few sums ∙ ap (λ p. sum_between leaves p end) (ap (λ p. p * 8 ^ k) none ∙ zero)

-- a place that a row has
pub place_inside : (rows : List (List ℕ)) (end k place : ℕ) → HaveRoom end rows → place * 8 ^ k ≤ end → k < length rows → place < length (row_of rows k)
place_inside rows end k place room low here = let wide = room.group k place here low in omega (arith, wide)

-- rows with the same numbers as others are sums of the same leaves; rows that are added have zeros
pub sums_same : (leaves : List ℕ) (room : ℕ) (old new : List (List ℕ)) → HaveRoom room old → length leaves ≤ room → ((l m : ℕ) → l < length new → get_or (row_of new l) m 0 ≡ get_or (row_of old l) m 0) → AreSums leaves old → AreSums leaves new
sums_same leaves room old new have few same sums = record {
  before = λ l m there under.
      same l m there
      ∙ elim (cases_lt l (length old)) [
        | inl here ↦ sums.before l m here under
        | inr past ↦
            let wide : 8 ^ length old ≤ 8 ^ l = wider past in
            let none : m ≡ 0 = elim (cases_eq m 0) [
              | inl is ↦ is
              | inr some ↦ absurd (let far : 1 * 8 ^ l ≤ m * 8 ^ l = mul-le-mul_right (8 ^ l) (let one : 1 ≤ m = omega (arith, some) in one) in omega (arith, far, under, few, have.high, wide))
            ] in
            let zero : 0 * (8 ^ l * 8) ≡ 0 = omega arith in
            let zero_too : 0 * 8 ^ l ≡ 0 = omega arith in
            let none_too : m / 8 ≡ 0 = omega (arith, none) in
            let first : m / 8 * (8 ^ l * 8) ≡ 0 = ap (λ p. p * (8 ^ l * 8)) none_too ∙ zero in
            let last : m * 8 ^ l ≡ 0 = ap (λ p. p * 8 ^ l) none ∙ zero_too in
            ap (λ r. get_or r m 0) (get_or_past old l [] past)
            ∙ get_or_past [] m 0 (omega arith)
            ∙ sym (sum_none leaves 0)
            ∙ sym (ap (λ p. sum_between leaves p (m * 8 ^ l)) first ∙ ap (sum_between leaves 0) last)
      ];
}

-- a loop that adds to rows has come to row k
pub record Adding (leaf more : ℕ) (old rows : List (List ℕ)) (k place : ℕ) : Type 0 where
  pub low : place * 8 ^ k ≤ leaf
  pub high : leaf < place * 8 ^ k + 8 ^ k
  pub count : length rows ≡ length old
  pub done : (l : ℕ) → l < k → l < length old → IsAddedIn l leaf more (row_of old l) (row_of rows l)
  pub left : (l : ℕ) → k ≤ l → row_of rows l ≡ row_of old l

pub adds_on : (leaf more : ℕ) (old rows : List (List ℕ)) (k place : ℕ) (row new : List ℕ) → Adding leaf more old rows k place → k < length rows → row_of rows k ≡ row → IsAdded place more row new → Adding leaf more old (set rows k new) (k + 1) (place / 8)
adds_on leaf more old rows k place row new a here row_is added =
    let over = under_parent place (8 ^ k) leaf a.low a.high in
    let was : row ≡ row_of old k = sym row_is ∙ a.left k (omega arith) in
    record {
      low = subst (λ w. place / 8 * w ≤ leaf) (sym (eightfold k)) over.0;
      high = subst (λ w. leaf < place / 8 * w + w) (sym (eightfold k)) over.1;
      count = length-set rows k new ∙ a.count;
      done = λ l less there.
          elim (cases_eq l k) [
            | inl same ↦
                let P : ℕ → Type 0 = λ i. IsAddedIn i leaf more (row_of old i) (row_of (set rows k new) i) in
                subst P (sym same) record {
                  place = place;
                  low = a.low;
                  high = a.high;
                  added = subst (λ r. IsAdded place more r (row_of (set rows k new) k)) was (subst (IsAdded place more row) (sym (get_or-set_same rows k new [] here)) added);
                }
            | inr other ↦ subst (IsAddedIn l leaf more (row_of old l)) (sym (get_or-set_other rows k l new [] other)) (a.done l (omega (arith, less, other)) there)
          ];
      left = λ l up. get_or-set_other rows k l new [] (λ same. omega (arith, up, same)) ∙ a.left l (omega (arith, up));
    }

-- a row, read by its number among the rows
pub row_read : {X : Type 0} (f : X → List ℕ) (xs : List X) (k : ℕ) (v : X) → k < length xs → v ≡ get_or xs k v → row_of (map f xs) k ≡ f v
row_read f xs k v here is = get_or-map f xs k v [] here ∙ ap f (sym is)

-- fewer leaves are kept
pub rows_cut : (room capacity count : ℕ) (leaves : List ℕ) (rows : List (List ℕ)) → AreKept room capacity leaves rows → count ≤ length leaves → AreKept room capacity (take count leaves) rows
rows_cut room capacity count leaves rows kept most = record {
  sums = sums_front count leaves rows most kept.sums;
  rows_room = kept.rows_room;
  few = omega (arith, length-take count leaves, most, kept.few);
  leaves_room = kept.leaves_room;
}

-- another sum in the place of a leaf's
pub rows_set : (room capacity leaf s was : ℕ) (leaves : List ℕ) (rows new : List (List ℕ)) → AreKept room capacity leaves rows → leaf < length leaves → was < 2 ^ 64 → was ≡ get_or leaves leaf 0 → AreAdded leaf ((s + (2 ^ 64 - was)) % 2 ^ 64) rows new → AreKept room capacity (set leaves leaf s) new
rows_set room capacity leaf s was leaves rows new kept inside small is added =
    let more = (s + (2 ^ 64 - was)) % 2 ^ 64 in
    record {
      sums = rows_written leaves rows new leaf s more inside (subst (λ k. k < 2 ^ 64) is small) (ap (λ k. (s + (2 ^ 64 - k)) % 2 ^ 64) is) kept.sums added;
      rows_room = room_kept room rows new (added_long leaf more rows new added) kept.rows_room;
      few = omega (arith, length-set leaves leaf s, kept.few);
      leaves_room = kept.leaves_room;
    }
