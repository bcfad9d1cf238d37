-- The eight children of a node.
use Rattle.std.proofs.Common.{◌≡◌, ℕ, ◌+◌, ◌-◌, ◌*◌, ◌^◌, ◌<◌, ◌≤◌, Bool, true, false, ◌&&◌, None, refl, sym, ap, ◌∙◌, inl, inr, arith}
use Rattle.std.proofs.Math.Nat.{mul-le-mul_left}
use Rattle.std.proofs.lemmas.Bool.{and_from, and_left, and_right, cases_Bool, leb-true}
use Rattle.std.proofs.lemmas.Grind.{pow_more}
use Rattle.lv_geometry.specs.declared.nodes.Node.{Node}
use Rattle.lv_geometry.specs.Nodes.{child, is_below}
use Rattle.std.proofs.lemmas.Option.{none-some}
use Rattle.lv_geometry.proofs.NodeLaws.{some_width}
use Rattle.lv_summary.specs.Table.{Table, entry_in, fresh_in}
use Rattle.lv_summary.proofs.TableLaws.{entry_of_fresh, fresh_of_entry}
use Rattle.lv_refresh.specs.Inner.{HasEntries, children_fresh_in, four_fresh_in}

-- the numbers of the children of a node above level 1 are below the size that the node is below
pub children_fit : (n : Node) (size : ℕ) → is_below n size ≡ true → 1 < n.level → 8 * n.number + 7 < size
children_fit n size below above =
    let next : n.level - 1 + 1 ≡ n.level = omega arith in
    let some : 1 ≤ 8 ^ (n.level - 1) = some_width (n.level - 1) in
    let wide : 8 ≤ 8 ^ n.level = omega (arith, ap (λ l. 8 ^ l) (sym next) ∙ pow_more 8 (n.level - 1)) in
    let most : (n.number + 1) * 8 ≤ (n.number + 1) * 8 ^ n.level = mul-le-mul_left (n.number + 1) wide in
    omega (arith, leb-true ((n.number + 1) * 8 ^ n.level) size below)

-- so the numbers of four of them are of 32 bits, if the size is
pub four_fit : (n : Node) (size first : ℕ) → is_below n size ≡ true → 1 < n.level → size < 2 ^ 32 → first ≤ 4
    → (8 * n.number + first < 2 ^ 32) × (8 * n.number + (first + 1) < 2 ^ 32) × (8 * n.number + (first + 2) < 2 ^ 32) × (8 * n.number + (first + 3) < 2 ^ 32)
four_fit n size first below above small few =
    let fit = children_fit n size below above in
    (omega (arith, fit), omega (arith, fit), omega (arith, fit), omega (arith, fit))

-- eight tests are four and four
eight_tests : (a b c d e f g h : Bool) → a && (b && (c && (d && (e && (f && (g && (h && true))))))) ≡ (a && b && c && d) && (e && f && g && h)
eight_tests false b c d e f g h = refl
eight_tests true false c d e f g h = refl
eight_tests true true false d e f g h = refl
eight_tests true true true false e f g h = refl
eight_tests true true true true false f g h = refl
eight_tests true true true true true false g h = refl
eight_tests true true true true true true false h = refl
eight_tests true true true true true true true false = refl
eight_tests true true true true true true true true = refl

module _ {S : Type 0} (t : Table S) (n : Node) where
  -- the eight children are fresh if the first four and the last four are
  pub children_fresh-fours : children_fresh_in t n ≡ (four_fresh_in t n 0 && four_fresh_in t n 4)
  children_fresh-fours =
      eight_tests (fresh_in t (child n 0)) (fresh_in t (child n 1)) (fresh_in t (child n 2)) (fresh_in t (child n 3)) (fresh_in t (child n 4)) (fresh_in t (child n 5)) (fresh_in t (child n 6)) (fresh_in t (child n 7))

  -- four children with summaries are fresh
  pub four_fresh-entries : (first : ℕ) (a b c d : S) → HasEntries t n first a b c d → four_fresh_in t n first ≡ true
  four_fresh-entries first a b c d has =
      and_from _ _
      (and_from _ _ (and_from _ _ (fresh_of_entry t (child n first) a (sym has.a_is)) (fresh_of_entry t (child n (first + 1)) b (sym has.b_is))) (fresh_of_entry t (child n (first + 2)) c (sym has.c_is)))
      (fresh_of_entry t (child n (first + 3)) d (sym has.d_is))

  -- a child without a summary is not fresh
  stale_child : (k : ℕ) → entry_in t (child n k) ≡ None → fresh_in t (child n k) ≡ false
  stale_child k none =
      elim (cases_Bool (fresh_in t (child n k))) [
        | inl fresh ↦ let entry = entry_of_fresh t (child n k) fresh in absurd (none-some entry.0 (sym none ∙ entry.1))
        | inr stale ↦ stale
      ]

  -- so not all four of them are, if one of them has none
  pub four_stale : (first : ℕ) → entry_in t (child n first) ≡ None → four_fresh_in t n first ≡ false
  four_stale first none = and_left _ _ (and_left _ _ (and_left _ _ (stale_child first none)))

  pub four_stale-1 : (first : ℕ) → entry_in t (child n (first + 1)) ≡ None → four_fresh_in t n first ≡ false
  four_stale-1 first none = and_left _ _ (and_left _ _ (and_right _ _ (stale_child (first + 1) none)))

  pub four_stale-2 : (first : ℕ) → entry_in t (child n (first + 2)) ≡ None → four_fresh_in t n first ≡ false
  four_stale-2 first none = and_left _ _ (and_right _ _ (stale_child (first + 2) none))

  pub four_stale-3 : (first : ℕ) → entry_in t (child n (first + 3)) ≡ None → four_fresh_in t n first ≡ false
  four_stale-3 first none = and_right _ _ (stale_child (first + 3) none)
