-- If a node over another summary has the value that it had, those above it are right already.
use Rattle.std.proofs.Common.{◌≡◌, ℕ, ◌+◌, ◌-◌, ◌*◌, ◌/◌, ◌^◌, ◌<◌, ◌≤◌, List, take, drop, slice_index_or, slice_set, sym, ap, ◌∙◌, subst, arith, inl, inr}
use Rattle.std.proofs.lemmas.Bool.{cases_lt}
use Rattle.std.proofs.lemmas.List.{get_or-set_other}
use Rattle.lv_bodies.specs.Body.{Operations}
use Rattle.lv_bodies.specs.Long.{LongLaws}
use Rattle.lv_tree.specs.Folds.{AreFolds}
use Rattle.lv_tree.specs.Nodes.{IsTree, WasTree}
use Rattle.lv_tree.specs.Parts.{part_of, run_of}
use Rattle.lv_tree.proofs.Glue.{meet}
use Rattle.lv_tree.proofs.Nodes.{Renewing, before_leaves, double, nested, parent, part_behind}
use Rattle.lv_tree.proofs.Written.{part_beside}

module _ {S : Type 0} (o : Operations S) (within : S → ℕ → Type 0) (laws : LongLaws o within) (lo hi at : ℕ) (octave : hi ≤ 2 * lo) (low : lo ≤ at) (before : List S) (folds : AreFolds o (run_of before lo (hi - lo))) (was : WasTree o lo hi at before) where
  -- the leaves as they were
  abbrev older : List S
  older = slice_set before at was.other

  -- a node that the loop has not come to is what the leaves came to before
  as_before : (cells : List S) (node width : ℕ) (r : Renewing o lo hi at before cells node width) (j p : ℕ) → r.level < j → lo ≤ p * 2 ^ j → p * 2 ^ j + 2 ^ j ≤ hi → slice_index_or cells p o.identity ≡ part_of o older (p * 2 ^ j) (p * 2 ^ j + 2 ^ j)
  as_before cells node width r j p up from to =
      let one : j ≡ (j - 1) + 1 = omega (arith, up) in
      let front : p < lo = before_leaves lo hi p (j - 1) octave (subst (λ k. p * 2 ^ k + 2 ^ k ≤ hi) one to) in
      let other : p ≡ at → ⊥ = λ here. omega (arith, here, front, low) in
      r.rest j p up from to ∙ sym (get_or-set_other before at p was.other o.identity other) ∙ was.tree.node j p from to

  -- the changed leaf is inside an inner part: if that comes to the same, a part around it comes to the same
  around_same : (cells : List S) → drop lo cells ≡ drop lo before → (a b c d : ℕ) → lo ≤ a → a ≤ b → b ≤ at → at < c → c ≤ d → d ≤ hi → part_of o older b c ≡ part_of o cells b c → part_of o older a d ≡ part_of o cells a d
  around_same cells same a b c d from left start end right to middle =
      let now = subst (λ l. AreFolds o (take (hi - lo) l)) (sym same) folds in
      let b_c : b ≤ c = omega (arith, start, end) in
      let b_d : b ≤ d = omega (arith, b_c, right) in
      let lo_b : lo ≤ b = omega (arith, from, left) in
      let lo_c : lo ≤ c = omega (arith, lo_b, b_c) in
      let outer = meet o within laws older lo hi was.folds a b d from left b_d to in
      let inner = meet o within laws older lo hi was.folds b c d lo_b b_c right to in
      let outer_now = meet o within laws cells lo hi now a b d from left b_d to in
      let inner_now = meet o within laws cells lo hi now b c d lo_b b_c right to in
      let front : part_of o older a b ≡ part_of o cells a b = part_beside o before lo at was.other a b (inr start) left ∙ part_behind o before cells lo a b (sym same) from in
      let back : part_of o older c d ≡ part_of o cells c d = part_beside o before lo at was.other c d (inl end) right ∙ part_behind o before cells lo c d (sym same) lo_c in
      sym outer.is
      ∙ ap (λ s. o.join s (part_of o older b d)) front
      ∙ ap (o.join (part_of o cells a b)) (sym inner.is ∙ ap (λ s. o.join s (part_of o older c d)) middle ∙ ap (o.join (part_of o cells b c)) back ∙ inner_now.is)
      ∙ outer_now.is

  pub stops : (cells : List S) (node width : ℕ) (s : S) → Renewing o lo hi at before cells node width → lo ≤ node / 2 * (width * 2) → node / 2 * (width * 2) + width * 2 ≤ hi → s ≡ part_of o cells (node / 2 * (width * 2)) (node / 2 * (width * 2) + width * 2) → slice_index_or cells (node / 2) o.identity ≡ s → IsTree o lo hi cells
  stops cells node width s r first last is stays = record {
    node = λ j p from to.
        elim (cases_lt j (r.level + 1)) [
          | inl less ↦ r.others.node j p from to (inl less)
          | inr above ↦ elim (cases_lt at (p * 2 ^ j)) [
            | inl behind ↦ r.others.node j p from to (inr (inl behind))
            | inr start ↦ elim (cases_lt at (p * 2 ^ j + 2 ^ j)) [
              | inr front ↦ r.others.node j p from to (inr (inr front))
              | inl end ↦ over j p above from to start end
            ]
          ]
        ];
  } where
    over : (j p : ℕ) → r.level + 1 ≤ j → lo ≤ p * 2 ^ j → p * 2 ^ j + 2 ^ j ≤ hi → p * 2 ^ j ≤ at → at < p * 2 ^ j + 2 ^ j → slice_index_or cells p o.identity ≡ part_of o cells (p * 2 ^ j) (p * 2 ^ j + 2 ^ j)
    over j p above from to start end =
        let m = node / 2 in
        let n = 2 ^ (r.level + 1) in
        let covers = parent node width at r.low r.high in
        let wide : width * 2 ≡ n = omega (arith, r.wide, double r.level) in
        let first_too : lo ≤ m * n = subst (λ k. lo ≤ m * k) wide first in
        let last_too : m * n + n ≤ hi = subst (λ k. m * k + k ≤ hi) wide last in
        let start_too : m * n ≤ at = subst (λ k. m * k ≤ at) wide covers.0 in
        let end_too : at < m * n + n = subst (λ k. at < m * k + k) wide covers.1 in
        let inside = nested j (r.level + 1) p m at above start end start_too end_too in
        let middle : part_of o older (m * n) (m * n + n) ≡ part_of o cells (m * n) (m * n + n) =
        sym (as_before cells node width r (r.level + 1) m (omega arith) first_too last_too) ∙ stays ∙ is ∙ ap (λ k. part_of o cells (m * k) (m * k + k)) wide in
        as_before cells node width r j p (omega (arith, above)) from to
        ∙ around_same cells r.same (p * 2 ^ j) (m * n) (m * n + n) (p * 2 ^ j + 2 ^ j) from inside.0 start_too end_too inside.1 to middle
