-- Cells with another leaf.
use Rattle.std.proofs.Common.{◌≡◌, ◌⊎◌, ℕ, zero, suc, ◌+◌, ◌-◌, ◌*◌, ◌^◌, ◌<◌, ◌≤◌, List, [], ◌∷◌, ◌++◌, length, take, drop, slice_index_or, slice_set, sym, ap, ◌∙◌, subst, arith, inl, inr}
use Rattle.std.proofs.Math.Nat.{mul-le-mul_left}
use Rattle.std.proofs.Math.Pow.{pow_pos}
use Rattle.std.proofs.Math.Seq.{take-set-lt}
use Rattle.std.proofs.lemmas.List.{drop-set-add, get_or-set_other, get_or-set_same, length-set, set-get_or, set-set}
use Rattle.lv_bodies.specs.Body.{Operations}
use Rattle.lv_tree.specs.Folds.{AreFolds}
use Rattle.lv_tree.specs.Nodes.{IsRight, IsTree, IsTreeBut, WasTree}
use Rattle.lv_tree.specs.Parts.{joined_on, part_of, run_of}
use Rattle.lv_tree.proofs.Glue.{leaves_in_order}
use Rattle.lv_tree.proofs.InOrder.{can_right}
use Rattle.lv_tree.proofs.Nodes.{before_leaves}
use Rattle.lv_tree.proofs.Runs.{run_before_write, run_behind_write, run_cut, run_more}

-- fewer leaves
pub tree_within : {S : Type 0} (o : Operations S) (lo hi a b : ℕ) (cells : List S) → lo ≤ a → b ≤ hi → IsTree o lo hi cells → IsTree o a b cells
tree_within o lo hi a b cells low high tree = record { node = λ j p from to. tree.node j p (omega (arith, from, low)) (omega (arith, to, high)) }

-- a node that is not over a leaf isn't in its cell
apart : (lo hi at p j : ℕ) → hi ≤ 2 * lo → lo ≤ at → p * 2 ^ j + 2 ^ j ≤ hi → (at < p * 2 ^ j) ⊎ (p * 2 ^ j + 2 ^ j ≤ at) → p ≡ at → ⊥
apart lo hi at p zero octave low to (inl front) is = let one : p * 2 ^ 0 ≡ p = omega arith in omega (arith, front, is, one)
apart lo hi at p (suc j) octave low to (inl front) is =
    let up : suc j ≡ j + 1 = omega arith in
    let before = before_leaves lo hi p j octave (subst (λ k. p * 2 ^ k + 2 ^ k ≤ hi) up to) in
    omega (arith, before, low, is)
apart lo hi at p j octave low to (inr behind) is =
    let far : p * 1 ≤ p * 2 ^ j = mul-le-mul_left p (pow_pos j) in
    let some : 0 < 2 ^ j = pow_pos j in
    omega (arith, far, some, behind, is)

module _ {S : Type 0} (o : Operations S) (cells : List S) (lo at : ℕ) (s : S) where
  -- a part without the leaf is the same
  pub part_beside : (a b : ℕ) → (at < a) ⊎ (b ≤ at) → a ≤ b → part_of o (slice_set cells at s) a b ≡ part_of o cells a b
  part_beside a b (inl front) order = ap (joined_on o o.identity) (run_behind_write cells at a (b - a) s front)
  part_beside a b (inr behind) order = ap (joined_on o o.identity) (run_before_write cells at a (b - a) s (omega (arith, behind, order)))

  right_beside : (hi j p : ℕ) → hi ≤ 2 * lo → lo ≤ at → p * 2 ^ j + 2 ^ j ≤ hi → (at < p * 2 ^ j) ⊎ (p * 2 ^ j + 2 ^ j ≤ at) → IsRight o cells j p → IsRight o (slice_set cells at s) j p
  right_beside hi j p octave low to which right =
      get_or-set_other cells at p s o.identity (apart lo hi at p j octave low to which)
      ∙ right
      ∙ sym (part_beside (p * 2 ^ j) (p * 2 ^ j + 2 ^ j) which (omega arith))

  -- a leaf more
  pub but_pushed : IsTree o lo at cells → at + 1 ≤ 2 * lo → lo ≤ at → IsTreeBut o lo (at + 1) at 0 (slice_set cells at s)
  but_pushed tree octave low = record {
    node = λ j p from to which.
        let some : 0 < 2 ^ j = pow_pos j in
        elim which [
          | inl less ↦ absurd (omega (arith, less))
          | inr beside ↦ right_beside (at + 1) j p octave low to beside (tree.node j p from (elim beside [
            | inl front ↦ absurd (omega (arith, front, some, to))
            | inr behind ↦ behind
          ]))
        ];
  }

  -- another in the place of one
  pub but_written : (hi : ℕ) → IsTree o lo hi cells → hi ≤ 2 * lo → lo ≤ at → IsTreeBut o lo hi at 0 (slice_set cells at s)
  but_written hi tree octave low = record {
    node = λ j p from to which.
        elim which [
          | inl less ↦ absurd (omega (arith, less))
          | inr beside ↦ right_beside hi j p octave low to beside (tree.node j p from to)
        ];
  }

  pub leaves_pushed : lo ≤ at → at < length cells → run_of (slice_set cells at s) lo (at + 1 - lo) ≡ run_of cells lo (at - lo) ++ s ∷ []
  leaves_pushed low inside =
      let one : (at + 1) - at ≡ 0 + 1 = omega arith in
      let here : at < length (slice_set cells at s) = omega (arith, length-set cells at s, inside) in
      run_cut (slice_set cells at s) lo at (at + 1) low (omega arith)
      ∙ ap (λ l. l ++ run_of (slice_set cells at s) at ((at + 1) - at)) (run_before_write cells at lo (at - lo) s (omega (arith, low)))
      ∙ ap (λ l. run_of cells lo (at - lo) ++ l) (ap (run_of (slice_set cells at s) at) one ∙ run_more (slice_set cells at s) at 0 s here ∙ ap (λ x. x ∷ []) (get_or-set_same cells at s s inside))

  pub leaves_written : (hi : ℕ) → lo ≤ at → at < hi → run_of (slice_set cells at s) lo (hi - lo) ≡ slice_set (run_of cells lo (hi - lo)) (at - lo) s
  leaves_written hi low high =
      let place : at ≡ lo + (at - lo) = omega (arith, low) in
      ap (λ k. run_of (slice_set cells k s) lo (hi - lo)) place
      ∙ ap (take (hi - lo)) (drop-set-add lo cells (at - lo) s)
      ∙ take-set-lt (hi - lo) (drop lo cells) (at - lo) s (omega (arith, low, high))

-- with what it was before, the tree is what it was
pub was_written : {S : Type 0} (o : Operations S) (cells : List S) (lo hi at : ℕ) (s : S) → IsTree o lo hi cells → AreFolds o (run_of cells lo (hi - lo)) → WasTree o lo hi at (slice_set cells at s)
was_written o cells lo hi at s tree folds =
    let was = slice_index_or cells at o.identity in
    let back : slice_set (slice_set cells at s) at was ≡ cells = set-set cells at s was ∙ set-get_or cells at o.identity in
    record {
      other = was;
      tree = subst (IsTree o lo hi) (sym back) tree;
      folds = subst (λ l. AreFolds o (run_of l lo (hi - lo))) (sym back) folds;
    }

-- leaves are the same if nothing from `lo` on has changed
pub leaves_same : {S : Type 0} (xs ys : List S) (lo count : ℕ) → drop lo xs ≡ drop lo ys → run_of xs lo count ≡ run_of ys lo count
leaves_same xs ys lo count same = ap (take count) same

-- any run of leaves that are folds
pub folds_part : {S : Type 0} (o : Operations S) (cells : List S) (lo hi : ℕ) → AreFolds o (run_of cells lo (hi - lo)) → (a b : ℕ) → lo ≤ a → b ≤ hi → AreFolds o (run_of cells a (b - a))
folds_part o cells lo hi folds a b low high =
    let h = leaves_in_order o cells lo hi folds a b low high in
    record { lists = h.lists; of_lists = record { sums_are = h.sums_are; can = can_right h.front _ h.can } }

-- the leaves of a list come before others
pub tree_at : {S : Type 0} (o : Operations S) (cells : List S) (lo at : ℕ) → IsTree o lo at cells → at + 1 ≤ 2 * lo → IsTreeBut o lo (at + 1) at 0 cells
tree_at o cells lo at tree octave = record {
  node = λ j p from to which.
      let some : 0 < 2 ^ j = pow_pos j in
      elim which [
        | inl less ↦ absurd (omega (arith, less))
        | inr beside ↦ tree.node j p from (elim beside [
          | inl front ↦ absurd (omega (arith, front, some, to))
          | inr behind ↦ behind
        ])
      ];
}

pub tree_none : {S : Type 0} (o : Operations S) (cells : List S) (lo : ℕ) → IsTree o lo lo cells
tree_none o cells lo = record { node = λ j p from to. absurd (let some : 0 < 2 ^ j = pow_pos j in omega (arith, from, to, some)) }
