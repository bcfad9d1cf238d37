-- A walk over cells that no fresh node has: one cell, or the eight of a block.
use Rattle.std.proofs.Common.{◌≡◌, ◌⊎◌, ℕ, ◌+◌, ◌%◌, ◌^◌, ◌<◌, ◌≤◌, zero, suc, Bool, refl, inl, inr, subst, sym, arith}
use Rattle.lv_geometry.specs.declared.nodes.Node.{Node}
use Rattle.lv_reduce.specs.Pieces.{Fits, NoneFresh}
use Rattle.lv_reduce.proofs.NodeLaws.{cell_fits, lesser_aligned, lesser_fits}
use Rattle.lv_reduce.proofs.WalkLaws.{IsWalk, walk_cell}

-- if a level above 0 fits, a block does
pub block_fits : (at hi level : ℕ) → 1 ≤ level → Fits at hi level → (at % 8 ≡ 0) × (at + 8 ≤ hi)
block_fits at hi level some fits =
    let block = lesser_fits at hi 1 level some fits in
    (omega (arith, block.begins), omega (arith, block.ends))

module _ (fresh : Node → Bool) (lo hi at cells summaries : ℕ) (walk : IsWalk fresh lo hi at cells summaries) (none : NoneFresh fresh at hi 0) where
  -- no fresh node begins at an index of the block
  none_within : at % 8 ≡ 0 → (k : ℕ) → k < 8 → NoneFresh fresh (at + k) hi 0
  none_within begins zero few = let here : at ≡ at + 0 = omega arith in subst (λ i. NoneFresh fresh i hi 0) here none
  none_within begins (suc k) few = λ above more high fits.
      let narrow : (at + suc k) % 8 ^ 1 ≡ 0 = lesser_aligned (at + suc k) 1 above (omega arith) fits.begins in
      absurd (omega arith)

  -- so its cells are read, one after the other
  walk_cells : at % 8 ≡ 0 → (k : ℕ) → k ≤ 8 → at + k ≤ hi → IsWalk fresh lo hi (at + k) (cells + k) summaries
  walk_cells begins zero few inside =
      let here : at ≡ at + 0 = omega arith in
      let read : cells ≡ cells + 0 = omega arith in
      subst (λ i. IsWalk fresh lo hi i (cells + 0) summaries) here (subst (λ n. IsWalk fresh lo hi at n summaries) read walk)
  walk_cells begins (suc k) few inside =
      let before = walk_cells begins k (omega arith) (omega arith) in
      let small : at + k < hi = omega arith in
      let here : at + k + 1 ≡ at + suc k = omega arith in
      let read : cells + k + 1 ≡ cells + suc k = omega arith in
      let longer = walk_cell fresh lo hi (at + k) (cells + k) summaries 0 before (omega arith) (cell_fits (at + k) hi small) (none_within begins k (omega arith)) refl small in
      subst (λ i. IsWalk fresh lo hi i (cells + suc k) summaries) here (subst (λ n. IsWalk fresh lo hi (at + k + 1) n summaries) read longer)

  -- the cell, or the cells of the block that begins there, are read
  pub walk_unread : (n : ℕ) → (n ≡ 1) ⊎ ((n ≡ 8) × (at % 8 ≡ 0)) → at + n ≤ hi → IsWalk fresh lo hi (at + n) (cells + n) summaries
  walk_unread n (inl one) inside =
      let small : at < hi = omega arith in
      subst (λ m. IsWalk fresh lo hi (at + m) (cells + m) summaries) (sym one)
      (walk_cell fresh lo hi at cells summaries 0 walk (omega arith) (cell_fits at hi small) none refl small)
  walk_unread n (inr block) inside = walk_cells block.1 n (omega (arith, block.0)) inside
