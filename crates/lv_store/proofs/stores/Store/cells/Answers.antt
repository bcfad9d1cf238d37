-- Proof of `Store::cells`: the elements of a block, all of whose indices are below the size.
use Rattle.std.proofs.Common.{◌≡◌, ◌*◌, ℕ, Some, ap, get_or, map, pos, subst, sym, take, drop, arith, ◌∙◌}
use Rattle.lv_store.specs.Inner.{IsStore}
use Rattle.lv_store.specs.State.{indices_of, written, written_by}
use Rattle.lv_store.proofs.Blocks.{part_is}
use Rattle.lv_store.proofs.stores.Store.cells.Goals as goal
use Rattle.lv_store.proofs.stores.Store.cells.Goals.{After-block-cells}

-- the store is as it must be
sound : (c : After-block-cells) → IsStore c.args.self.now
sound c = subst IsStore c.self.view_is c.self.invariant

-- what is in the cells of the block is read
block_is : (c : After-block-cells) → c.block-cells.result ≡ map (λ i. get_or c.args.self.now.values i (pos 0)) (indices_of c.args.block)
block_is c =
    c.block-cells.ensures
    ∙ ap (λ s. take 8 (drop (8 * c.args.block) s.values)) c.self.view_is
    ∙ part_is c.args.self.now.values (8 * c.args.block) 8 (pos 0) (omega (arith, (sound c).size, (sound c).values))

pub returns-in-Some : goal.returns-in-Some
returns-in-Some c =
    let at = (goal.at.returns-in-Some c).After-block-cells in
    let pending = ap (λ s. s.descriptor.pending) (sym c.self.view_is) ∙ c.in-Some.is in
    let first = λ (i : ℕ). written (Some c.in-Some.writes.first) i (get_or c.args.self.now.values i (pos 0)) in
    c.put_among-in-Some.ensures first (c.put_among.ensures (λ (i : ℕ). get_or c.args.self.now.values i (pos 0)) (block_is at))
    ∙ ap (λ p. map (λ i. written_by p i (get_or c.args.self.now.values i (pos 0))) (indices_of c.args.block)) (sym pending)
