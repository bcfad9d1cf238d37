-- Proof of `Edits::block`: the elements of a block, all of whose indices are below the size.
use Rattle.std.proofs.Common.{◌≡◌, ◌*◌, take, drop, ap, ◌∙◌, arith}
use Rattle.lv_store.specs.State.{elements_of}
use Rattle.lv_store.proofs.ElementsLaws.{block_of_elements}
use Rattle.lv_edits.proofs.HoldsLaws.{size_held}
use Rattle.lv_edits.proofs.edits.Edits.block.Goals as goal

pub cells-requires : goal.cells-requires
cells-requires c =
    let within = rw (← c.self.view_is) at c.requires in
    omega (arith, within, size_held _ _ c.self.invariant)

pub returns-clause-value : goal.returns-clause-value
returns-clause-value c =
    let held = c.self.invariant in
    let within = rw (← c.self.view_is) at c.requires in
    let place : 8 * c.args.block ≡ c.args.block * 8 = omega arith in
    rw (← c.self.view_is, ← held.items)
    (c.cells.ensures ∙ block_of_elements c.self.inside.store c.args.block (omega (arith, within, size_held _ _ held)) ∙ ap (λ n. take 8 (drop n (elements_of c.self.inside.store))) place)

pub returns-clause-limits : goal.returns-clause-limits
returns-clause-limits c = rw (← c.self.view_is) c.self.invariant.kept
