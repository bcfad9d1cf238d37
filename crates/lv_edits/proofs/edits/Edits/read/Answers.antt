-- Proof of `Edits::read`: the element at an index that is below the size.
use Rattle.std.proofs.Common.{◌<◌, arith, ◌∙◌}
use Rattle.std.specs.Int.{w64}
use Rattle.std.proofs.lemmas.Int.{to_z-of_z}
use Rattle.lv_edits.proofs.HoldsLaws.{fits_held, read_held, size_held}
use Rattle.lv_edits.proofs.edits.Edits.read.Goals as goal
use Rattle.lv_edits.proofs.edits.Edits.read.Goals.{After-read}

pub read-requires : goal.read-requires
read-requires c =
    let within = rw (← c.self.view_is) at c.requires in
    omega (arith, within, size_held _ _ c.self.invariant, c.self.invariant.sound.size)

-- the index is below the size
inside : (c : After-read) → c.args.i < c.self.inside.store.descriptor.size
inside c =
    let within = rw (← c.self.view_is) at c.requires in
    omega (arith, within, size_held _ _ c.self.invariant)

pub returns-clause-value : goal.returns-clause-value
returns-clause-value c =
    let held = c.self.invariant in
    rw (to_z-of_z w64 c.read.result (rw c.read.ensures (fits_held _ _ c.args.i held (inside c))), ← c.self.view_is)
    (c.read.ensures ∙ read_held _ _ c.args.i c.read.result held (inside c))

pub returns-clause-limits : goal.returns-clause-limits
returns-clause-limits c = rw (← c.self.view_is) c.self.invariant.kept
