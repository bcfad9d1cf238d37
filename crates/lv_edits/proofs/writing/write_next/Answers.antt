-- Proof of `write_next`: makes a write that the verdict allows. The journal has room for it.
use Rattle.std.proofs.Common.{◌++◌, ◌∷◌, [], ap, arith}
use Rattle.std.specs.Int.{w64}
use Rattle.std.proofs.lemmas.Int.{to_z-of_z}
use Rattle.lv_edits.specs.Inner.{noted}
use Rattle.lv_edits.specs.declared.edit.Edit.TheVariants.{Write}
use Rattle.lv_edits.proofs.HoldsWrites.{AllowsWrite, write_allowed, write_held_settled}
use Rattle.lv_edits.proofs.writing.write_next.Goals as goal
use Rattle.lv_edits.proofs.writing.write_next.Goals.{After-settle}

-- what the settled store allows
allowed : (c : After-settle) → AllowsWrite c.args.store.now c.settle.new.self c.args.index
allowed c = write_allowed c.args.store.now c.settle.new.self (noted c.args.journal.now) c.args.index c.args.value c.requires.held c.requires.free c.settle.ensures.state

pub announce-requires-clause-settled : goal.announce-requires-clause-settled
announce-requires-clause-settled c = (allowed (goal.at.announce-requires-clause-settled c).After-settle).settled

pub announce-requires-clause-edit : goal.announce-requires-clause-edit
announce-requires-clause-edit c = (allowed (goal.at.announce-requires-clause-edit c).After-settle).edit

pub announce-requires-clause-index : goal.announce-requires-clause-index
announce-requires-clause-index c = (allowed (goal.at.announce-requires-clause-index c).After-settle).index

pub announce-requires-clause-size : goal.announce-requires-clause-size
announce-requires-clause-size c =
    let within = (allowed (goal.at.announce-requires-clause-size c).After-settle).size in
    omega (arith, within, c.size-size.ensures.value)

pub returns-clause-made : goal.returns-clause-made
returns-clause-made c =
    let same = to_z-of_z w64 c.args.value c.ranges.value in
    rw (c.announce.ensures.state, c.note.ensures.noted, same) (ap (λ l. record { limits = l; journal = (noted c.args.journal.now) ++ Write c.args.index c.args.value ∷ [] }) (allowed (goal.at.returns-clause-made c).After-settle).limits)

pub returns-clause-held : goal.returns-clause-held
returns-clause-held c =
    let same = to_z-of_z w64 c.args.value c.ranges.value in
    rw (c.announce.ensures.state, c.note.ensures.noted, same)
    (write_held_settled c.args.store.now c.settle.new.self _ c.args.index c.args.value _ c.requires.held c.requires.free c.settle.ensures.state c.size-size.ensures.value c.ranges.value (rw (c.announce.ensures.state, same) at c.announce.ensures.sound))
