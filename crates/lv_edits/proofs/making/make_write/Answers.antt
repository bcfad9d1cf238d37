-- Proof of `make_write`: makes a write that the verdict allows.
use Rattle.std.proofs.Common.{◌+◌, pos, ap, ◌∙◌, arith}
use Rattle.std.specs.Int.{w64}
use Rattle.std.proofs.lemmas.Int.{to_z-of_z}
use Rattle.lv_edits.specs.declared.edit.Edit.TheVariants.{Write}
use Rattle.lv_edits.proofs.HoldsLaws.{Answers-no_memory, HoldsReplay-alike, edits_left, fits_held, read_held, write_fits, write_held}
use Rattle.lv_edits.proofs.making.make_write.Goals as goal

pub read-before-requires : goal.read-before-requires
read-before-requires c = omega (arith, write_fits _ _ c.args.index c.args.value c.requires.held c.requires.free, c.requires.held.sound.size)

pub returns-in_err-make_room-clause-held : goal.returns-in_err-make_room-clause-held
returns-in_err-make_room-clause-held c =
    let e = c.in_err-make_room.ensures in
    rw e.journal (HoldsReplay-alike _ _ _ c.requires.held e.alike e.closed e.settled e.sound)

pub returns-in_err-make_room-clause-answer : goal.returns-in_err-make_room-clause-answer
returns-in_err-make_room-clause-answer c =
    let e = c.in_err-make_room.ensures in
    rw e.journal (Answers-no_memory _ _ _ (Write c.args.index c.args.value) _ _ c.requires.free e.alike e.err c.from_residual.ensures.1)

pub announce-requires-clause-index : goal.announce-requires-clause-index
announce-requires-clause-index c =
    let e = c.in_ok-make_room.ensures in
    omega (arith, write_fits _ _ c.args.index c.args.value c.requires.held c.requires.free, e.alike.size, e.sound.size)

pub announce-requires-clause-edit : goal.announce-requires-clause-edit
announce-requires-clause-edit c =
    edits_left _ _ _ (Write c.args.index c.args.value) c.requires.held c.requires.free c.in_ok-make_room.ensures.alike

pub returns-clause-held : goal.returns-clause-held
returns-clause-held c =
    let e = c.in_ok-make_room.ensures in
    let same = to_z-of_z w64 c.args.value c.ranges.value in
    rw (c.announce.ensures.state, c.note.ensures.noted, same, e.journal)
    (write_held _ _ _ c.args.index c.args.value _ c.size-size.ensures.value c.requires.held c.requires.free c.ranges.value e.alike e.settled e.buckets (rw (c.announce.ensures.state, same) at c.announce.ensures.sound))

pub returns-clause-answer : goal.returns-clause-answer
returns-clause-answer c =
    let e = c.in_ok-make_room.ensures in
    let held = c.requires.held in
    let within = write_fits _ _ c.args.index c.args.value c.requires.held c.requires.free in
    let same = to_z-of_z w64 c.args.value c.ranges.value in
    let fits = to_z-of_z w64 c.read-before.result (rw c.read-before.ensures (fits_held _ _ _ held within)) in
    let value = fits ∙ c.read-before.ensures ∙ read_held _ _ _ (pos 0) held within in
    let edits = rw (e.journal, same) at c.note.ensures.noted in
    let number = c.edit.ensures.value ∙ ap (λ s. s.descriptor.edit) c.announce.ensures.state ∙ ap (λ n. n + 1) (e.alike.edit ∙ held.edit) in
    record {
      verdict = c.requires.free;
      receipt_is = rw (number, value);
      journal = rw (c.announce.ensures.state, edits, e.alike.limits);
    }
