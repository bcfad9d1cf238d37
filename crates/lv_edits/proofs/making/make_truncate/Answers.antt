-- Proof of `make_truncate`: makes a truncate that the verdict allows.
use Rattle.std.proofs.Common.{◌+◌, ap, ◌∙◌, arith}
use Rattle.lv_edits.specs.declared.edit.Edit.TheVariants.{Truncate}
use Rattle.lv_edits.proofs.HoldsLaws.{Answers-no_memory, HoldsReplay-alike, edits_left, size_held, truncate_fits, truncate_held}
use Rattle.lv_edits.proofs.making.make_truncate.Goals as goal

pub returns-in_err-make_room-clause-held : goal.returns-in_err-make_room-clause-held
returns-in_err-make_room-clause-held c =
    let e = c.in_err-make_room.ensures in
    rw e.journal (HoldsReplay-alike _ _ _ c.requires.held e.alike e.closed e.settled e.sound)

pub returns-in_err-make_room-clause-answer : goal.returns-in_err-make_room-clause-answer
returns-in_err-make_room-clause-answer c =
    let e = c.in_err-make_room.ensures in
    rw e.journal (Answers-no_memory _ _ _ (Truncate c.args.count) _ _ c.requires.free e.alike e.err c.from_residual.ensures.1)

pub announce-requires-clause-size : goal.announce-requires-clause-size
announce-requires-clause-size c =
    let e = c.in_ok-make_room.ensures in
    omega (arith, truncate_fits _ _ c.args.count c.requires.held c.requires.free, e.alike.size, e.sound.size)

pub overflow_sub-result : goal.overflow_sub-result
overflow_sub-result c =
    omega (arith, truncate_fits _ _ c.args.count c.requires.held c.requires.free, c.size-size.ensures.value)

pub announce-requires-clause-edit : goal.announce-requires-clause-edit
announce-requires-clause-edit c =
    edits_left _ _ _ (Truncate c.args.count) c.requires.held c.requires.free c.in_ok-make_room.ensures.alike

pub returns-clause-held : goal.returns-clause-held
returns-clause-held c =
    let e = c.in_ok-make_room.ensures in
    rw (c.announce.ensures.state, c.note.ensures.noted, e.journal)
    (truncate_held _ _ _ c.args.count c.requires.held c.requires.free e.alike e.settled e.buckets (rw c.announce.ensures.state at c.announce.ensures.sound))

pub returns-clause-answer : goal.returns-clause-answer
returns-clause-answer c =
    let e = c.in_ok-make_room.ensures in
    let held = c.requires.held in
    let edits = rw e.journal at c.note.ensures.noted in
    let number = c.edit.ensures.value ∙ ap (λ s. s.descriptor.edit) c.announce.ensures.state ∙ ap (λ n. n + 1) (e.alike.edit ∙ held.edit) in
    let size = c.size-size.ensures.value ∙ size_held _ _ held in
    record {
      verdict = c.requires.free;
      receipt_is = rw (number, size);
      journal = rw (c.announce.ensures.state, edits, e.alike.limits);
    }
