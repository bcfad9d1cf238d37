-- Proof of `make_reserve`: makes a reserve that the verdict allows.
use Rattle.std.proofs.Common.{◌+◌, ap, ◌∙◌}
use Rattle.lv_edits.specs.declared.edit.Edit.TheVariants.{Reserve}
use Rattle.lv_edits.specs.Capacity.{capacity_after}
use Rattle.lv_edits.proofs.HoldsLaws.{Answers-no_memory, HoldsReplay-alike, capacity_held, edits_left, reserve_fits, reserve_held}
use Rattle.lv_edits.proofs.making.make_reserve.Goals as goal

pub make_room-requires-clause-few : goal.make_room-requires-clause-few
make_room-requires-clause-few c = reserve_fits _ _ c.args.cells c.requires.held c.requires.free

pub returns-in_err-make_room-clause-held : goal.returns-in_err-make_room-clause-held
returns-in_err-make_room-clause-held c =
    let e = c.in_err-make_room.ensures in
    rw e.journal (HoldsReplay-alike _ _ _ c.requires.held e.alike e.closed e.settled e.sound)

pub returns-in_err-make_room-clause-answer : goal.returns-in_err-make_room-clause-answer
returns-in_err-make_room-clause-answer c =
    let e = c.in_err-make_room.ensures in
    rw e.journal (Answers-no_memory _ _ _ (Reserve c.args.cells) _ _ c.requires.free e.alike e.err c.from_residual.ensures.1)

pub announce-requires-clause-edit : goal.announce-requires-clause-edit
announce-requires-clause-edit c =
    edits_left _ _ _ (Reserve c.args.cells) c.requires.held c.requires.free c.in_ok-make_room.ensures.alike

pub returns-clause-held : goal.returns-clause-held
returns-clause-held c =
    let e = c.in_ok-make_room.ensures in
    rw (c.announce.ensures.state, c.note.ensures.noted, e.journal)
    (reserve_held _ _ _ c.args.cells _ c.size-size.ensures.value c.requires.held c.requires.free e.alike e.settled e.buckets (rw c.announce.ensures.state at c.announce.ensures.sound))

pub returns-clause-answer : goal.returns-clause-answer
returns-clause-answer c =
    let e = c.in_ok-make_room.ensures in
    let held = c.requires.held in
    let edits = rw e.journal at c.note.ensures.noted in
    let number = c.edit.ensures.value ∙ ap (λ s. s.descriptor.edit) c.announce.ensures.state ∙ ap (λ n. n + 1) (e.alike.edit ∙ held.edit) in
    let cells = c.capacity.ensures.value ∙ rw c.buckets.ensures.value (capacity_held _ _ (returns-clause-held c)) ∙ ap capacity_after edits in
    record {
      verdict = c.requires.free;
      receipt_is = rw (number, cells);
      journal = rw (c.announce.ensures.state, edits, e.alike.limits);
    }
