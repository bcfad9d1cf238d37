-- Proof of `make_push`: makes a push that the verdict allows.
use Rattle.std.proofs.Common.{◌+◌, ◌≤◌, ap, ◌∙◌, arith}
use Rattle.std.specs.Int.{w64}
use Rattle.std.proofs.lemmas.Int.{to_z-of_z}
use Rattle.lv_geometry.specs.Cells.{capacity_of}
use Rattle.lv_geometry.proofs.Capacities.{capacity_of_most}
use Rattle.lv_edits.specs.declared.edit.Edit.TheVariants.{Push}
use Rattle.lv_edits.proofs.HoldsLaws.{Answers-no_memory, HoldsReplay-alike, edits_left, push_fits, push_held, size_held}
use Rattle.lv_edits.proofs.making.make_push.Goals as goal
use Rattle.lv_edits.proofs.making.make_push.Goals.{After-size-index}

-- it has room within the limits, and these are allowed
fits : (c : After-size-index) → (c.size-index.result + 1 ≤ capacity_of c.args.store.now.limits.buckets) × (c.size-index.result + 1 ≤ 1048568)
fits c =
    let within = push_fits _ _ c.args.x c.requires.held c.requires.free in
    let allowed = c.requires.held.sound.allowed in
    (omega (arith, c.size-index.ensures.value, within), omega (arith, c.size-index.ensures.value, within, capacity_of_most c.args.store.now.limits.buckets allowed.few_buckets))

pub overflow_add-index : goal.overflow_add-index
overflow_add-index c = omega (arith, (fits (goal.at.overflow_add-index c).After-size-index).1)

pub make_room-requires-clause-few : goal.make_room-requires-clause-few
make_room-requires-clause-few c = (fits (goal.at.make_room-requires-clause-few c).After-size-index).0

pub returns-in_err-make_room-clause-held : goal.returns-in_err-make_room-clause-held
returns-in_err-make_room-clause-held c =
    let e = c.in_err-make_room.ensures in
    rw e.journal (HoldsReplay-alike _ _ _ c.requires.held e.alike e.closed e.settled e.sound)

pub returns-in_err-make_room-clause-answer : goal.returns-in_err-make_room-clause-answer
returns-in_err-make_room-clause-answer c =
    let e = c.in_err-make_room.ensures in
    rw e.journal (Answers-no_memory _ _ _ (Push c.args.x) _ _ c.requires.free e.alike e.err c.from_residual.ensures.1)

pub overflow_add-index-2 : goal.overflow_add-index-2
overflow_add-index-2 c = omega (arith, (fits (goal.at.overflow_add-index-2 c).After-size-index).1)

pub announce-requires-clause-index : goal.announce-requires-clause-index
announce-requires-clause-index c = omega (arith, c.in_ok-make_room.ensures.enough)

pub announce-requires-clause-size : goal.announce-requires-clause-size
announce-requires-clause-size c = omega (arith, c.in_ok-make_room.ensures.enough)

pub announce-requires-clause-edit : goal.announce-requires-clause-edit
announce-requires-clause-edit c =
    edits_left _ _ _ (Push c.args.x) c.requires.held c.requires.free c.in_ok-make_room.ensures.alike

pub returns-clause-held : goal.returns-clause-held
returns-clause-held c =
    let e = c.in_ok-make_room.ensures in
    let same = to_z-of_z w64 c.args.x c.ranges.x in
    rw (c.announce.ensures.state, c.note.ensures.noted, same, e.journal)
    (push_held _ _ _ c.args.x _ c.size-index.ensures.value c.requires.held c.requires.free c.ranges.x e.alike e.settled e.buckets (rw (c.announce.ensures.state, same) at c.announce.ensures.sound))

pub returns-clause-answer : goal.returns-clause-answer
returns-clause-answer c =
    let e = c.in_ok-make_room.ensures in
    let held = c.requires.held in
    let same = to_z-of_z w64 c.args.x c.ranges.x in
    let edits = rw (e.journal, same) at c.note.ensures.noted in
    let number = c.edit.ensures.value ∙ ap (λ s. s.descriptor.edit) c.announce.ensures.state ∙ ap (λ n. n + 1) (e.alike.edit ∙ held.edit) in
    let place = c.size-index.ensures.value ∙ size_held _ _ held in
    record {
      verdict = c.requires.free;
      receipt_is = rw (number, place);
      journal = rw (c.announce.ensures.state, edits, e.alike.limits);
    }
