-- Proof of `make_swap`: makes a swap that the verdict allows.
use Rattle.std.proofs.Common.{◌+◌, pos, ap, ◌∙◌, arith}
use Rattle.std.specs.Int.{w64}
use Rattle.std.proofs.lemmas.Int.{to_z-of_z}
use Rattle.lv_edits.specs.declared.edit.Edit.TheVariants.{Swap}
use Rattle.lv_edits.proofs.HoldsLaws.{Answers-no_memory, HoldsReplay-alike, edits_left, fits_held, read_held, second_apart, swap_fits, swap_held}
use Rattle.lv_edits.proofs.making.make_swap.Goals as goal

pub read-before-requires : goal.read-before-requires
read-before-requires c = omega (arith, (swap_fits _ _ c.args.first c.args.second c.requires.held c.requires.free).0, c.requires.held.sound.size)

pub read-after-requires : goal.read-after-requires
read-after-requires c = omega (arith, (swap_fits _ _ c.args.first c.args.second c.requires.held c.requires.free).1, c.requires.held.sound.size)

pub returns-in_err-make_room-clause-held : goal.returns-in_err-make_room-clause-held
returns-in_err-make_room-clause-held c =
    let e = c.in_err-make_room.ensures in
    rw e.journal (HoldsReplay-alike _ _ _ c.requires.held e.alike e.closed e.settled e.sound)

pub returns-in_err-make_room-clause-answer : goal.returns-in_err-make_room-clause-answer
returns-in_err-make_room-clause-answer c =
    let e = c.in_err-make_room.ensures in
    rw e.journal (Answers-no_memory _ _ _ (Swap c.args.first c.args.second) _ _ c.requires.free e.alike e.err c.from_residual.ensures.1)

pub announce-requires-clause-index : goal.announce-requires-clause-index
announce-requires-clause-index c =
    let e = c.in_ok-make_room.ensures in
    omega (arith, (swap_fits _ _ c.args.first c.args.second c.requires.held c.requires.free).0, e.alike.size, e.sound.size)

pub announce-requires-clause-second : goal.announce-requires-clause-second
announce-requires-clause-second c =
    let e = c.in_ok-make_room.ensures in
    rw c.write_at_second-other.ensures
    (second_apart c.args.first c.args.second _ _ c.read-after.result (omega (arith, (swap_fits _ _ c.args.first c.args.second c.requires.held c.requires.free).1, e.alike.size, e.sound.size)))

pub announce-requires-clause-edit : goal.announce-requires-clause-edit
announce-requires-clause-edit c =
    edits_left _ _ _ (Swap c.args.first c.args.second) c.requires.held c.requires.free c.in_ok-make_room.ensures.alike

pub returns-clause-held : goal.returns-clause-held
returns-clause-held c =
    let e = c.in_ok-make_room.ensures in
    let held = c.requires.held in
    let within = swap_fits _ _ c.args.first c.args.second c.requires.held c.requires.free in
    let first = to_z-of_z w64 c.read-before.result (rw c.read-before.ensures (fits_held _ _ _ held within.0)) in
    let second = to_z-of_z w64 c.read-after.result (rw c.read-after.ensures (fits_held _ _ _ held within.1)) in
    rw (c.announce.ensures.state, c.note.ensures.noted, e.journal, c.write_at_second-other.ensures, first, second)
    (swap_held _ _ _ c.args.first c.args.second _ _ _ c.size-size.ensures.value c.read-before.ensures c.read-after.ensures held c.requires.free e.alike e.settled e.buckets (rw (c.announce.ensures.state, c.write_at_second-other.ensures, first, second) at c.announce.ensures.sound))

pub returns-clause-answer : goal.returns-clause-answer
returns-clause-answer c =
    let e = c.in_ok-make_room.ensures in
    let held = c.requires.held in
    let within = swap_fits _ _ c.args.first c.args.second c.requires.held c.requires.free in
    let first = to_z-of_z w64 c.read-before.result (rw c.read-before.ensures (fits_held _ _ _ held within.0)) in
    let second = to_z-of_z w64 c.read-after.result (rw c.read-after.ensures (fits_held _ _ _ held within.1)) in
    let before = first ∙ c.read-before.ensures ∙ read_held _ _ _ (pos 0) held within.0 in
    let after = second ∙ c.read-after.ensures ∙ read_held _ _ _ (pos 0) held within.1 in
    let edits = rw e.journal at c.note.ensures.noted in
    let number = c.edit.ensures.value ∙ ap (λ s. s.descriptor.edit) c.announce.ensures.state ∙ ap (λ n. n + 1) (e.alike.edit ∙ held.edit) in
    record {
      verdict = c.requires.free;
      receipt_is = rw (number, after, before);
      journal = rw (c.announce.ensures.state, edits, e.alike.limits);
    }
