-- Proof of `make_write_through`: makes a write that the verdict allows, and completes it at once.
use Rattle.std.proofs.Common.{◌+◌, pos, ap, ◌∙◌}
use Rattle.std.specs.Int.{w64}
use Rattle.std.proofs.lemmas.Int.{to_z-of_z}
use Rattle.lv_store.specs.State.{value_in}
use Rattle.lv_store.proofs.ElementsLaws.{settled_alike}
use Rattle.lv_edits.proofs.HoldsLaws.{fits_held, read_held, write_fits}
use Rattle.lv_edits.proofs.HoldsWrites.{write_allowed, write_held_through}
use Rattle.lv_edits.proofs.writing.make_write_through.Goals as goal

pub write_through-before-requires-clause-index : goal.write_through-before-requires-clause-index
write_through-before-requires-clause-index c =
    (write_allowed c.args.store.now _ _ c.args.index c.args.value c.requires.held c.requires.free c.settle_first.ensures.state).index

pub returns-clause-held : goal.returns-clause-held
returns-clause-held c =
    let same = to_z-of_z w64 c.args.value c.ranges.value in
    rw (c.write_through-before.ensures.state, c.note.ensures.noted, c.reserve.ensures.noted, same)
    (write_held_through c.args.store.now _ _ c.args.index c.args.value c.requires.held c.requires.free c.settle_first.ensures.state c.ranges.value c.settle_first.ensures.sound)

pub returns-clause-answer : goal.returns-clause-answer
returns-clause-answer c =
    let held = c.requires.held in
    let (alike, buckets, pending) = settled_alike c.args.store.now held.sound in
    let within = write_fits _ _ c.args.index c.args.value held c.requires.free in
    let same = to_z-of_z w64 c.args.value c.ranges.value in
    let was = c.write_through-before.ensures.before ∙ ap (λ s. value_in s c.args.index) c.settle_first.ensures.state ∙ alike.values c.args.index in
    let fits = to_z-of_z w64 c.write_through-before.result (rw was (fits_held _ _ _ held within)) in
    let value = fits ∙ was ∙ read_held _ _ _ (pos 0) held within in
    let edits = rw (c.reserve.ensures.noted, same) at c.note.ensures.noted in
    let number = c.edit.ensures.value ∙ ap (λ s. s.descriptor.edit) c.write_through-before.ensures.state ∙ ap (λ n. n + 1) (ap (λ s. s.descriptor.edit) c.settle_first.ensures.state ∙ alike.edit ∙ held.edit) in
    record {
      verdict = c.requires.free;
      receipt_is = rw (number, value);
      journal = rw (c.write_through-before.ensures.state, edits, c.settle_first.ensures.state, alike.limits);
    }
