-- Proof of `make_pop`: makes a pop that the verdict allows.
use Rattle.std.proofs.Common.{◌≡◌, ◌+◌, ◌-◌, ◌<◌, ◌≤◌, pos, get_or, length, ap, ◌∙◌, arith}
use Rattle.std.specs.Int.{w64}
use Rattle.std.proofs.lemmas.Int.{to_z-of_z}
use Rattle.lv_edits.specs.Inner.{noted}
use Rattle.lv_edits.specs.declared.edit.Edit.TheVariants.{Pop}
use Rattle.lv_edits.specs.History.{list_of}
use Rattle.lv_edits.proofs.HoldsLaws.{Answers-no_memory, HoldsReplay-alike, edits_left, fits_held, pop_fits, pop_held, read_held, size_held}
use Rattle.lv_edits.proofs.making.make_pop.Goals as goal
use Rattle.lv_edits.proofs.making.make_pop.Goals.{After-size-last}

-- there is a last element
last : (c : After-size-last) → (1 ≤ c.size-last.result) × (c.size-last.result - 1 < c.args.store.now.descriptor.size)
last c =
    let some = pop_fits _ _ c.requires.held c.requires.free in
    (omega (arith, c.size-last.ensures.value), omega (arith, c.size-last.ensures.value))

pub overflow_sub-last : goal.overflow_sub-last
overflow_sub-last c = (last c).0

pub read-value-requires : goal.read-value-requires
read-value-requires c = omega (arith, (last (goal.at.read-value-requires c).After-size-last).1, c.requires.held.sound.size)

pub returns-in_err-make_room-clause-held : goal.returns-in_err-make_room-clause-held
returns-in_err-make_room-clause-held c =
    let e = c.in_err-make_room.ensures in
    rw e.journal (HoldsReplay-alike _ _ _ c.requires.held e.alike e.closed e.settled e.sound)

pub returns-in_err-make_room-clause-answer : goal.returns-in_err-make_room-clause-answer
returns-in_err-make_room-clause-answer c =
    let e = c.in_err-make_room.ensures in
    rw e.journal (Answers-no_memory _ _ _ Pop _ _ c.requires.free e.alike e.err c.from_residual.ensures.1)

pub announce-requires-clause-edit : goal.announce-requires-clause-edit
announce-requires-clause-edit c =
    edits_left _ _ _ Pop c.requires.held c.requires.free c.in_ok-make_room.ensures.alike

pub returns-clause-held : goal.returns-clause-held
returns-clause-held c =
    let e = c.in_ok-make_room.ensures in
    rw (c.announce.ensures.state, c.note.ensures.noted, e.journal)
    (pop_held _ _ _ _ (ap (λ n. n - 1) c.size-last.ensures.value) c.requires.held c.requires.free e.alike e.settled e.buckets (rw c.announce.ensures.state at c.announce.ensures.sound))

pub returns-clause-answer : goal.returns-clause-answer
returns-clause-answer c =
    let e = c.in_ok-make_room.ensures in
    let at = (goal.at.returns-clause-answer c).After-size-last in
    let held = c.requires.held in
    let within = (last at).1 in
    let fits = to_z-of_z w64 c.read-value.result (rw c.read-value.ensures (fits_held _ _ _ held within)) in
    let place : c.size-last.result - 1 ≡ length (list_of (noted c.args.journal.now)) - 1 = ap (λ n. n - 1) (c.size-last.ensures.value ∙ size_held _ _ held) in
    let value = fits ∙ c.read-value.ensures ∙ read_held _ _ _ (pos 0) held within ∙ ap (λ i. get_or (list_of (noted c.args.journal.now)) i (pos 0)) place in
    let edits = rw e.journal at c.note.ensures.noted in
    let number = c.edit.ensures.value ∙ ap (λ s. s.descriptor.edit) c.announce.ensures.state ∙ ap (λ n. n + 1) (e.alike.edit ∙ held.edit) in
    record {
      verdict = c.requires.free;
      receipt_is = rw (number, value);
      journal = rw (c.announce.ensures.state, edits, e.alike.limits);
    }
