-- Proof of `make_writes`: makes writes that the verdict allows, so that the only error is `NoMemory`.
use Rattle.std.proofs.Common.{◌≡◌, ap, length, ◌∙◌, arith}
use Rattle.lv_edits.specs.Batches.{writes_at}
use Rattle.lv_edits.specs.Inner.{history_of, noted}
use Rattle.lv_edits.proofs.BatchLaws.{length-edits}
use Rattle.lv_edits.proofs.CapacityLaws.{fewest_of_none}
use Rattle.lv_edits.proofs.HoldsLaws.{HoldsReplay-alike}
use Rattle.lv_edits.proofs.HoldsWrites.{AnswersEdits-no_memory}
use Rattle.lv_edits.proofs.writing.make_writes.Goals as goal

pub returns-in_err-make_room-clause-held : goal.returns-in_err-make_room-clause-held
returns-in_err-make_room-clause-held c =
    let e = c.in_err-make_room.ensures in
    rw e.journal (HoldsReplay-alike _ _ _ c.requires.held e.alike e.closed e.settled e.sound)

pub returns-in_err-make_room-clause-answer : goal.returns-in_err-make_room-clause-answer
returns-in_err-make_room-clause-answer c =
    let e = c.in_err-make_room.ensures in
    rw e.journal (AnswersEdits-no_memory _ _ _ (writes_at c.args.indices.now c.args.values.now) _ _ c.requires.free e.alike e.err c.from_residual.ensures.1)

pub write_each-requires-clause-held : goal.write_each-requires-clause-held
write_each-requires-clause-held c =
    let e = c.in_ok-make_room.ensures in
    let none : c.make_room.new.store.buckets ≡ c.args.store.now.buckets = e.buckets 0 fewest_of_none ∙ omega arith in
    rw e.journal (HoldsReplay-alike _ _ _ c.requires.held e.alike none e.settled e.sound)

pub write_each-requires-clause-free : goal.write_each-requires-clause-free
write_each-requires-clause-free c =
    let e = c.in_ok-make_room.ensures in
    rw (e.journal, e.alike.limits) c.requires.free

pub returns-clause-answer : goal.returns-clause-answer
returns-clause-answer c =
    let e = c.in_ok-make_room.ensures in
    let h = history_of c.args.store.now (noted c.args.journal.now) in
    let es = writes_at c.args.indices.now c.args.values.now in
    let made = rw (e.journal, e.alike.limits) at c.write_each.ensures.made in
    record {
      verdict = c.requires.free;
      edit_is = c.edit.ensures.value ∙ c.write_each.ensures.held.edit ∙ ap (λ h. length h.journal) made ∙ length-edits h es;
      journal = made;
    }
