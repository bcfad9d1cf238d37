-- Proof of `put_all`: puts the lines of notes at an edit number.
use Rattle.std.proofs.Common.{◌∙◌}
use Rattle.std.proofs.lemmas.Result.{err_from_is_err_and}
use Rattle.lv_hub.proofs.NoticeLaws.{Writes-note, WritesFront-notes}
use Rattle.lv_hub.proofs.notices.put_all.Goals as goal

pub returns-in_err-put_one-clause-fault : goal.returns-in_err-put_one-clause-fault
returns-in_err-put_one-clause-fault g c =
    let p = err_from_is_err_and c.from_residual.result c.from_residual.ensures.1 in
    rw (p.1) (WritesFront-notes c.args.edit c.args.notes.now c.loop-note.note-index c.loop-note.invariant.written c.in_err-put_one.ensures.fault)

pub loop-note-preserved : goal.loop-note-preserved
loop-note-preserved g c = record {
  written = Writes-note c.args.edit c.args.notes.now c.loop-note.note-index c.loop-note.invariant.written _ c.note-item.result c.loop-note-test.true c.note-item.is c.in_ok-put_one.ensures.ok;
  places =
      let places = c.put_one.ensures.places in
      (places.0 ∙ c.loop-note.invariant.places.0, places.1 ∙ c.loop-note.invariant.places.1);
}
