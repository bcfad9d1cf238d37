-- Proof of `write_end`: writes the last line after what is held, and all that is held then.
use Rattle.std.proofs.Common.{[], ◌∷◌, ◌++◌}
use Rattle.std.proofs.lemmas.Result.{err_from_is_err_and}
use Rattle.lv_lines.proofs.OutputLemmas.{WritesFront-longer}
use Rattle.lv_transcript.specs.Transcript.{end_line}
use Rattle.lv_transcript.proofs.TranscribedFronts.{last_sent, last_unsent}
use Rattle.lv_transcript.proofs.transcript_writer.write_end.Goals as goal

pub returns-in_err-make_room-clause-fault : goal.returns-in_err-make_room-clause-fault
returns-in_err-make_room-clause-fault g c =
    let p = err_from_is_err_and c.from_residual.result c.from_residual.ensures.1 in
    let fails = c.in_err-make_room.ensures.fault in
    rw (p.1, p.2) (fails.0, WritesFront-longer (end_line ++ 10 ∷ []) fails.1)

pub returns-clause-ok : goal.returns-clause-ok
returns-clause-ok g c =
    last_sent _ _ _ _ _ _ _ (end_line ++ 10 ∷ []) c.send.result c.in_ok-make_room.ensures.ok c.put.ensures.items c.send.ensures.ok

pub returns-clause-fault : goal.returns-clause-fault
returns-clause-fault g c =
    last_unsent _ _ _ _ _ _ (end_line ++ 10 ∷ []) c.send.result c.in_ok-make_room.ensures.ok c.put.ensures.items c.send.ensures.fault
