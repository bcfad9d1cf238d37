-- Proof of `write_joined_transcript`: writes the transcript of a journal and of what was claimed of it in several queues, and flushes the writer.
use Rattle.std.proofs.Common.{Result, Ok, Err, OnOk}
use Rattle.std.proofs.lemmas.List.Sorted.{All-permutation}
use Rattle.lv_transcript.specs.Joined.{by_edit, in_a_row, joined}
use Rattle.lv_transcript.specs.Transcribing.{state_with}
use Rattle.lv_transcript.specs.Transcript.{IsTrueAnswer}
use Rattle.lv_transcript.proofs.JoinedAnswers.{by_edit_order, by_edit_permutes}
use Rattle.lv_transcript.proofs.TranscribedFronts.{sound_text, transcribed}
use Rattle.lv_transcript.proofs.transcripts.write_joined_transcript.Goals as goal

pub returns-clause-text : goal.returns-clause-text
returns-clause-text g c =
    let contents = g.W.Write.contents in
    transcribed c.args.edits.now (joined c.args.queues.now.items) (state_with (contents c.args.writer.now) c.args.transcript) (state_with (contents c.edits.new.writer) c.edits.new.self)
    (state_with (contents c.queues.new.writer) c.queues.new.self) (contents c.end.new.writer) c.end.result (c.requires (contents c.args.writer.now)) c.edits.ensures.added c.queues.ensures c.end.ensures.ends c.end.ensures.fault

-- what holds anyway
on_any : {T E P : Type 0} (result : Result T E) → P → OnOk result P
on_any (Ok x) p = p
on_any (Err e) p = tt

-- accepted edits, and true answers in their order, have a sound text
pub returns-clause-sound : goal.returns-clause-sound
returns-clause-sound g c = λ accepted holds.
    let edits = c.args.edits.now in
    let listed = in_a_row c.args.queues.now.items in
    on_any c.end.result (sound_text edits (by_edit listed) c.edits.ensures.elements (by_edit_order listed) accepted
    (All-permutation (IsTrueAnswer edits) listed (by_edit listed) (by_edit_permutes listed) holds))
