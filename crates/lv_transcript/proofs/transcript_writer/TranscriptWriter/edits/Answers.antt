-- Proof of `TranscriptWriter::edits`.
use Rattle.std.proofs.Common.{pos, inl, arith}
use Rattle.std.proofs.lemmas.List.{take_more}
use Rattle.std.proofs.lemmas.List.Elements.{All-push}
use Rattle.lv_edits.specs.declared.edit.Edit.{Edit}
use Rattle.lv_edits.specs.declared.edit.Edit.TheVariants.{Push}
use Rattle.lv_edits.specs.Kept.{CarriesElement}
use Rattle.lv_transcript.proofs.TranscribedFronts.{adds_next}
use Rattle.lv_transcript.proofs.transcript_writer.TranscriptWriter.edits.Goals as goal

-- a default for an index past the end
abbrev first : Edit
first = Push (pos 0)

pub loop-edit-preserved : goal.loop-edit-preserved
loop-edit-preserved g c =
    let edits = c.args.edits.now in
    let i = c.loop-edit.edit-index in
    let loop = c.loop-edit.invariant in
    record {
      given = adds_next inl edits i first _ _ _ (omega arith) loop.given c.edit.ensures.added;
      elements = rw (take_more edits i first (omega arith)) (All-push CarriesElement _ _ loop.elements c.edit.ensures.element);
    }
