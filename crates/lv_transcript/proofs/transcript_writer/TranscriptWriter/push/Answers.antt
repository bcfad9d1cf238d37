-- Proof of `TranscriptWriter::push`: takes an element.
use Rattle.std.proofs.Common.{rules}
use Rattle.std.specs.Int.{w64}
use Rattle.std.proofs.lemmas.Int.{to_z-of_z}
use Rattle.lv_transcript.proofs.transcript_writer.TranscriptWriter.push.Goals as goal

pub returns-clause-added : goal.returns-clause-added
returns-clause-added g c =
    let same = to_z-of_z w64 c.args.element (search rules) in
    rw same at c.edit.ensures.added

pub returns-clause-element : goal.returns-clause-element
returns-clause-element g c =
    let same = to_z-of_z w64 c.args.element (search rules) in
    rw same at c.edit.ensures.element
