-- Proof of `TranscriptWriter::pushes`.
use Rattle.std.proofs.Common.{get_or, pos, arith, rules}
use Rattle.std.specs.Int.{w64}
use Rattle.std.proofs.lemmas.Int.{to_z-of_z}
use Rattle.std.proofs.lemmas.List.{take_more}
use Rattle.std.proofs.lemmas.List.Elements.{All-push}
use Rattle.lv_geometry.specs.Elements.{IsElement}
use Rattle.lv_transcript.specs.Logs.{pushed}
use Rattle.lv_transcript.proofs.TranscribedFronts.{adds_next}
use Rattle.lv_transcript.proofs.transcript_writer.TranscriptWriter.pushes.Goals as goal

pub loop-element-preserved : goal.loop-element-preserved
loop-element-preserved g c =
    let elements = c.args.elements.now in
    let i = c.loop-element.element-index in
    let loop = c.loop-element.invariant in
    let same = to_z-of_z w64 (get_or c.args.elements.now i (pos 0)) (search rules) in
    let added = rw same at c.push.ensures.added in
    let fits = rw same at c.push.ensures.element in
    record {
      given = adds_next pushed elements i (pos 0) _ _ _ (omega arith) loop.given added;
      elements = rw (take_more elements i (pos 0) (omega arith)) (All-push IsElement _ _ loop.elements fits);
    }
