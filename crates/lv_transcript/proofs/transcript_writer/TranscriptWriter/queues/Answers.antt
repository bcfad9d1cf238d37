-- Proof of `TranscriptWriter::queues`.
use Rattle.std.proofs.Common.{◌≡◌, List, [], ◌∷◌, ◌++◌, ◌∙◌, length, ap, sym, refl, append_assoc, append-nil, inr, arith}
use Rattle.lv_transcript.specs.declared.claimed.Claimed.{Claimed}
use Rattle.lv_transcript.specs.Joined.{by_edit, joined}
use Rattle.lv_transcript.specs.Transcribing.{state_with}
use Rattle.lv_transcript.proofs.TranscribedFronts.{adds_after, adds_nothing}
use Rattle.lv_transcript.proofs.transcript_writer.TranscriptWriter.queues.Goals as goal

pub loop-answer-init : goal.loop-answer-init
loop-answer-init g c = record { done = []; parts = refl; given = adds_nothing (state_with (g.W.Write.contents c.args.writer.now) c.args.self.now) }

-- an answer was taken
pub loop-answer-smaller : goal.loop-answer-smaller
loop-answer-smaller g c = omega (arith, ap (λ (answers : List Claimed). length answers) c.in-Some.ensures)

-- and given
pub loop-answer-preserved : goal.loop-answer-preserved
loop-answer-preserved g c =
    let i = c.loop-answer.invariant in
    let answer = c.in-Some.answer in
    record {
      done = i.done ++ answer ∷ [];
      parts = i.parts ∙ ap (λ (answers : List Claimed). i.done ++ answers) c.in-Some.ensures ∙ sym (append_assoc i.done (answer ∷ []) (joined c.take_least.new.queues.items));
      given = adds_after inr i.done answer _ _ _ i.given c.answer.ensures.added;
    }

-- no answer is left
pub returns : goal.returns
returns g c =
    let i = c.loop-answer.invariant in
    let all : joined c.args.queues.now.items ≡ i.done = i.parts ∙ ap (λ (answers : List Claimed). i.done ++ by_edit answers) c.in_default.ensures ∙ append-nil i.done in
    rw all i.given
