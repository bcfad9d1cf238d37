-- Proof of `TranscriptWriter::answer`.
use Rattle.std.proofs.Common.{true, [], ◌∷◌, ap, sym, subst, ◌∙◌, inr}
use Rattle.lv_transcript.specs.Transcribing.{Adds, WriterState, state_with}
use Rattle.lv_transcript.proofs.TranscribedFronts.{adds_lost, adds_missed, adds_one}
use Rattle.lv_transcript.proofs.transcript_writer.TranscriptWriter.answer.Goals as goal

-- a write had failed before
pub returns-then-self-clause-added : goal.returns-then-self-clause-added
returns-then-self-clause-added g c =
    adds_missed (inr c.args.answer.now) (state_with (g.W.Write.contents c.args.writer.now) c.args.self.now) (ap (λ (s : WriterState). s.failed) (sym c.self.view_is) ∙ c.if-self.true)

pub returns-in-Ok-clause-added : goal.returns-in-Ok-clause-added
returns-in-Ok-clause-added g c =
    let new = state_with (g.W.Write.contents c.answer_by.new.writer) (record { held = c.answer_by.new.held.items; failed = c.self.inside.failed }) in
    subst (λ (s : WriterState). Adds (state_with (g.W.Write.contents c.args.writer.now) s) (inr c.args.answer.now ∷ []) new) c.self.view_is
    (adds_one _ _ _ _ (inr c.args.answer.now) c.self.inside.failed c.if-self.false c.in-Ok.ensures.ok)

pub returns-in-Err-clause-added : goal.returns-in-Err-clause-added
returns-in-Err-clause-added g c =
    let new = state_with (g.W.Write.contents c.answer_by.new.writer) (record { held = c.answer_by.new.held.items; failed = true }) in
    subst (λ (s : WriterState). Adds (state_with (g.W.Write.contents c.args.writer.now) s) (inr c.args.answer.now ∷ []) new) c.self.view_is
    (adds_lost _ _ _ _ (inr c.args.answer.now) c.self.inside.failed c.if-self.false c.in-Err.ensures.fault.1)
