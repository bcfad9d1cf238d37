-- Proof of `read_heading`: what the line tells that a log begins with, letter for letter.
use Rattle.std.proofs.Common.{◌≡◌, ℕ, List, ◌++◌, sym, ap, ◌∙◌}
use Rattle.std.proofs.lemmas.Option.{none-some}
use Rattle.std.specs.Cmp.Lexicographic.{other_text}
use Rattle.lv_transcript.specs.Transcript.{log_line}
use Rattle.lv_transcript.proofs.ReadTranscripts.{heading_in-log_line}
use Rattle.lv_transcript.proofs.transcript_lines.read_heading.Goals as goal

pub returns-in_err-heading-clause-heading : goal.returns-in_err-heading-clause-heading
returns-in_err-heading-clause-heading c =
    rw c.from_residual.ensures
    (λ heading fits is. none-some heading (sym c.in_err-heading.was ∙ c.likely_heading.ensures ∙ heading_in-log_line heading c.args.line.now fits is))

pub returns-clause-heading : goal.returns-clause-heading
returns-clause-heading c = λ heading fits is.
    let likely = c.in_ok-heading.heading in
    let held : c.as_slice.result.now ≡ log_line likely = c.as_slice.ensures.value ∙ c.put_heading.ensures.text ∙ ap (λ (xs : List ℕ). xs ++ log_line likely) c.clear.ensures.items in
    let same : log_line heading ≡ log_line likely = ap log_line (cc (heading_in-log_line heading c.args.line.now fits is, c.in_ok-heading.ensures)) in
    other_text c.as_slice.result.now c.args.line.now c.if-eq.ensures (held ∙ sym same ∙ sym is)
