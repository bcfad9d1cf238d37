-- Proof of `read_answer`: the question that a line begins with, letter for letter, and the bytes after it.
use Rattle.std.proofs.Common.{◌≡◌, ℕ, List, ◌++◌, None, Some, sym, ap, ◌∙◌, rules}
use Rattle.std.proofs.lemmas.Bool.Decides.{Decides-eqb}
use Rattle.std.proofs.lemmas.Option.{none-some}
use Rattle.std.proofs.lemmas.Slice.Eq.{strip_prefix_is}
use Rattle.lv_transcript.specs.Auditing.{text_of}
use Rattle.lv_transcript.proofs.ReadTranscripts.{question_in-text_of}
use Rattle.lv_transcript.proofs.transcript_lines.read_answer.Goals as goal

pub returns-in_err-question-clause-answer : goal.returns-in_err-question-clause-answer
returns-in_err-question-clause-answer c =
    rw c.from_residual.ensures
    (λ question value fits is.
    none-some question (sym c.in_err-question.was ∙ c.likely_question.ensures ∙ question_in-text_of question c.args.line.now value fits is))

pub returns-in_err-value-clause-answer : goal.returns-in_err-value-clause-answer
returns-in_err-value-clause-answer c =
    let line = c.args.line.now in
    let likely = c.in_ok-question.question in
    let held : c.as_slice.result.now ≡ text_of likely = c.as_slice.ensures.value ∙ c.put_question.ensures.text ∙ ap (λ (xs : List ℕ). xs ++ text_of likely) c.clear.ensures.items in
    let other = strip_prefix_is Decides-eqb line c.as_slice.result.now None c.in_err-value.ensures.cases in
    rw c.from_residual-in_err-value.ensures
    (λ question value fits is.
    let same : text_of question ≡ text_of likely = ap text_of (cc (question_in-text_of question line value fits is, c.in_ok-question.ensures)) in
    other value (is ∙ ap (λ (xs : List ℕ). xs ++ value) (same ∙ sym held)))

pub returns-clause-answer : goal.returns-clause-answer
returns-clause-answer c =
    let likely = c.in_ok-question.question in
    let value = c.in_ok-value.value.now in
    let held : c.as_slice.result.now ≡ text_of likely = c.as_slice.ensures.value ∙ c.put_question.ensures.text ∙ ap (λ (xs : List ℕ). xs ++ text_of likely) c.clear.ensures.items in
    let front = strip_prefix_is Decides-eqb c.args.line.now c.as_slice.result.now (Some c.in_ok-value.value) c.in_ok-value.ensures.cases in
    (search rules, front ∙ ap (λ (xs : List ℕ). xs ++ value) held)
