-- Proof of `audit`: audits a transcript: reads it to its end, and writes the verdict as a line.
use Rattle.std.proofs.Common.{List, ℕ, [], ◌++◌, ap, ◌∙◌, lit≤}
use Rattle.std.proofs.KnownBytes.{Appends-nil, Consumes-nil}
use Rattle.std.proofs.lemmas.Result.{err_from_is_err_and}
use Rattle.lv_transcript.specs.Audits.{IsRight, verdict_text}
use Rattle.lv_transcript.proofs.AuditLaws.{audit_sent, audit_stopped, audit_unsent}
use Rattle.lv_transcript.proofs.auditor.audit.Goals as goal

pub returns-in_default : goal.returns-in_default
returns-in_default g c = record { seen = []; read = Consumes-nil _; few = lit≤ tt; ends = Appends-nil _ }

pub returns-in_err-verdict : goal.returns-in_err-verdict
returns-in_err-verdict g c =
    let p = err_from_is_err_and c.from_residual.result c.from_residual.ensures.1 in
    rw (p.1, p.2) (audit_stopped IsRight IsRight verdict_text (g.W.Write.contents c.args.writer.now) _ c.in_err-verdict.ensures)

pub returns-in_err-write_whole : goal.returns-in_err-write_whole
returns-in_err-write_whole g c =
    let p = err_from_is_err_and c.from_residual-in_err-write_whole.result c.from_residual-in_err-write_whole.ensures.1 in
    let verdict = c.in_ok-verdict.verdict in
    let put = c.put_verdict.ensures ∙ ap (λ (xs : List ℕ). xs ++ verdict_text verdict) c.in-Ok.ensures.items in
    let fails = rw c.as_slice.ensures.value at c.in_err-write_whole.ensures.fault in
    rw (p.1, p.2, fails.0) (audit_unsent IsRight verdict_text verdict _ _ c.in_ok-verdict.ensures put fails.1)

pub returns : goal.returns
returns g c =
    let verdict = c.in_ok-verdict.verdict in
    let put = c.put_verdict.ensures ∙ ap (λ (xs : List ℕ). xs ++ verdict_text verdict) c.in-Ok.ensures.items in
    audit_sent IsRight verdict_text verdict _ _ c.in_ok-verdict.ensures put (rw c.as_slice.ensures.value at c.in_ok-write_whole.ensures.ok)
