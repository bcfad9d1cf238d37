-- Proof of `audit_front`: audits a prefix of a transcript: reads it to its end, and writes the verdict as a line.
use Rattle.std.proofs.Common.{List, ℕ, None, [], ◌++◌, ap, ◌∙◌, arith}
use Rattle.std.proofs.KnownBytes.{Appends-nil, Consumes-nil}
use Rattle.std.proofs.lemmas.Result.{err_from_is_err_and}
use Rattle.lv_transcript.specs.Seals.{text_of}
use Rattle.lv_transcript.specs.Audits.{IsRightFound, IsRightVerdict, front_text}
use Rattle.lv_transcript.proofs.AuditLaws.{audit_sent, audit_stopped, audit_unsent, verdict_alone}
use Rattle.lv_transcript.proofs.fronts.audit_front.Goals as goal

pub returns-in_default : goal.returns-in_default
returns-in_default g c = (text_of (g.R.Read.remaining c.args.reader), None, record { seen = []; read = Consumes-nil _; few = omega arith; ends = Appends-nil _ })

pub returns-in_err-found : goal.returns-in_err-found
returns-in_err-found g c =
    let p = err_from_is_err_and c.from_residual.result c.from_residual.ensures.1 in
    let r = c.in_err-found.ensures in
    rw (p.1, p.2) (r.0, None, audit_stopped IsRightFound (IsRightVerdict None) (front_text None) (g.W.Write.contents c.args.writer.now) _ r.1)

pub returns-in_err-write_whole : goal.returns-in_err-write_whole
returns-in_err-write_whole g c =
    let p = err_from_is_err_and c.from_residual-in_err-write_whole.result c.from_residual-in_err-write_whole.ensures.1 in
    let found = c.in_ok-found.found in
    let r = c.in_ok-found.ensures in
    let put = c.put_front.ensures ∙ ap (λ (xs : List ℕ). xs ++ front_text found.heading found.verdict) c.in-Ok.ensures.items in
    let fails = rw c.as_slice.ensures.value at c.in_err-write_whole.ensures.fault in
    rw (p.1, p.2, fails.0) (r.0, found.heading, audit_unsent (IsRightVerdict found.heading) (front_text found.heading) found.verdict _ _ (verdict_alone found r.1) put fails.1)

pub returns : goal.returns
returns g c =
    let found = c.in_ok-found.found in
    let r = c.in_ok-found.ensures in
    let put = c.put_front.ensures ∙ ap (λ (xs : List ℕ). xs ++ front_text found.heading found.verdict) c.in-Ok.ensures.items in
    (r.0, found.heading, audit_sent (IsRightVerdict found.heading) (front_text found.heading) found.verdict _ _ (verdict_alone found r.1) put (rw c.as_slice.ensures.value at c.in_ok-write_whole.ensures.ok))
