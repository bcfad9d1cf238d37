-- Proof of `audit_text`.
use Rattle.std.proofs.Common.{subst, sym}
use Rattle.lv_transcript.specs.Audits.{IsRight, verdict_text}
use Rattle.lv_transcript.specs.ReadTexts.{IsUnread}
use Rattle.lv_transcript.proofs.SeenTexts.{text_audited, text_unaudited}
use Rattle.lv_transcript.proofs.text_audits.audit_text.Goals as goal

pub returns-in-Ok : goal.returns-in-Ok
returns-in-Ok c = text_audited IsRight c.args.text.now _ verdict_text _ _ _ c.in-Ok.ensures

pub returns-in-Err : goal.returns-in-Err
returns-in-Err c = subst (IsUnread c.args.text.now) (sym c.why_unread.ensures) (text_unaudited IsRight c.args.text.now _ verdict_text _ _ _ c.in-Err.ensures)
