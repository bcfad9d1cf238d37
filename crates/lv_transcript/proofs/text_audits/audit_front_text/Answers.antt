-- Proof of `audit_front_text`.
use Rattle.std.proofs.Common.{subst, sym}
use Rattle.lv_transcript.specs.Audits.{IsRightVerdict, front_text}
use Rattle.lv_transcript.specs.ReadTexts.{IsUnread}
use Rattle.lv_transcript.specs.Seals.{logical_of}
use Rattle.lv_transcript.proofs.SeenTexts.{text_audited, text_unaudited}
use Rattle.lv_transcript.proofs.text_audits.audit_front_text.Goals as goal

pub returns-in-Ok : goal.returns-in-Ok
returns-in-Ok c =
    let r = c.in-Ok.ensures in
    let told = text_audited (IsRightVerdict r.1) (logical_of c.args.text.now) r.0 (front_text r.1) _ _ _ r.2 in
    (told.0, (r.1, told.1))

pub returns-in-Err : goal.returns-in-Err
returns-in-Err c =
    let r = c.in-Err.ensures in
    subst (IsUnread (logical_of c.args.text.now)) (sym c.why_unread.ensures) (text_unaudited (IsRightVerdict r.1) (logical_of c.args.text.now) r.0 (front_text r.1) _ _ _ r.2)
