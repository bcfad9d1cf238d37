-- Proof of `front_in`.
use Rattle.std.proofs.Common.{subst, sym}
use Rattle.lv_transcript.specs.Audits.{IsRightFound}
use Rattle.lv_transcript.specs.ReadTexts.{IsUnread}
use Rattle.lv_transcript.specs.Seals.{logical_of}
use Rattle.lv_transcript.proofs.SeenTexts.{text_read, text_unread}
use Rattle.lv_transcript.proofs.text_audits.front_in.Goals as goal

pub returns-in-Ok : goal.returns-in-Ok
returns-in-Ok c = text_read IsRightFound (logical_of c.args.text.now) c.in-Ok.ensures.0 _ c.in-Ok.ensures.1

pub returns-in-Err : goal.returns-in-Err
returns-in-Err c = subst (IsUnread (logical_of c.args.text.now)) (sym c.why_unread.ensures) (text_unread IsRightFound (logical_of c.args.text.now) c.in-Err.ensures.0 _ c.in-Err.ensures.1)
