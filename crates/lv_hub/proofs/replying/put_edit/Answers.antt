-- Proof of `put_edit`: makes an update, and puts its receipt or its refusal.
use Rattle.std.proofs.Common.{◌++◌, ◌∙◌, Ok, Err, refl, ap, arith, length}
use Rattle.lv_lines.specs.Texts.{numbered, receipt_text}
use Rattle.lv_history.specs.Numbering.{told_number}
use Rattle.lv_hub.specs.Replying.{edit_text_at}
use Rattle.lv_hub.specs.Session.{session_at}
use Rattle.lv_hub.proofs.replying.put_edit.Goals as goal

pub returns-in-Ok-clause-answer : goal.returns-in-Ok-clause-answer
returns-in-Ok-clause-answer g c = (
  edit_text_at (told_number g.N.Naming.numbers (length c.edit_with_place.new.share.seen)) (Ok c.in-Ok.receipt),
  λ answers. record { result = Ok c.in-Ok.receipt; told = c.in-Ok.ensures.told; text_is = refl; state = ap (λ h. session_at h answers) c.in-Ok.ensures.counts },
  c.put_receipt_at.ensures.text ∙ ap (λ number. c.args.held.now.items ++ receipt_text (numbered number c.in-Ok.receipt)) c.last_number.ensures,
)

pub returns-in-Err-clause-answer : goal.returns-in-Err-clause-answer
returns-in-Err-clause-answer g c = (
  edit_text_at (told_number g.N.Naming.numbers (length c.edit_with_place.new.share.seen)) (Err c.in-Err.refusal),
  λ answers. record { result = Err c.in-Err.refusal; told = c.in-Err.ensures.told; text_is = refl; state = ap (λ h. session_at h answers) c.in-Err.ensures.counts },
  c.put_refusal.ensures.text,
)

-- the share has the parts that it had, and counts no less
pub returns-in-Ok-clause-parts : goal.returns-in-Ok-clause-parts
returns-in-Ok-clause-parts g c = ap (λ h. h.parts) c.in-Ok.ensures.counts

pub returns-in-Err-clause-parts : goal.returns-in-Err-clause-parts
returns-in-Err-clause-parts g c = ap (λ h. h.parts) c.in-Err.ensures.counts

pub returns-in-Ok-clause-more : goal.returns-in-Ok-clause-more
returns-in-Ok-clause-more g c = omega (arith, ap (λ h. h.count) c.in-Ok.ensures.counts)

pub returns-in-Err-clause-more : goal.returns-in-Err-clause-more
returns-in-Err-clause-more g c = omega (arith, ap (λ h. h.count) c.in-Err.ensures.counts)
