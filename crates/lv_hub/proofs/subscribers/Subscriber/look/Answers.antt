-- Proof of `Subscriber::look`: looks at the hub, and returns a notification, or none if no update was made since the last look.
use Rattle.std.proofs.Common.{arith}
use Rattle.lv_standing.specs.Queries.{watch_answer}
use Rattle.lv_hub.proofs.SubscriberLaws.{each_answered, looked, looked_in_vain}
use Rattle.lv_hub.proofs.subscribers.Subscriber.look.Goals as goal

pub put_due-requires-clause-asked : goal.put_due-requires-clause-asked
put_due-requires-clause-asked g c =
    let edit = c.answer_all-edit in
    each_answered c.self.inside.queries edit.new.set (watch_answer edit.new.share.seen) edit.ensures.answers

pub returns-then-edit-seen-clause-told : goal.returns-then-edit-seen-clause-told
returns-then-edit-seen-clause-told g c =
    let s = c.self.inside in
    let edit = c.answer_all-edit in
    rw (← c.self.view_is) (looked_in_vain s.share edit.new.share edit.ensures.share edit.ensures.begins s.queries edit.new.set edit.ensures.answers
    (omega (arith, edit.ensures.edit, c.seen-seen.ensures.count, c.if-edit-seen.true)))

pub returns-clause-told : goal.returns-clause-told
returns-clause-told g c =
    let s = c.self.inside in
    let edit = c.answer_all-edit in
    rw (← c.self.view_is) (looked s.share edit.new.share edit.ensures.share edit.ensures.begins s.queries edit.new.set edit.ensures.answers
    g.N.Naming.limits (record { edit = edit.result; notes = c.put_due.new.notes }) c.in-Ok.notes.items c.mark_told.new.self c.mark_told.ensures
    c.in-Ok.ensures.items edit.ensures.within edit.ensures.edit (λ same. omega (arith, same, edit.ensures.edit, c.seen-seen.ensures.count, c.if-edit-seen.false)) c.put_due.ensures.notes)
