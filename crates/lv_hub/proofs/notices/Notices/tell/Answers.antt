-- Proof of `Notices::tell`: writes the lines of a notification, with its edit number in this numbering, unless a write has failed.
use Rattle.std.proofs.Common.{ap, sym, ◌∙◌}
use Rattle.lv_hub.specs.Noticing.{NoticesState, told_text}
use Rattle.lv_hub.proofs.NoticeLaws.{gave_up, wrote_more, wrote_nothing, wrote_part}
use Rattle.lv_hub.proofs.notices.Notices.tell.Goals as goal

-- a write had failed before
pub returns-then-self-clause-written : goal.returns-then-self-clause-written
returns-then-self-clause-written g c = wrote_nothing (told_text c.args.numbers c.args.told.now) c.args.self.now (ap (λ (s : NoticesState). s.failed) (sym c.self.view_is) ∙ c.if-self.true)

-- it isn't recorded
pub returns-then-not-is_recorded-clause-written : goal.returns-then-not-is_recorded-clause-written
returns-then-not-is_recorded-clause-written g c =
    let s : NoticesState = record { contents = g.F.Write.contents c.self.inside.writer; failed = c.self.inside.failed } in
    rw (← c.self.view_is, c.fail.ensures.failed) (gave_up (told_text c.args.numbers c.args.told.now) s c.if-self.false)

pub returns-in-Ok-clause-written : goal.returns-in-Ok-clause-written
returns-in-Ok-clause-written g c =
    let s : NoticesState = record { contents = g.F.Write.contents c.self.inside.writer; failed = c.self.inside.failed } in
    rw (← c.self.view_is) (wrote_more (told_text c.args.numbers c.args.told.now) s (g.F.Write.contents c.write_told.new.buffer.writer.now) c.write_told.new.buffer.held.now.items c.if-self.false (rw c.self.invariant.0 at c.in-Ok.ensures.ok))

pub returns-in-Err-clause-written : goal.returns-in-Err-clause-written
returns-in-Err-clause-written g c =
    let s : NoticesState = record { contents = g.F.Write.contents c.self.inside.writer; failed = c.self.inside.failed } in
    rw (← c.self.view_is, c.fail-in-Err.ensures.failed) (wrote_part (told_text c.args.numbers c.args.told.now) s (g.F.Write.contents c.write_told.new.buffer.writer.now) c.if-self.false (rw c.self.invariant.0 at c.in-Err.ensures.fault))
