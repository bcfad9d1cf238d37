-- Proof of `finish`: closes the hub, and has the subscriber make its last notification.
use Rattle.std.proofs.Common.{◌∙◌}
use Rattle.alerts.proofs.TellingLaws.{tells_last}
use Rattle.alerts.proofs.running.finish.Goals as goal

pub tell-last-requires : goal.tell-last-requires
tell-last-requires g c = (c.close-live.ensures.vector c.requires.one).within

pub returns-clause-told : goal.returns-clause-told
returns-clause-told g c =
    λ questions is. tells_last questions g.N.Naming.limits c.args.gathered.share.seen c.args.gathered.ended.questions c.args.gathered.ended.told c.close-live.result.history _ is (c.close-live.ensures.vector c.requires.one)
    (c.close-live.ensures.seen c.requires.one) (c.tell-last.ensures.edit ∙ c.from-edit.ensures ∙ c.edit.ensures) c.tell-last.ensures.notes (c.close-live.ensures.counted c.requires.one ∙ c.requires.count)
