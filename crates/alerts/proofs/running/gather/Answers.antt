-- Proof of `gather`: runs all threads at a hub that has no updates yet, and merges what they leave.
use Rattle.alerts.proofs.TellingLaws.{follows_so}
use Rattle.alerts.proofs.running.gather.Goals as goal

pub returns-in-Ok-clause-follows : goal.returns-in-Ok-clause-follows
returns-in-Ok-clause-follows g c =
    let done = c.run_all.result.follower in
    let all = c.join_all.result in
    let joined = c.join_all.ensures in
    follows_so c.args.questions.now done.subscriber done.told.items all.share.seen all.ended.questions all.ended.told all.told.items joined.seen joined.questions joined.answers joined.told (c.run_all.ensures.follows.follows c.args.questions.now c.in-Ok.ensures.follows)
