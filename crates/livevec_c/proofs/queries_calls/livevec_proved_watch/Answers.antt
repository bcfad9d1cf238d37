-- Proof of `livevec_proved_watch`: registers a question by a name.
use Rattle.std.proofs.Common.{subst, w64}
use Rattle.std.proofs.lemmas.Int.{to_z-of_z}
use Rattle.livevec_c.specs.Queried.{Watches, question_in}
use Rattle.livevec_c.proofs.queries_calls.livevec_proved_watch.Goals as goal

pub returns-in-Ok : goal.returns-in-Ok
returns-in-Ok c =
    let watched = subst (λ question. Watches question c.watch_held.result c.args.slot.now.raw.inner c.watch_held.new.slot.raw.inner) c.in-Ok.ensures c.watch_held.ensures in
    subst (λ x. Watches (question_in c.args.name.now c.args.kind c.args.span c.args.lo c.args.hi c.args.bound x) c.watch_held.result c.args.slot.now.raw.inner c.watch_held.new.slot.raw.inner) (to_z-of_z w64 c.args.x c.ranges.x) watched
