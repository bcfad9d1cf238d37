-- Proof of `leave_all`: takes the parts of subscribers back, and collects what they leave in `room`, which is empty.
use Rattle.std.proofs.Common.{◌∙◌, refl, ap, sym, subst, arith, length}
use Rattle.std.proofs.lemmas.Iterator.Adapters.{YieldsList-from_vec}
use Rattle.std.proofs.lemmas.Iterator.Consumers.{YieldsList-turn, YieldsList-end}
use Rattle.std.proofs.lemmas.List.{length_push, map-id}
use Rattle.lv_hub.specs.Watchers.{TakesWatchers}
use Rattle.lv_hub.proofs.WatchedLaws.{takes_no_watchers, takes_watcher}
use Rattle.lv_hub.proofs.leaving.leave_all.Goals as goal

pub loop-watcher-init : goal.loop-watcher-init
loop-watcher-init g c =
    (tt, tt, rw c.requires.none (takes_no_watchers g.N.Naming.numbers c.args.share.now), omega (arith, ap length c.requires.none, c.args.room.left.ok.0), refl)

pub loop-watcher-preserved : goal.loop-watcher-preserved
loop-watcher-preserved g c =
    let i = c.loop-watcher.invariant in
    let longer = length_push c.loop-watcher.yielded c.in-Some.watcher in (
      tt,
      tt,
      takes_watcher g.N.Naming.numbers c.args.share.now c.loop-watcher.share c.join.new.self c.loop-watcher.yielded c.loop-watcher.left.items c.push_reserved.new.self.items c.in-Some.watcher c.end-part.result.0 c.end-part.result.1
          i.2 c.join.ensures c.end-part.ensures.share c.end-part.ensures.part c.end-part.ensures.count c.end-part.ensures.left c.push_reserved.ensures.items,
      omega (arith, c.push_reserved.ensures.len, i.3, longer),
      c.push_reserved.ensures.capacity ∙ i.4,
    )

pub push_reserved-requires : goal.push_reserved-requires
push_reserved-requires g c =
    let gives = c.into_iter-watcher-iterator.ensures.into_iter_gives in
    let turn = YieldsList-turn (YieldsList-from_vec c.args.watchers.items gives.0 (gives.1 ∙ c.args.watchers.ok.0)) c.loop-watcher.yielded c.loop-watcher.watcher-iterator c.loop-watcher.yielded_by c.next.result c.next.new.self c.in-Some.watcher c.in-Some.is c.next.ensures.steps in
    omega (arith, turn.0, c.loop-watcher.invariant.3, c.loop-watcher.invariant.4, c.requires.room, c.args.watchers.ok.0)

pub returns-clause-left : goal.returns-clause-left
returns-clause-left g c =
    let gives = c.into_iter-watcher-iterator.ensures.into_iter_gives in
    let end = YieldsList-end (YieldsList-from_vec c.args.watchers.items gives.0 (gives.1 ∙ c.args.watchers.ok.0)) c.loop-watcher.yielded c.loop-watcher.watcher-iterator c.loop-watcher.yielded_by c.next.result c.next.new.self c.in-None.is c.next.ensures.steps in
    subst (λ ws. TakesWatchers g.N.Naming.numbers c.args.share.now c.loop-watcher.share ws c.loop-watcher.left.items) (sym (map-id c.loop-watcher.yielded) ∙ end.0) c.loop-watcher.invariant.2
