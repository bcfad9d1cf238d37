-- Proof of `subscribe_all`: gives each subscriber a part of the hub that has seen what the prefix has, which is no updates.
use Rattle.std.proofs.Common.{◌≡◌, ◌∙◌, is_ok, true, refl, ap, sym, map, rules, arith}
use Rattle.std.proofs.lemmas.Iterator.Adapters.{YieldsList-from_vec}
use Rattle.std.proofs.lemmas.Iterator.Consumers.{YieldsList-end, YieldsList-so_far, YieldsList-turn}
use Rattle.std.proofs.lemmas.List.{length_push, map-id}
use Rattle.std.proofs.lemmas.Result.{err_from_is_err_and}
use Rattle.lv_hub.specs.Asking.{refusal_of_all}
use Rattle.lv_hub.proofs.RefusedQuestions.{all_more, all_refused}
use Rattle.lv_hub.proofs.WatchedLaws.{begun_more}
use Rattle.lv_hub.proofs.watchers.subscribe_all.Goals as goal

pub loop-watch-init : goal.loop-watch-init
loop-watch-init g c = (tt, tt, c.new-watchers.ensures.items, omega arith, refl, refl, refl)

pub loop-watch-preserved : goal.loop-watch-preserved
loop-watch-preserved g c =
    let i = c.loop-watch.invariant in
    let longer = length_push c.loop-watch.yielded c.in-Some.watch in
    let pushed : is_ok c.push.result ≡ true = search rules in
    let rest = c.split_at.ensures.rest in (
      tt,
      tt,
      begun_more _ c.loop-watch.watchers.items _ c.in_ok-watcher.watcher c.loop-watch.yielded c.in-Some.watch i.2 (rw pushed at c.push.ensures.items) c.in_ok-watcher.ensures.begun,
      omega (arith, ap (λ share. share.parts) rest, i.3, longer),
      sym (ap (λ share. share.count) rest) ∙ i.4,
      sym (ap (λ share. share.seen) rest) ∙ i.5,
      all_more (λ w. w.questions.items) c.loop-watch.yielded c.in-Some.watch i.6 c.in_ok-watcher.ensures.fit,
    )

-- there is a part for each one that is still to come, and one more for the share
pub split_at-requires : goal.split_at-requires
split_at-requires g c =
    let gives = c.into_iter-watch-iterator.ensures.into_iter_gives in
    let turn = YieldsList-turn (YieldsList-from_vec c.args.watches.items gives.0 (gives.1 ∙ c.args.watches.ok.0)) c.loop-watch.yielded c.loop-watch.watch-iterator c.loop-watch.yielded_by c.next.result c.next.new.self c.in-Some.watch c.in-Some.is c.next.ensures.steps in
    omega (arith, turn.0, c.loop-watch.invariant.3, c.requires.parts, c.args.watches.ok.0)

pub subscribe-requires-clause-parts : goal.subscribe-requires-clause-parts
subscribe-requires-clause-parts g c = ap (λ share. share.parts) c.split_at.ensures.one

pub subscribe-requires-clause-count : goal.subscribe-requires-clause-count
subscribe-requires-clause-count g c = ap (λ share. share.count) c.split_at.ensures.one

pub subscribe-requires-clause-seen : goal.subscribe-requires-clause-seen
subscribe-requires-clause-seen g c = ap (λ share. share.seen) c.split_at.ensures.one ∙ c.requires.unseen

pub returns-clause-parts : goal.returns-clause-parts
returns-clause-parts g c =
    let gives = c.into_iter-watch-iterator.ensures.into_iter_gives in
    let end = YieldsList-end (YieldsList-from_vec c.args.watches.items gives.0 (gives.1 ∙ c.args.watches.ok.0)) c.loop-watch.yielded c.loop-watch.watch-iterator c.loop-watch.yielded_by c.next.result c.next.new.self c.in-None.is c.next.ensures.steps in
    omega (arith, end.1, c.loop-watch.invariant.3, c.args.watches.ok.0)

pub returns-clause-begun : goal.returns-clause-begun
returns-clause-begun g c =
    let gives = c.into_iter-watch-iterator.ensures.into_iter_gives in
    let end = YieldsList-end (YieldsList-from_vec c.args.watches.items gives.0 (gives.1 ∙ c.args.watches.ok.0)) c.loop-watch.yielded c.loop-watch.watch-iterator c.loop-watch.yielded_by c.next.result c.next.new.self c.in-None.is c.next.ensures.steps in
    c.loop-watch.invariant.2 ∙ ap (map _) (sym (map-id c.loop-watch.yielded) ∙ end.0)

pub returns-clause-fit : goal.returns-clause-fit
returns-clause-fit g c =
    let gives = c.into_iter-watch-iterator.ensures.into_iter_gives in
    let end = YieldsList-end (YieldsList-from_vec c.args.watches.items gives.0 (gives.1 ∙ c.args.watches.ok.0)) c.loop-watch.yielded c.loop-watch.watch-iterator c.loop-watch.yielded_by c.next.result c.next.new.self c.in-None.is c.next.ensures.steps in
    ap (λ watches. refusal_of_all (map (λ w. w.questions.items) watches)) (sym (sym (map-id c.loop-watch.yielded) ∙ end.0)) ∙ c.loop-watch.invariant.6

-- the reason is that of the first one that is refused
pub returns-in_err-watcher-clause-refused : goal.returns-in_err-watcher-clause-refused
returns-in_err-watcher-clause-refused g c =
    let gives = c.into_iter-watch-iterator.ensures.into_iter_gives in
    let list = YieldsList-from_vec c.args.watches.items gives.0 (gives.1 ∙ c.args.watches.ok.0) in
    let turn = YieldsList-turn list c.loop-watch.yielded c.loop-watch.watch-iterator c.loop-watch.yielded_by c.next.result c.next.new.self c.in-Some.watch c.in-Some.is c.next.ensures.steps in
    let so_far = sym (map-id c.loop-watch.yielded) ∙ YieldsList-so_far list c.loop-watch.yielded c.loop-watch.watch-iterator c.loop-watch.yielded_by in
    let p = err_from_is_err_and c.from_residual.result c.from_residual.ensures.1 in
    rw (p.1, p.2) (all_refused (λ w. w.questions.items) c.args.watches.items c.loop-watch.yielded c.in-Some.watch _ turn so_far c.loop-watch.invariant.6 c.in_err-watcher.ensures.refused)
