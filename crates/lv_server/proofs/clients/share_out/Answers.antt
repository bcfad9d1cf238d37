-- Proof of `share_out`: gives each session a part of the hub, which has seen what the share has, and reserves memory for it.
use Rattle.std.proofs.Common.{◌≡◌, ◌∙◌, None, is_ok, true, refl, ap, sym, map, rules, arith}
use Rattle.std.proofs.lemmas.Iterator.Adapters.{YieldsList-from_vec}
use Rattle.std.proofs.lemmas.Iterator.Consumers.{YieldsList-turn, YieldsList-end}
use Rattle.std.proofs.lemmas.List.{length_push, map-id}
use Rattle.lv_server.specs.Served.{Sides}
use Rattle.lv_server.specs.Tasks.{Sitting, begun_at}
use Rattle.lv_server.proofs.ServedLaws.{begins_one_more}
use Rattle.lv_server.proofs.clients.share_out.Goals as goal

pub invariant_of-task : goal.invariant_of-task
invariant_of-task g c = (ap (λ share. share.parts) c.split.ensures.one, tt)

pub loop-streams-preserved : goal.loop-streams-preserved
loop-streams-preserved g c =
    let i = c.loop-streams.invariant in
    let longer = length_push c.loop-streams.yielded c.in-Some.streams in
    let pushed : is_ok c.push.result ≡ true = search rules in
    let rest = c.split.ensures.rest in
    let sides : Sides = record { lines = g.F.Read.remaining c.in-Some.streams.lines; replies = g.F.Write.contents c.in-Some.streams.replies } in
    let task : Sitting = record { share = c.split.result; sides = sides; waits = true; answers = None } in
    let begun : task ≡ begun_at c.args.share.now.seen sides = ap (λ share. record { share = share; sides = sides; waits = true; answers = None }) (c.split.ensures.one ∙ ap (λ seen. record { parts = 1; count = 0; seen = seen }) i.5) in (
      tt,
      tt,
      begins_one_more _ c.loop-streams.tasks.items _ task c.loop-streams.yielded c.in-Some.streams i.2 (rw pushed at c.push.ensures.items) begun,
      omega (arith, ap (λ share. share.parts) rest, i.3, longer),
      sym (ap (λ share. share.count) rest) ∙ i.4,
      sym (ap (λ share. share.seen) rest) ∙ i.5,
    )

pub loop-streams-init : goal.loop-streams-init
loop-streams-init g c = (tt, tt, c.new-tasks.ensures.items, omega (arith, c.requires), refl, refl)

-- there is a part for each stream that is still to come, and one more for the share
pub split-requires : goal.split-requires
split-requires g c =
    let gives = c.into_iter-streams-iterator.ensures.into_iter_gives in
    let turn = YieldsList-turn (YieldsList-from_vec c.args.streams.items gives.0 (gives.1 ∙ c.args.streams.ok.0)) c.loop-streams.yielded c.loop-streams.streams-iterator c.loop-streams.yielded_by c.next.result c.next.new.self c.in-Some.streams c.in-Some.is c.next.ensures.steps in
    omega (arith, turn.0, c.loop-streams.invariant.3, c.args.streams.ok.0)

pub returns-clause-parts : goal.returns-clause-parts
returns-clause-parts g c =
    let gives = c.into_iter-streams-iterator.ensures.into_iter_gives in
    let end = YieldsList-end (YieldsList-from_vec c.args.streams.items gives.0 (gives.1 ∙ c.args.streams.ok.0)) c.loop-streams.yielded c.loop-streams.streams-iterator c.loop-streams.yielded_by c.next.result c.next.new.self c.in-None.is c.next.ensures.steps in
    omega (arith, end.1, c.loop-streams.invariant.3, c.args.streams.ok.0)

pub returns-clause-begun : goal.returns-clause-begun
returns-clause-begun g c =
    let gives = c.into_iter-streams-iterator.ensures.into_iter_gives in
    let end = YieldsList-end (YieldsList-from_vec c.args.streams.items gives.0 (gives.1 ∙ c.args.streams.ok.0)) c.loop-streams.yielded c.loop-streams.streams-iterator c.loop-streams.yielded_by c.next.result c.next.new.self c.in-None.is c.next.ensures.steps in
    c.loop-streams.invariant.2 ∙ ap (map _) (sym (map-id c.loop-streams.yielded) ∙ end.0)
