-- Proof of `take_back`: takes the parts back, and collects the reductions in the order of the sessions in `room`, which is empty.
use Rattle.std.proofs.Common.{◌≡◌, ◌∙◌, All, Some, true, is_ok, ap, rules, subst, sym}
use Rattle.std.proofs.lemmas.Iterator.Adapters.{YieldsList-from_vec}
use Rattle.std.proofs.lemmas.Iterator.Consumers.{YieldsList-end}
use Rattle.std.proofs.lemmas.List.{map-id}
use Rattle.lv_transcript.specs.Transcript.{IsTrueAnswer}
use Rattle.lv_hub.specs.Counting.{AreTogether}
use Rattle.lv_server.specs.Tasks.{listed_in}
use Rattle.lv_transcript.specs.Joined.{in_a_row}
use Rattle.lv_server.proofs.ServedLaws.{row_push, takes_all, takes_next, takes_none}
use Rattle.lv_server.proofs.clients.take_back.Goals as goal

pub loop-session-init : goal.loop-session-init
loop-session-init g c = (tt, tt, rw (c.requires.answers, c.requires.streams) (takes_none c.args.share.now))

pub loop-session-preserved : goal.loop-session-preserved
loop-session-preserved g c =
    let came = c.session.view_is in
    let more = c.in_ok-listed.listed in
    let some : c.in-Some.session.answers ≡ Some more = sym (ap (λ e. e.answers) came) ∙ ap listed_in (c.in-Some-ended.is ∙ ap Some c.in_ok-listed.was) in
    let true_so : All (IsTrueAnswer c.in-Some.session.share.seen) more =
    subst (λ share. All (IsTrueAnswer share.seen) more) (ap (λ e. e.share) came) (rw (c.in-Some-ended.is, c.in_ok-listed.was) at c.session.invariant.1) in
    let both : AreTogether c.loop-session.share c.in-Some.session.share c.join.new.self =
    subst (λ share. AreTogether c.loop-session.share share c.join.new.self) (ap (λ e. e.share) came) c.join.ensures in
    let appended : is_ok c.push.result ≡ true = search rules in
    let pushed : is_ok c.push-in-loop-session.result ≡ true = search rules in (
      tt,
      tt,
      takes_next _ c.args.share.now c.loop-session.share c.join.new.self c.loop-session.yielded (in_a_row c.loop-session.answers.items) more _ c.loop-session.streams.items _ c.session.inside.streams c.in-Some.session
          c.loop-session.invariant.2 both some (sym (ap (λ e. e.share.parts) came) ∙ c.session.invariant.0) true_so
          (ap in_a_row (rw appended at c.push.ensures.items) ∙ row_push c.loop-session.answers.items more) (rw pushed at c.push-in-loop-session.ensures.items) (ap (λ e. e.sides) came),
    )

pub returns-clause-back : goal.returns-clause-back
returns-clause-back g c =
    let gives = c.into_iter-session-iterator.ensures.into_iter_gives in
    let end = YieldsList-end (YieldsList-from_vec c.args.done.items gives.0 (gives.1 ∙ c.args.done.ok.0)) c.loop-session.yielded c.loop-session.session-iterator c.loop-session.yielded_by c.next.result c.next.new.self c.in-None.is c.next.ensures.steps in
    takes_all _ _ _ c.loop-session.yielded c.args.done.items _ c.loop-session.streams.items (sym (map-id c.loop-session.yielded) ∙ end.0) c.loop-session.invariant.2
