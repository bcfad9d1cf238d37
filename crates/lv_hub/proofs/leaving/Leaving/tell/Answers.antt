-- Proof of `Leaving::tell`: has each of them write its last notification, in order, from the vector of the hub that was closed after this many
-- updates, unless these aren't recorded.
use Rattle.std.proofs.Common.{◌∙◌, ◌++◌, [], ◌∷◌, refl, ap, ap₂, sym, subst, arith, length, map}
use Rattle.std.proofs.lemmas.Iterator.Adapters.{YieldsList-from_vec}
use Rattle.std.proofs.lemmas.Iterator.Consumers.{YieldsList-turn, YieldsList-end}
use Rattle.std.proofs.lemmas.List.{length_push, map-append, map-id}
use Rattle.lv_edits.specs.History.{list_of}
use Rattle.lv_edits.specs.Kept.{IsLegalInLimits}
use Rattle.lv_hub.specs.Watchers.{AllTellLast}
use Rattle.lv_hub.proofs.WatchedLaws.{tells_one_more}
use Rattle.lv_hub.proofs.leaving.Leaving.tell.Goals as goal

pub loop-one-init : goal.loop-one-init
loop-one-init g c = (
  tt,
  tt,
  λ edits many same. rw c.requires.none tt,
  record { body = refl; history = refl; claimed = λ n. refl; kept = λ n. refl },
  omega (arith, ap length c.requires.none, c.args.self.watched.ok.0),
  refl,
  λ so. ap (map (λ w. w.notices.contents)) c.requires.none,
)

pub loop-one-preserved : goal.loop-one-preserved
loop-one-preserved g c =
    let i = c.loop-one.invariant in
    let longer = length_push c.loop-one.yielded c.in-Some.one in
    let same = c.tell.ensures.same in (
      tt,
      tt,
      λ edits many alike. tells_one_more edits c.loop-one.yielded (map (λ w. w.notices) c.loop-one.watched.items) _ c.in-Some.one c.tell.result.notices (i.2 edits many alike)
          (c.tell.ensures.last edits many (ap (λ h. list_of h.journal) i.3.history ∙ alike))
          (ap (map (λ w. w.notices)) c.push_reserved.ensures.items ∙ map-append (λ w. w.notices) c.loop-one.watched.items (c.tell.result ∷ [])),
      record {
        body = same.body ∙ i.3.body;
        history = same.history ∙ i.3.history;
        claimed = λ n. same.claimed n ∙ i.3.claimed n;
        kept = λ n. same.kept n ∙ i.3.kept n;
      },
      omega (arith, c.push_reserved.ensures.len, i.4, longer),
      c.push_reserved.ensures.capacity ∙ i.5,
      λ so. ap (map (λ w. w.notices.contents)) c.push_reserved.ensures.items ∙ map-append (λ w. w.notices.contents) c.loop-one.watched.items (c.tell.result ∷ [])
          ∙ ap₂ (λ told more. told ++ more ∷ []) (i.6 so) (c.tell.ensures.unrecorded so) ∙ sym (map-append (λ k. k.notices.contents) c.loop-one.yielded (c.in-Some.one ∷ [])),
    )

pub tell-requires-clause-legal : goal.tell-requires-clause-legal
tell-requires-clause-legal g c = subst IsLegalInLimits (sym c.loop-one.invariant.3.history) c.requires.legal

pub push_reserved-requires : goal.push_reserved-requires
push_reserved-requires g c =
    let gives = c.into_iter-one-iterator.ensures.into_iter_gives in
    let turn = YieldsList-turn (YieldsList-from_vec c.args.self.left.items gives.0 (gives.1 ∙ c.args.self.left.ok.0)) c.loop-one.yielded c.loop-one.one-iterator c.loop-one.yielded_by c.next.result c.next.new.self c.in-Some.one c.in-Some.is c.next.ensures.steps in
    omega (arith, turn.0, c.loop-one.invariant.4, c.loop-one.invariant.5, c.requires.room, c.args.self.left.ok.0)

pub returns-clause-last : goal.returns-clause-last
returns-clause-last g c =
    let gives = c.into_iter-one-iterator.ensures.into_iter_gives in
    let end = YieldsList-end (YieldsList-from_vec c.args.self.left.items gives.0 (gives.1 ∙ c.args.self.left.ok.0)) c.loop-one.yielded c.loop-one.one-iterator c.loop-one.yielded_by c.next.result c.next.new.self c.in-None.is c.next.ensures.steps in
    λ edits many alike. subst (λ ls. AllTellLast edits ls (map (λ w. w.notices) c.loop-one.watched.items)) (sym (map-id c.loop-one.yielded) ∙ end.0) (c.loop-one.invariant.2 edits many alike)

-- if the updates aren't recorded, no subscriber has written anything
pub returns-clause-unrecorded : goal.returns-clause-unrecorded
returns-clause-unrecorded g c =
    let gives = c.into_iter-one-iterator.ensures.into_iter_gives in
    let end = YieldsList-end (YieldsList-from_vec c.args.self.left.items gives.0 (gives.1 ∙ c.args.self.left.ok.0)) c.loop-one.yielded c.loop-one.one-iterator c.loop-one.yielded_by c.next.result c.next.new.self c.in-None.is c.next.ensures.steps in
    λ so. c.loop-one.invariant.6 so ∙ ap (map (λ k. k.notices.contents)) (sym (map-id c.loop-one.yielded) ∙ end.0)

pub returns-clause-same : goal.returns-clause-same
returns-clause-same g c = c.loop-one.invariant.3
