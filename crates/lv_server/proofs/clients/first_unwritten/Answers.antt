-- Proof of `first_unwritten`: succeeds if all notifications were written.
use Rattle.std.proofs.Common.{◌∙◌, ◌≡◌, All, ap, false, sym, subst, arith}
use Rattle.std.proofs.lemmas.List.{take_all}
use Rattle.std.proofs.lemmas.List.Elements.{All-more}
use Rattle.lv_server.proofs.clients.first_unwritten.Goals as goal

pub loop-one-preserved : goal.loop-one-preserved
loop-one-preserved g c = All-more (λ w. w.notices.failed ≡ false) c.args.watched.now c.loop-one.one-index _ c.loop-one-test.true c.loop-one.invariant (sym (ap (λ w. w.notices.failed) c.one-item.is) ∙ sym c.has_failed.ensures ∙ c.if-has_failed.false)

pub returns-clause-written : goal.returns-clause-written
returns-clause-written g c = subst (All (λ w. w.notices.failed ≡ false)) (take_all c.loop-one.one-index c.args.watched.now (omega (arith, c.loop-one-test.false))) c.loop-one.invariant
