-- Proof of `Live::accept_each`.
use Rattle.std.proofs.Common.{◌≡◌, ◌∙◌, subst, arith}
use Rattle.std.proofs.lemmas.List.{take_all}
use Rattle.lv_live.specs.Batches.{DeliversFrom, DeliversOne, none_told}
use Rattle.lv_live.proofs.BatchLaws.{counted_once, delivers_next}
use Rattle.lv_live.proofs.live.Live.accept_each.Goals as goal

pub loop-outcome-preserved : goal.loop-outcome-preserved
loop-outcome-preserved g c =
    let o = g.B.Body.operations c.args.self.now.body in
    let kept = c.loop-outcome.invariant in
    let i = c.loop-outcome.outcome-index in
    let one = subst (λ b. DeliversOne (g.B.Body.operations b) (λ body. g.B.Body.meaning b ≡ g.B.Body.meaning body) c.outcome-item.result c.loop-outcome.self c.accept_next-told.new.self c.loop-outcome.told c.accept_next-told.result) kept.2 c.accept_next-told.ensures in
    let counted = counted_once o (λ body. g.B.Body.meaning c.args.self.now.body ≡ g.B.Body.meaning body) c.outcome-item.result c.loop-outcome.self c.accept_next-told.new.self c.loop-outcome.told c.accept_next-told.result one in (
      delivers_next o (λ body. g.B.Body.meaning c.args.self.now.body ≡ g.B.Body.meaning body) c.args.outcomes.now i _ c.outcome-item.result c.loop-outcome-test.true c.outcome-item.is c.args.self.now c.loop-outcome.self c.accept_next-told.new.self none_told c.loop-outcome.told c.accept_next-told.result kept.0 one,
      omega (arith, counted.0, kept.1),
      counted.1 ∙ kept.2,
      counted.2 ∙ kept.3,
    )

pub returns-clause-delivers : goal.returns-clause-delivers
returns-clause-delivers g c =
    subst (λ jobs. DeliversFrom (g.B.Body.operations c.args.self.now.body) (λ body. g.B.Body.meaning c.args.self.now.body ≡ g.B.Body.meaning body) jobs c.args.self.now c.loop-outcome.self none_told c.loop-outcome.told)
    (take_all c.loop-outcome.outcome-index c.args.outcomes.now (omega (arith, c.loop-outcome-test.false))) c.loop-outcome.invariant.0
