-- Proof of `shown_fold`: what a body of one kind shows of some elements.
use Rattle.std.proofs.Common.{ap, ◌∙◌}
use Rattle.lv_transcript.proofs.BlockLaws.{slice_can_fold}
use Rattle.lv_transcript.proofs.kind_folds.shown_fold.Goals as goal

pub returns-clause-value : goal.returns-clause-value
returns-clause-value g c =
    let body = c.args.body.now in
    let fold = c.in_ok-fold.ensures.fold in
    let can = slice_can_fold (g.B.Body.operations body) (g.B.Body.is_within body) (g.B.Body.laws body) c.args.list.now c.requires.few c.args.lo c.args.hi c.requires.order c.requires.inside fold.elements in
    c.shown.ensures ∙ ap (g.B.Single.shown_as body) fold.fold ∙ (g.met.B.Single g.world.𝓛 g.world.𝓜 g.world.𝓡 ((λ s x. x), (λ p. p), (λ n s. n s), (λ p. p))).shows_plain body _ can
