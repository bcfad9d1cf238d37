-- Proof of `Queries::watch`: registers a question.
use Rattle.livevec_c.proofs.SetLaws.{set_watched}
use Rattle.livevec_c.proofs.queries.Queries.watch.Goals as goal

pub returns-clause-ok : goal.returns-clause-ok
returns-clause-ok c =
    rw (← c.self.view_is) (set_watched c.watch.result c.self.inside.set c.watch.new.self c.args.question.now c.untold.result c.self.invariant c.untold.ensures c.watch.ensures.ok)
