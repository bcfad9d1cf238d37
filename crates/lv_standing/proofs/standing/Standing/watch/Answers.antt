-- Proof of `Standing::watch`: registers a query of a range.
use Rattle.std.proofs.Common.{◌≡◌, ◌∷◌, ◌++◌, [], None, OnOk, subst}
use Rattle.lv_standing.specs.Queries.{query_refusal}
use Rattle.lv_standing.proofs.standing.Standing.watch.Goals as goal

pub returns-clause-ok : goal.returns-clause-ok
returns-clause-ok c =
    let old = c.args.self.now.queries in
    subst (λ q. OnOk c.watch_query.result ((query_refusal 64 old q ≡ None) × (c.watch_query.new.self.queries ≡ old ++ q ∷ []))) c.between.ensures c.watch_query.ensures.ok
