-- Proof of `join`: a fold with the fold of what follows joined at its end.
use Rattle.std.proofs.Common.{◌+◌, subst, sym}
use Rattle.lv_reduce.proofs.reductions.join.Goals as goal

pub returns-clause-value : goal.returns-clause-value
returns-clause-value g c = c.combine.ensures

pub returns-clause-within : goal.returns-clause-within
returns-clause-within g c n m first second few =
    let body = c.args.body.now in
    subst (λ s. g.B.Body.is_within body s (n + m)) (sym c.combine.ensures)
    ((g.B.Body.laws c.args.body.now).join_within c.args.sum c.args.more n m first second few)
