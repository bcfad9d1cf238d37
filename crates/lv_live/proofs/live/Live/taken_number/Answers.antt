-- Proof of `Live::taken_number`: the number of the subtree of an outcome, if that may be taken in.
use Rattle.std.proofs.Common.{sym}
use Rattle.lv_live.proofs.live.Live.taken_number.Goals as goal

pub returns-then-subtree_stands-clause-some : goal.returns-then-subtree_stands-clause-some
returns-then-subtree_stands-clause-some g c =
    record { copied = c.in-Some.job.now; outcome_is = c.in-Some.ensures; number_is = sym c.number.ensures; stands = c.subtree_stands.ensures.0 c.if-subtree_stands.true }
