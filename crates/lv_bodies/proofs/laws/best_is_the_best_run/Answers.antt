-- Proof of `best_is_the_best_run`: the plain best is the greatest total from some place up to a later one, and there is none if and only if there
-- are no elements.
use Rattle.lv_bodies.specs.PlainLaws.{plain_best-is}
use Rattle.lv_bodies.proofs.laws.best_is_the_best_run.Goals as goal

pub returns : goal.returns
returns c = plain_best-is
