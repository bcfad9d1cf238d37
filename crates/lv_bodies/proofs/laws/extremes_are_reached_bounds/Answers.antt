-- Proof of `extremes_are_reached_bounds`: the plain least and greatest are reached bounds.
use Rattle.lv_bodies.specs.PlainLaws.{plain_least-is, plain_greatest-is}
use Rattle.lv_bodies.proofs.laws.extremes_are_reached_bounds.Goals as goal

pub returns-clause-least : goal.returns-clause-least
returns-clause-least c = plain_least-is

pub returns-clause-greatest : goal.returns-clause-greatest
returns-clause-greatest c = plain_greatest-is
