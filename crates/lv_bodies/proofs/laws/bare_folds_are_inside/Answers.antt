-- Proof of `bare_folds_are_inside`: the bare folds are what is inside those that may be missing.
use Rattle.std.specs.Int.{int_min, int_max}
use Rattle.lv_bodies.specs.BareLaws.{bare-is-extreme, runs-is-best}
use Rattle.lv_bodies.specs.ExtremeLaws.{upward, downward}
use Rattle.lv_bodies.proofs.laws.bare_folds_are_inside.Goals as goal

pub returns-clause-lowest : goal.returns-clause-lowest
returns-clause-lowest c = λ xs some can. bare-is-extreme int_min _ upward xs some can.elements

pub returns-clause-highest : goal.returns-clause-highest
returns-clause-highest c = λ xs some can. bare-is-extreme int_max _ downward xs some can.elements

pub returns-clause-runs : goal.returns-clause-runs
returns-clause-runs c = λ xs some can. runs-is-best xs some can.elements
