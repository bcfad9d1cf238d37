-- Proof of `after_look`: how a call proceeds after its look.
use Rattle.std.proofs.Common.{refl}
use Rattle.lv_machine.proofs.advances.after_look.Goals as goal

pub returns-then-wants_help : goal.returns-then-wants_help
returns-then-wants_help g c = rw (← c.refused_at.ensures, c.in_default.is, ← c.wants_help.ensures, c.if-wants_help.true) refl
