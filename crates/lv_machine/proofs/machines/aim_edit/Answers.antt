-- Proof of `aim_edit`: an update of an element, if that fits into 16 bits.
use Rattle.std.proofs.Common.{sym, ap, ◌∙◌, w64}
use Rattle.std.proofs.lemmas.Bool.{cond-false, cond-true}
use Rattle.std.proofs.lemmas.Int.{to_z-of_z}
use Rattle.lv_machine.specs.Calls.{is_short}
use Rattle.lv_machine.proofs.machines.aim_edit.Goals as goal

pub returns-then-fits_short : goal.returns-then-fits_short
returns-then-fits_short g = sym (cond-true _ _ _ (ap is_short (sym (to_z-of_z w64 g.args.x g.ranges.x)) ∙ sym g.fits_short.ensures ∙ g.if-fits_short.true))

pub returns-else-fits_short : goal.returns-else-fits_short
returns-else-fits_short g = sym (cond-false _ _ _ (ap is_short (sym (to_z-of_z w64 g.args.x g.ranges.x)) ∙ sym g.fits_short.ensures ∙ g.if-fits_short.false))
