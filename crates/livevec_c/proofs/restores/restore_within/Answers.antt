-- Proof of `restore_within`: puts a vector that is made anew from a text into an empty slot, within limits that may not be allowed.
use Rattle.std.proofs.Common.{refl, inr, subst}
use Rattle.livevec_c.specs.Restores.{RestoresAt}
use Rattle.livevec_c.proofs.restores.restore_within.Goals as goal

pub returns-in-Ok : goal.returns-in-Ok
returns-in-Ok c =
    inr (c.in-Ok.ensures.allowed.0 refl, subst (λ l. RestoresAt c.args.only l c.args.text.now c.restore_at.result c.restore_at.new.slot.raw.inner) c.in-Ok.ensures.ok c.restore_at.ensures)
