-- Proof of `livevec_proved_new`: puts a new vector into an empty slot.
use Rattle.std.proofs.Common.{refl, inr, sym, subst}
use Rattle.livevec_c.specs.Lives.{OpensBy, table_asked}
use Rattle.livevec_c.proofs.Empty.{is_none-None}
use Rattle.livevec_c.proofs.lifetimes.livevec_proved_new.Goals as goal

pub returns-in-Ok : goal.returns-in-Ok
returns-in-Ok c =
    let opened = subst (λ k. OpensBy c.in-Some.only (table_asked c.args.by_table c.args.table.now.next) k c.open_by.result c.open_by.new.slot.raw.inner) c.in-Ok.ensures.ok c.open_by.ensures in
    rw (is_none-None _ (sym c.if-is_full.ensures.full)) (rw (sym c.in-Some.ensures) (inr (c.in-Ok.ensures.allowed.0 refl, opened)))
