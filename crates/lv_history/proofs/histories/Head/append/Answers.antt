-- Proof of `Head::append`: adds an update, and spends the permit for that.
use Rattle.std.proofs.Common.{[], ◌∷◌, ◌++◌, ap, arith, length, length-append, sym, ◌∙◌}
use Rattle.lv_history.specs.Growing.{edits_by}
use Rattle.lv_history.proofs.PermitLaws.{HasAdded, adds_one}
use Rattle.lv_history.proofs.StepLaws.{adds_moves}
use Rattle.lv_history.proofs.histories.Head.append.Goals as goal

pub compare_exchange-requires : goal.compare_exchange-requires
compare_exchange-requires g c =
    let i = c.self.invariant in
    let offer = c.plain-offer.ensures in (
      ap (λ w. w.tracked) i.1,
      i.3 ∙ sym (ap (λ w. w.book) i.1),
      i.2 ∙ sym (ap (λ w. w.book) i.1),
      offer.0,
      rw (ap (λ w. w.key) i.1, offer.3) (adds_moves _ c.self.inside.seen.log c.self.inside.pen.nib i.4),
    )

-- what the step added is the next update
pub invariant_of-self : goal.invariant_of-self
invariant_of-self g c =
    let p = g.N.Naming.history.permit in
    let i = c.self.invariant in
    let e = c.compare_exchange.ensures in
    let next = c.take_permit-next in
    let adds = e.7 in
    let added : HasAdded p c.self.inside.seen.log c.compare_exchange.new.seen.log c.args.edit next.result.nib.key =
    adds_one p c.self.inside.pen.nib.key c.self.inside.seen.log adds.before c.compare_exchange.new.seen.log c.args.edit next.result.nib.key i.5 adds.seen adds.unspent
    (rw (c.plain-offer.ensures.1) at adds.added) in (
      omega (arith, i.0, ap length added.edits, length-append (edits_by p c.self.inside.seen.log) (c.args.edit ∷ [])),
      i.1,
      next.ensures.book ∙ ap (λ s. s.book) c.again-aside.ensures ∙ i.3,
      e.0 ∙ i.3,
      next.ensures.right,
      sym added.permit,
      omega (arith, i.0, ap length c.self.view_is, c.requires),
    )

pub returns : goal.returns
returns g c =
    let p = g.N.Naming.history.permit in
    let i = c.self.invariant in
    let adds = c.compare_exchange.ensures.7 in
    let added : HasAdded p c.self.inside.seen.log c.compare_exchange.new.seen.log c.args.edit c.take_permit-next.result.nib.key =
    adds_one p c.self.inside.pen.nib.key c.self.inside.seen.log adds.before c.compare_exchange.new.seen.log c.args.edit c.take_permit-next.result.nib.key i.5 adds.seen adds.unspent
    (rw (c.plain-offer.ensures.1) at adds.added) in
    added.edits ∙ ap (λ es. es ++ c.args.edit ∷ []) c.self.view_is
