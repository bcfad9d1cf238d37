-- Proof of `Desk::hand_over`: lets a prefix see all edits, and hands over what came since an edit.
use Rattle.std.proofs.Common.{◌∙◌, ap, length, subst, sym, arith}
use Rattle.lv_hub.specs.Renewing.{StandsFor, renewed_after}
use Rattle.lv_hub.proofs.DeskLaws.{came_after, renewed_before}
use Rattle.lv_hub.proofs.LogLaws.{came_by, taps_none}
use Rattle.lv_hub.proofs.desks.Desk.hand_over.Goals as goal

-- from the last version on, nothing has come yet
pub invariant_of-self : goal.invariant_of-self
invariant_of-self g c =
    let s = c.self.inside in
    let same = c.grown-grown.ensures.same in (
      ap length same ∙ c.self.invariant.0,
      subst (λ es. StandsFor g.N.Naming.limits s.renewed s.capacity es s.live.history) (sym same) c.self.invariant.1,
      c.self.invariant.2,
      c.self.invariant.3,
      c.self.invariant.4,
      c.self.invariant.5,
      taps_none c.hand_over-from.new.tap s.live.history.journal _ (c.from-edits.ensures ∙ c.edit.ensures) c.hand_over-from.ensures.left,
    )

pub returns-clause-came : goal.returns-clause-came
returns-clause-came g c =
    let s = c.self.inside in
    let journal = s.live.history.journal in
    let entries = c.hand_over-from.new.entries.items in
    came_after c.hand_over-from.result s.renewed c.given_to-given.result c.came_from.result journal c.grown-grown.result entries c.came_from.ensures (c.self.invariant.1.journal ∙ ap (renewed_after s.renewed) (sym c.grown-grown.ensures.all))
    (came_by s.tap journal entries c.hand_over-from.result c.hand_over-from.ensures.from c.hand_over-from.ensures.entries c.self.invariant.6)

pub returns-clause-some : goal.returns-clause-some
returns-clause-some g c =
    let s = c.self.inside in
    renewed_before c.hand_over-from.result s.renewed c.given_to-given.result c.came_from.result c.grown-grown.result c.came_from.ensures (omega (arith, c.self.invariant.1.some, ap length c.grown-grown.ensures.all))
