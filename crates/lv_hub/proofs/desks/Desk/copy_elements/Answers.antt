-- Proof of `Desk::copy_elements`: copies the elements, if a prefix has seen all updates.
use Rattle.std.proofs.Common.{◌≡◌, ◌∙◌, ap, length, subst, sym}
use Rattle.lv_edits.specs.History.{list_of}
use Rattle.lv_hub.specs.Renewing.{IsRun, StandsFor}
use Rattle.lv_hub.proofs.DeskLaws.{copied_all, copied_elements, copied_few, copy_refused, same_as_all}
use Rattle.lv_hub.proofs.RenewalLaws.{stands_list}
use Rattle.lv_hub.proofs.desks.Desk.copy_elements.Goals as goal

pub invariant_of-self : goal.invariant_of-self
invariant_of-self g c =
    let s = c.self.inside in
    let same = c.grown.ensures.same in (
      ap length same ∙ c.self.invariant.0,
      subst (λ es. StandsFor g.N.Naming.limits s.renewed s.capacity es s.live.history) (sym same) c.self.invariant.1,
      c.self.invariant.2,
      c.self.invariant.3,
      c.self.invariant.4,
      c.self.invariant.5,
      c.self.invariant.6,
    )

pub returns-clause-elements : goal.returns-clause-elements
returns-clause-elements g c =
    let s = c.self.inside in
    let all : c.args.prefix.now ≡ s.head = same_as_all c.args.prefix.now s.head _ _ c.grown.ensures.begins c.count-seen.ensures.count c.count.ensures c.if-seen-count.false in
    copied_all s.live.history.journal c.args.prefix.now c.size-size.result c.copy_range.result c.size-size.ensures (stands_list g.N.Naming.limits s.renewed s.capacity s.head s.live.history c.self.invariant.1 ∙ ap list_of (sym all)) c.copy_range.ensures.ok

pub returns-clause-few : goal.returns-clause-few
unfolding returns-clause-elements
returns-clause-few g c =
    let s = c.self.inside in
    let all : c.args.prefix.now ≡ s.head = same_as_all c.args.prefix.now s.head _ _ c.grown.ensures.begins c.count-seen.ensures.count c.count.ensures c.if-seen-count.false in
    let run = subst (IsRun g.N.Naming.limits) (sym all) c.self.invariant.1.run in
    copied_few c.args.prefix.now c.copy_range.result run.few (returns-clause-elements g c)

pub returns-clause-all : goal.returns-clause-all
unfolding returns-clause-elements
returns-clause-all g c =
    let s = c.self.inside in
    let all : c.args.prefix.now ≡ s.head = same_as_all c.args.prefix.now s.head _ _ c.grown.ensures.begins c.count-seen.ensures.count c.count.ensures c.if-seen-count.false in
    let run = subst (IsRun g.N.Naming.limits) (sym all) c.self.invariant.1.run in
    copied_elements c.args.prefix.now c.copy_range.result run.elements (returns-clause-elements g c)

pub returns-clause-err : goal.returns-clause-err
returns-clause-err g c = copy_refused c.self.inside.live.history.journal c.size-size.result c.copy_range.result c.size-size.ensures c.copy_range.ensures.err
