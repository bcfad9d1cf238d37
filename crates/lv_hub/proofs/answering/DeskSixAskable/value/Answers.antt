-- Proof of `value` of a desk: a range that its vector has.
use Rattle.std.proofs.Common.{◌≡◌, ◌∙◌, ◌+◌, ◌≤◌, ap, arith, length, subst, sym}
use Rattle.std.proofs.lemmas.Option.{none-some}
use Rattle.lv_bodies.specs.Plain.{plain_value}
use Rattle.lv_edits.specs.History.{list_of}
use Rattle.lv_standing.proofs.AskableLaws.{from_start}
use Rattle.lv_standing.proofs.RangeLaws.{range_granted}
use Rattle.lv_hub.proofs.DeskLaws.{range_alike}
use Rattle.lv_hub.proofs.RenewalLaws.{stands_list}
use Rattle.lv_hub.proofs.answering.DeskSixAskable.value.Goals as goal

pub overflow_cast-lo : goal.overflow_cast-lo
overflow_cast-lo g c =
    let inside = subst (λ d. c.args.hi ≤ 0 + length (list_of d.live.history.journal)) (sym c.self.view_is) c.requires.inside in
    omega (arith, inside, c.requires.order, c.keeps.ensures.limits.few)

pub overflow_cast-hi : goal.overflow_cast-hi
overflow_cast-hi g c =
    let inside = subst (λ d. c.args.hi ≤ 0 + length (list_of d.live.history.journal)) (sym c.self.view_is) c.requires.inside in
    omega (arith, inside, c.keeps.ensures.limits.few)

pub unreachable-requires : goal.unreachable-requires
unreachable-requires g c =
    let s = c.self.inside in
    let list = stands_list g.N.Naming.limits s.renewed s.capacity s.head s.live.history c.self.invariant.1 in
    let same = subst (λ d. list_of d.live.history.journal ≡ list_of d.edits) c.self.view_is list in
    none-some _ (sym (range_granted c.args.self.now.live.history.journal c.args.lo c.args.hi c.requires.order (omega (arith, c.requires.inside))) ∙ range_alike c.args.self.now.live.history.journal c.args.self.now.edits c.args.lo c.args.hi same ∙ c.in-Err.ensures.err)

pub returns-clause-value : goal.returns-clause-value
returns-clause-value g c =
    c.in-Ok.ensures.vector.value ∙ ap (plain_value c.args.kind) (sym (from_start (list_of c.args.self.now.live.history.journal) c.args.lo c.args.hi))
