-- Proof of `Store::stretch`: the elements from index `from` on, before `to`.
use Rattle.std.proofs.Common.{◌+◌, ◌≤◌, ap, arith, drop, length, subst, take, ◌∙◌}
use Rattle.lv_store.specs.Inner.{IsStore}
use Rattle.lv_store.proofs.ElementsLaws.{free_of_writes}
use Rattle.lv_store.proofs.stores.Store.stretch.Goals as goal

pub returns-clause-items : goal.returns-clause-items
returns-clause-items c =
    let lent = c.slice_from.ensures in
    let sound = subst IsStore c.self.view_is c.self.invariant in
    let store = c.args.self.now in
    let count = length c.slice_from.result.now in
    let ends = c.end_before_writes-end.ensures in
    let inside : c.args.from + count ≤ length store.values = omega (arith, lent.few, ends.low, ends.high, c.requires.inside, sound.values) in
    lent.cells
    ∙ ap (λ s. take count (drop c.args.from s.values)) c.self.view_is
    ∙ free_of_writes store c.args.from count inside (λ i from below. rw (← c.self.view_is) (ends.free i from (omega (arith, lent.few, ends.low))))
