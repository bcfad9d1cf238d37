-- Proof of `Desk::value`: the value of a kind over the elements from index `lo` up to `hi`.
use Rattle.lv_hub.proofs.DeskLaws.{as_many_edits, refused_values_alike, value_number, values_alike}
use Rattle.lv_hub.proofs.RenewalLaws.{stands_list}
use Rattle.lv_hub.proofs.desks.Desk.value.Goals as goal

pub returns-clause-ok : goal.returns-clause-ok
returns-clause-ok g c =
    let s = c.self.inside in
    rw (← c.self.view_is) (values_alike s.live.history.journal s.head c.args.kind c.args.lo c.args.hi c.value_beside.result (stands_list g.N.Naming.limits s.renewed s.capacity s.head s.live.history c.self.invariant.1) c.value_beside.ensures.ok)

pub returns-clause-err : goal.returns-clause-err
returns-clause-err g c =
    let s = c.self.inside in
    rw (← c.self.view_is) (refused_values_alike s.live.history.journal s.head c.args.lo c.args.hi c.value_beside.result (stands_list g.N.Naming.limits s.renewed s.capacity s.head s.live.history c.self.invariant.1) c.value_beside.ensures.err)

pub returns-clause-number : goal.returns-clause-number
returns-clause-number g c = λ one.
    let s = c.self.inside in
    rw (← c.self.view_is) (value_number s.live.history.journal s.head c.args.kind c.args.lo c.args.hi c.value_beside.result (as_many_edits g.N.Naming.limits s.renewed s.capacity s.head s.live.history c.self.invariant.1 one) c.value_beside.ensures.ok)
