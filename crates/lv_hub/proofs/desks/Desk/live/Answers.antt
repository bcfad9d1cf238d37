-- Proof of `Desk::live`: the vector, which has the hub's elements.
use Rattle.lv_hub.proofs.RenewalLaws.{stands_alone, stands_list}
use Rattle.lv_hub.proofs.desks.Desk.live.Goals as goal

pub returns-clause-list : goal.returns-clause-list
returns-clause-list g c =
    let s = c.self.inside in
    rw (← c.self.view_is) (stands_list g.N.Naming.limits s.renewed s.capacity s.head s.live.history c.self.invariant.1)

pub returns-clause-one : goal.returns-clause-one
returns-clause-one g c = λ one.
    let s = c.self.inside in
    rw (← c.self.view_is) (stands_alone g.N.Naming.limits s.renewed s.capacity s.head s.live.history c.self.invariant.1 one)
