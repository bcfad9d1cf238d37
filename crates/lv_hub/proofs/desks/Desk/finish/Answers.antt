-- Proof of `Desk::finish`: the vector and the updates, once no thread makes any more.
use Rattle.lv_hub.specs.Renewing.{IsClosed}
use Rattle.lv_hub.proofs.RenewalLaws.{stands_alone, stands_list}
use Rattle.lv_hub.proofs.desks.Desk.finish.Goals as goal

pub returns-clause-closed : goal.returns-clause-closed
returns-clause-closed g c =
    let s = c.self.inside in
    let limits = g.N.Naming.limits in
    let stands = c.self.invariant.1 in
    let closed : IsClosed limits s.head s.live.history = record {
      run = stands.run;
      legal = stands.vector.within;
      list = stands_list limits s.renewed s.capacity s.head s.live.history stands;
      one = stands_alone limits s.renewed s.capacity s.head s.live.history stands;
      accepted = c.self.invariant.4;
    } in
    rw (← c.self.view_is) closed
