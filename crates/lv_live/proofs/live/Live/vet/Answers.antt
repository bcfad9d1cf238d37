-- Proof of `Live::vet`: whether an outcome may be accepted: its node isn't whole, or was touched by another edit last, or what it carries is what
-- the vector has now.
use Rattle.std.proofs.Common.{◌∙◌, sym}
use Rattle.lv_live.proofs.DeliverLaws.{vouched_where}
use Rattle.lv_live.proofs.live.Live.vet.Goals as goal

pub returns-then-same : goal.returns-then-same
returns-then-same g c =
    rw (← c.self.view_is) (rw (← c.node-node.ensures.value) (rw (← c.version.ensures) (rw (← c.as_contents-contents.ensures) (rw (← c.body.ensures)
    (vouched_where (g.B.Body.operations c.self.inside.body) (g.B.Body.is_within c.self.inside.body) (g.B.Body.laws c.self.inside.body) _ c.self.invariant
    c.node-node.result c.version.result c.as_contents-contents.result.now _ c.stands_here.result (cc) (sym c.touched.ensures.value ∙ c.if-touched-version.false) (c.same.ensures.0 c.if-same.true) (c.stands_here.ensures c.self.inside.claims))))))
