-- Proof of `Live::deliver`: delivers what a job of this vector gave, given only the job's node and version.
use Rattle.lv_bodies.specs.Body.{fold_of}
use Rattle.lv_edits.specs.Touch.{elements_under}
use Rattle.lv_live.proofs.DeliverLaws.{claimed_heard, delivered, live_after_anew, ready_to_remake}
use Rattle.lv_live.proofs.RememberLaws.{fresh_after_delivery}
use Rattle.lv_live.proofs.live.Live.deliver.Goals as goal

pub deliver_anew-requires-clause-ready : goal.deliver_anew-requires-clause-ready
deliver_anew-requires-clause-ready g c κs within =
    ready_to_remake (g.B.Body.operations c.self.inside.body) (g.B.Body.is_within c.self.inside.body) (g.B.Body.laws c.self.inside.body) _ c.self.invariant
    c.args.node c.args.version (rw (← c.self.view_is) at c.requires)

pub invariant_of-self : goal.invariant_of-self
invariant_of-self g c =
    let anew = c.deliver_anew in
    live_after_anew (g.B.Body.operations c.self.inside.body) (g.B.Body.is_within c.self.inside.body) (g.B.Body.laws c.self.inside.body) _ c.self.invariant
    anew.new.table anew.new.claims c.args.node c.args.version anew.result anew.ensures.accepted anew.ensures.after anew.ensures.hears

pub returns-clause-delivered : goal.returns-clause-delivered
returns-clause-delivered g c =
    let o = g.B.Body.operations c.self.inside.body in
    let within = g.B.Body.is_within c.self.inside.body in
    let laws = g.B.Body.laws c.self.inside.body in
    let anew = c.deliver_anew in
    rw (← c.self.view_is)
    (delivered o within laws _ c.self.invariant anew.new.table anew.new.claims c.args.node c.args.version (fold_of o (elements_under c.self.inside.history.journal c.args.node)) anew.result (claimed_heard o within laws _ c.self.invariant anew.new.claims c.args.node anew.result anew.ensures.hears) anew.ensures.after)

pub returns-clause-remembers : goal.returns-clause-remembers
returns-clause-remembers g c =
    let anew = c.deliver_anew in
    let fold = fold_of (g.B.Body.operations c.self.inside.body) (elements_under c.self.inside.history.journal c.args.node) in
    rw (← c.self.view_is) (λ n fresh whole touched. fresh_after_delivery c.self.inside.table anew.new.table c.args.node c.args.version fold anew.result anew.ensures.accepted anew.ensures.after n fresh)
