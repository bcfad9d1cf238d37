-- Proof of `Desk::refusal_without_place`: why an update is refused for which a log, or the vector, has no room.
use Rattle.std.proofs.Common.{◌∙◌, arith, inl, sym}
use Rattle.lv_hub.proofs.DeskLaws.{refuses_told}
use Rattle.lv_hub.proofs.RenewalLaws.{edit_kept, is_worn_out}
use Rattle.lv_hub.proofs.desks.Desk.refusal_without_place.Goals as goal

-- all updates were made for which there are numbers
pub returns-then-is_used_up : goal.returns-then-is_used_up
returns-then-is_used_up g c =
    rw (← c.self.view_is) (inl (is_worn_out g.N.Naming.limits c.self.inside.lasts c.self.inside.head c.args.edit.now _ c.self.invariant.2 c.self.invariant.1.run c.count.ensures (sym c.is_used_up.ensures ∙ c.if-is_used_up.true)))

-- the vector knows the reason, while it holds an update in reserve
pub returns : goal.returns
returns g c =
    let s = c.self.inside in
    let stands = c.self.invariant.1 in
    let left = edit_kept g.N.Naming.limits s.lasts s.renewed s.capacity s.head s.live.history _ c.self.invariant.2 stands c.count.ensures (sym c.is_used_up.ensures ∙ c.if-is_used_up.false) in
    rw (← c.self.view_is) (refuses_told 16777215 g.N.Naming.limits s.renewed s.capacity s.head s.live.history c.args.edit.now c.known_or_no_memory.result (omega arith) stands left (rw c.verdict.ensures at c.known_or_no_memory.ensures))
