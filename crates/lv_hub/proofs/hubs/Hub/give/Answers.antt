-- Proof of `Hub::give`: delivers an outcome.
use Rattle.std.proofs.Common.{◌≡◌, Some, ap, sym, ◌∙◌}
use Rattle.std.proofs.lemmas.Option.{same_Some}
use Rattle.lv_hub.proofs.ToldLaws.{delivery_told}
use Rattle.lv_hub.proofs.hubs.Hub.give.Goals as goal

-- it was answered by the desk in the lock, which has the hub's monoid instance
pub returns : goal.returns
returns g c =
    let of : c.deref_mut.result.now.live.body ≡ c.args.self.now = same_Some _ _ (sym c.give.ensures.body ∙ c.self.invariant ∙ ap Some c.self.view_is) in
    delivery_told g.B.Body.meaning g.B.Body.operations _ _ c.deref_mut.result.now.live c.args.outcome c.give.result c.give.ensures.vector of c.give.ensures.live c.give.ensures.answer
