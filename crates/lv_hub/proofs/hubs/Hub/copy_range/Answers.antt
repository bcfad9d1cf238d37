-- Proof of `Hub::copy_range`: the elements of a range, copied under the lock.
use Rattle.std.proofs.Common.{◌≡◌, Some, ap, rules, subst, sym, ◌∙◌}
use Rattle.std.proofs.lemmas.Option.{same_Some}
use mathlib.Core.List.{IsPrefix}
use Rattle.lv_edits.specs.History.{list_of}
use Rattle.lv_hub.specs.Renewing.{IsOfOneVector}
use Rattle.lv_hub.specs.Told.{history_of}
use Rattle.lv_hub.proofs.ToldLaws.{stretch_number, stretch_told}
use Rattle.lv_hub.proofs.hubs.Hub.copy_range.Goals as goal

-- it was copied from the desk in the lock, which has the hub's monoid instance
pub returns-clause-told : goal.returns-clause-told
returns-clause-told g c =
    let s = c.live.result.now in
    let edits = c.deref.result.now.edits in
    let same = subst (λ s. list_of s.history.journal ≡ list_of edits) (sym c.live.ensures.same) c.live.ensures.list in
    let of : s.body ≡ c.args.self.now = same_Some _ _ (ap (λ s. Some s.body) c.live.ensures.same ∙ sym c.live.ensures.body ∙ c.self.invariant ∙ ap Some c.self.view_is) in
    let seen : IsPrefix c.args.share.now.seen c.show.new.share.seen = search rules in
    let is : c.show.new.share.seen ≡ edits = search rules in
    stretch_told g.N.Naming.limits edits _ _ c.live.ensures.within seen is _ _ _ s of c.copy_range.result c.copy_range.ensures.ok same c.copy_range.ensures.body c.copy_range.ensures.err

pub returns-clause-number : goal.returns-clause-number
returns-clause-number g c =
    let s = c.live.result.now in
    let edits = c.deref.result.now.edits in
    let history = subst (λ s. IsOfOneVector g.N.Naming.limits → s.history ≡ history_of g.N.Naming.limits edits) (sym c.live.ensures.same) c.live.ensures.one in
    let of : s.body ≡ c.args.self.now = same_Some _ _ (ap (λ s. Some s.body) c.live.ensures.same ∙ sym c.live.ensures.body ∙ c.self.invariant ∙ ap Some c.self.view_is) in
    let seen : IsPrefix c.args.share.now.seen c.show.new.share.seen = search rules in
    let is : c.show.new.share.seen ≡ edits = search rules in
    stretch_number g.N.Naming.limits edits _ _ c.live.ensures.within seen is _ _ _ s of c.copy_range.result c.copy_range.ensures.ok history
