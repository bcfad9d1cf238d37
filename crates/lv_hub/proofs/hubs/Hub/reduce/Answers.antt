-- Proof of `Hub::reduce`: the fold of the elements from index `lo` up to `hi`, at the last update.
use Rattle.std.proofs.Common.{◌≡◌, Some, ap, rules, subst, sym, ◌∙◌}
use Rattle.std.proofs.lemmas.Option.{same_Some}
use mathlib.Core.List.{IsPrefix}
use Rattle.lv_edits.specs.History.{list_of}
use Rattle.lv_live.specs.Kept.{IsLive}
use Rattle.lv_hub.specs.Renewing.{IsOfOneVector}
use Rattle.lv_hub.specs.Told.{history_of}
use Rattle.lv_hub.proofs.ToldLaws.{reads_told, reduction_number, reduction_told}
use Rattle.lv_hub.proofs.hubs.Hub.reduce.Goals as goal

-- it was answered by the desk in the lock, which has the hub's monoid instance
pub returns-clause-told : goal.returns-clause-told
returns-clause-told g c =
    let s = c.live.result.now in
    let edits = c.deref.result.now.edits in
    let same = subst (λ s. list_of s.history.journal ≡ list_of edits) (sym c.live.ensures.same) c.live.ensures.list in
    let of : s.body ≡ c.args.self.now = same_Some _ _ (ap (λ s. Some s.body) c.live.ensures.same ∙ sym c.live.ensures.body ∙ c.self.invariant ∙ ap Some c.self.view_is) in
    let seen : IsPrefix c.args.share.now.seen c.show.new.share.seen = search rules in
    let is : c.show.new.share.seen ≡ edits = search rules in
    reduction_told g.N.Naming.limits edits _ _ c.live.ensures.within seen is _ _ g.B.Body.operations _ s of c.reduce.result c.reduce.ensures.answer same

pub returns-clause-number : goal.returns-clause-number
returns-clause-number g c =
    let s = c.live.result.now in
    let edits = c.deref.result.now.edits in
    let history = subst (λ s. IsOfOneVector g.N.Naming.limits → s.history ≡ history_of g.N.Naming.limits edits) (sym c.live.ensures.same) c.live.ensures.one in
    let of : s.body ≡ c.args.self.now = same_Some _ _ (ap (λ s. Some s.body) c.live.ensures.same ∙ sym c.live.ensures.body ∙ c.self.invariant ∙ ap Some c.self.view_is) in
    let seen : IsPrefix c.args.share.now.seen c.show.new.share.seen = search rules in
    let is : c.show.new.share.seen ≡ edits = search rules in
    reduction_number g.N.Naming.limits edits _ _ c.live.ensures.within seen is _ _ g.B.Body.operations _ s of c.reduce.result c.reduce.ensures.answer history

pub returns-clause-reads : goal.returns-clause-reads
returns-clause-reads g c =
    let s = c.live.result.now in
    let edits = c.deref.result.now.edits in
    let history = subst (λ s. IsOfOneVector g.N.Naming.limits → s.history ≡ history_of g.N.Naming.limits edits) (sym c.live.ensures.same) c.live.ensures.one in
    let live = subst (λ s. IsLive (g.B.Body.operations s.body) s) (sym c.live.ensures.same) c.live.ensures.live in
    let of : s.body ≡ c.args.self.now = same_Some _ _ (ap (λ s. Some s.body) c.live.ensures.same ∙ sym c.live.ensures.body ∙ c.self.invariant ∙ ap Some c.self.view_is) in
    let seen : IsPrefix c.args.share.now.seen c.show.new.share.seen = search rules in
    let is : c.show.new.share.seen ≡ edits = search rules in
    reads_told g.N.Naming.limits edits _ _ c.live.ensures.within seen is _ _ g.B.Body.operations _ s of c.reduce.result c.reduce.ensures.answer live history
