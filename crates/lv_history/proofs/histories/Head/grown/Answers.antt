-- Proof of `Head::grown`.
use Rattle.std.proofs.Common.{◌≡◌, ap, sym, ◌∙◌, subst, List}
use mathlib.Core.List.{IsPrefix}
use Rattle.lv_history.specs.declared.entries.Entry.{Entry}
use Rattle.lv_history.specs.Growing.{IsUnspent, edits_by}
use Rattle.lv_history.proofs.PermitLaws.{begins_so, still_unspent}
use Rattle.lv_history.proofs.PrefixLaws.{prefix_trans}
use Rattle.lv_history.proofs.StepLaws.{shows_moves}
use Rattle.lv_history.proofs.histories.Head.grown.Goals as goal

pub compare_exchange-requires : goal.compare_exchange-requires
compare_exchange-requires g c =
    let i = c.self.invariant in
    let offer = c.plain-offer.ensures in
    let both : c.learn.new.self.book ≡ g.N.Naming.history.book = c.learn.ensures.0 ∙ ap (λ s. s.book) c.again-both.ensures ∙ i.3 in (
      ap (λ w. w.tracked) i.1,
      both ∙ sym (ap (λ w. w.book) i.1),
      i.2 ∙ sym (ap (λ w. w.book) i.1),
      offer.0,
      rw (ap (λ w. w.key) i.1, offer.3) (shows_moves _ c.learn.new.self.log c.self.inside.pen.nib i.4),
    )

-- nothing was added with the permit after them, so these are all updates
pub returns-clause-begins : goal.returns-clause-begins
returns-clause-begins g c =
    let p = g.N.Naming.history.permit in
    let i = c.self.invariant in
    let e = c.compare_exchange.ensures in
    let mine = c.self.inside.seen.log in
    let both = c.learn.new.self.log in
    let now = c.compare_exchange.new.seen.log in
    let this : IsPrefix mine both = subst (λ (l : List Entry). IsPrefix l both) (ap (λ s. s.log) c.again-both.ensures) c.learn.ensures.2 in
    let still = still_unspent p mine now (prefix_trans mine both now this e.6) (subst (λ q. IsUnspent q now) i.5 e.7.unspent) in
    let that = begins_so p c.prefix.inside.seen.log now (prefix_trans c.prefix.inside.seen.log both now c.learn.ensures.3 e.6) in
    rw (← c.self.view_is, ← c.prefix.view_is) (subst (λ all. IsPrefix (edits_by p c.prefix.inside.seen.log) all) still.edits that)
