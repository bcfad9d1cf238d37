-- Proof of `Opened::named`: the history under a name: the right to add to it, and a prefix that has seen nothing.
use Rattle.std.proofs.Common.{◌≡◌, ℕ, List, [], sym, ap, arith, ◌∙◌, length, subst}
use Rattle.lv_history.specs.declared.entries.Entry.{Entry}
use Rattle.lv_history.specs.Growing.{IsUnspent, edits_by, head_of, permit_after}
use Rattle.lv_history.proofs.PermitLaws.{unspent_adds_nothing}
use Rattle.lv_history.proofs.histories.Opened.named.Goals as goal

-- the permit of that name isn't spent: so the history is empty
none_yet : (p q : ℕ) (log : List Entry) → q ≡ p → IsUnspent q log → (edits_by p log ≡ []) × (q ≡ permit_after p log)
none_yet p q log is free =
    let nothing = unspent_adds_nothing p log (subst (λ q. IsUnspent q log) is free) in
    (nothing.0, is ∙ sym nothing.1)

pub invariant_of-head : goal.invariant_of-head
invariant_of-head g c =
    let i = c.self.invariant in
    let name = c.self.view_is ∙ c.requires in
    let book = ap (λ h. h.book) name in
    let nothing = none_yet _ _ c.self.inside.seen.log (ap (λ h. h.permit) name) i.3 in
    (ap length (sym nothing.0), i.0 ∙ ap head_of book, i.1 ∙ book, book, i.2, nothing.1, omega arith)

pub returns-clause-head : goal.returns-clause-head
returns-clause-head g c =
    (none_yet _ _ c.self.inside.seen.log (ap (λ h. h.permit) (c.self.view_is ∙ c.requires)) c.self.invariant.3).0

pub returns-clause-prefix : goal.returns-clause-prefix
returns-clause-prefix g c =
    c.prefix-prefix.ensures ∙ (none_yet _ _ c.self.inside.seen.log (ap (λ h. h.permit) (c.self.view_is ∙ c.requires)) c.self.invariant.3).0
