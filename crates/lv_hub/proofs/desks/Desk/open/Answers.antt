-- Proof of `Desk::open`: does what `new` does, for a hub of one vector or, if it lasts, for a hub that continues when its vector's updates are
-- used up.
use Rattle.std.proofs.Common.{◌∙◌, Some, [], length, refl, sym, subst, ap}
use Rattle.lv_bodies.specs.Plain.{program_table}
use Rattle.lv_tree.specs.Kinds.{AreKept, AreReady}
use Rattle.lv_tree.proofs.KeptLaws.{AreReady-new}
use Rattle.lv_transcript.specs.Transcript.{AreAccepted, greatest}
use Rattle.lv_hub.specs.Renewing.{StandsFor}
use Rattle.lv_hub.specs.Told.{history_of}
use Rattle.lv_hub.proofs.RenewalLaws.{opened_so, opened_vector, stands_at_first}
use Rattle.lv_hub.proofs.desks.Desk.open.Goals as goal

pub invariant_of-desk : goal.invariant_of-desk
invariant_of-desk g c =
    let limits = g.N.Naming.limits in
    let few = c.edits.ensures.allowed.few_edits in
    let is = opened_vector limits c.args.limits c.args.lasts c.requires.limits c.requires.many few in
    let live = c.new-live in
    let empty = ap (λ h. h.journal) live.ensures.history in
    let none = c.named-head.ensures.head in
    let kept = subst (λ t. AreKept t [] c.new-kinds.result) c.program.ensures c.new-kinds.ensures.kept in (
      ap length none ∙ sym c.open-book.ensures.total,
      subst (λ es. StandsFor limits 0 0 es live.result.history) (sym none) (stands_at_first limits live.result.history 0 live.ensures.limits (live.ensures.history ∙ ap (λ l. history_of l []) is) refl),
      opened_so limits c.args.limits c.args.lasts c.requires.limits few,
      c.requires.body ∙ ap Some (sym live.ensures.body),
      subst (AreAccepted greatest) (sym empty) tt,
      subst (λ es. AreReady program_table es c.new-kinds.result) (sym empty) (AreReady-new program_table c.new-kinds.result kept),
      tt,
    )
