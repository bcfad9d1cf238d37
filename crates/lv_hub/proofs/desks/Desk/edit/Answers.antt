-- Proof of `Desk::edit`: makes an update.
use Rattle.std.proofs.Common.{◌<◌, ◌^◌, ◌++◌, ◌∷◌, [], IfSome, Ok, Some, ap, arith, length, option_map, rules, subst, sym, ◌∙◌}
use Rattle.std.proofs.lemmas.List.{length_push}
use Rattle.lv_bodies.specs.Plain.{program_table}
use Rattle.lv_edits.specs.declared.receipt.Receipt.{Receipt}
use Rattle.lv_tree.proofs.KeptLaws.{AreReady-still}
use Rattle.lv_transcript.specs.Transcript.{AreAccepted, greatest}
use Rattle.lv_hub.specs.declared.log_entry.LogEntry.TheVariants as logged
use Rattle.lv_hub.specs.Logging.{Taps, with_entry}
use Rattle.lv_hub.specs.Renewing.{StandsFor, vector_limits}
use Rattle.lv_hub.specs.Work.{makes_work}
use Rattle.lv_hub.proofs.AcceptedLaws.{all_accepted}
use Rattle.lv_hub.proofs.DeskLaws.{accepts_told, number_told, refused_answer, refuses_told, same_work}
use Rattle.lv_hub.proofs.LogLaws.{taps_edit}
use Rattle.lv_hub.proofs.RenewalLaws.{edit_stands, edits_left, few_edits}
use Rattle.lv_hub.proofs.WorkLaws.{no_new_wants}
use Rattle.lv_hub.proofs.desks.Desk.edit.Goals as goal

-- there is a number for one more update
pub append-requires : goal.append-requires
append-requires g c =
    let s = c.self.inside in
    let left = edits_left g.N.Naming.limits s.lasts s.head s.live.history _ _ c.self.invariant.2 c.edit.ensures (c.count.ensures ∙ ap length c.see.ensures.same) (c.is_full.ensures.left c.if-is_full.false) in
    subst (λ es. length es < 2 ^ 62) (sym c.see.ensures.same) (few_edits 16777214 g.N.Naming.limits s.head s.live.history c.self.invariant.1.run left)

-- vector, book and history have one more update, and the trees of kinds have it too
pub invariant_of-self-2 : goal.invariant_of-self-2
invariant_of-self-2 g c =
    let limits = g.N.Naming.limits in
    let s = c.self.inside in
    let new = c.make_edit.new.live.history in
    let stands = c.self.invariant.1 in
    let accepts = c.in_ok-receipt.ensures.answer in
    let left = edits_left limits s.lasts s.head s.live.history _ _ c.self.invariant.2 c.edit.ensures (c.count.ensures ∙ ap length c.see.ensures.same) (c.is_full.ensures.left c.if-is_full.false) in
    let made = edit_stands limits s.renewed s.capacity s.head c.args.edit s.live.history new c.in_ok-receipt.receipt stands left accepts c.make_edit.ensures.limits in
    let old = s.live.history.journal in
    let more = ap (λ h. h.journal) accepts.journal in
    let all = all_accepted (vector_limits limits) s.live.history new c.args.edit (Ok c.in_ok-receipt.receipt) stands.vector accepts c.self.invariant.4 in
    let longer = c.see-2.ensures.same ∙ c.append.ensures ∙ ap (λ es. es ++ c.args.edit ∷ []) c.see.ensures.same in (
      omega (arith, ap length longer, length_push s.head c.args.edit, c.enter.ensures.book, c.self.invariant.0),
      subst (λ es. StandsFor limits s.renewed s.capacity es new) (sym longer) made.stands,
      c.self.invariant.2,
      c.self.invariant.3 ∙ ap Some (sym c.make_edit.ensures.refresh.body),
      all,
      AreReady-still program_table new.journal s.kinds c.make_edit.new.kinds c.self.invariant.5.kept.table_is c.make_edit.ensures.kept,
      subst (λ t. IfSome t (Taps new.journal)) (sym c.in_ok-receipt.ensures.taken)
          (subst (λ es. IfSome (option_map (with_entry (logged.Edit c.args.edit)) s.tap) (Taps es)) (sym more)
          (taps_edit s.tap old c.args.edit c.in_ok-receipt.ensures.element (subst (AreAccepted greatest) more all) c.self.invariant.6)),
    )

pub returns-clause-answer : goal.returns-clause-answer
returns-clause-answer g c =
    let limits = g.N.Naming.limits in
    let s = c.self.inside in
    let left = edits_left limits s.lasts s.head s.live.history _ _ c.self.invariant.2 c.edit.ensures (c.count.ensures ∙ ap length c.see.ensures.same) (c.is_full.ensures.left c.if-is_full.false) in
    let made = edit_stands limits s.renewed s.capacity s.head c.args.edit s.live.history c.make_edit.new.live.history c.in_ok-receipt.receipt c.self.invariant.1 left c.in_ok-receipt.ensures.answer c.make_edit.ensures.limits in
    rw (← c.self.view_is) (accepts_told limits s.renewed s.capacity s.head c.see-2.new.head c.args.edit c.in_ok-receipt.receipt c.with_capacity.result _ made (c.see-2.ensures.same ∙ c.append.ensures ∙ ap (λ es. es ++ c.args.edit ∷ []) c.see.ensures.same) c.with_capacity.ensures)

pub returns-clause-quiet : goal.returns-clause-quiet
returns-clause-quiet g c no_work =
    rw (← c.self.view_is) (no_new_wants (vector_limits g.N.Naming.limits) c.self.inside.live c.make_edit.new.live c.args.edit (Ok c.in_ok-receipt.receipt) c.self.invariant.1.vector c.in_ok-receipt.ensures.answer c.make_edit.ensures.refresh
    (sym (same_work c.self.inside.capacity c.in_ok-receipt.receipt) ∙ ap (λ (receipt : Receipt). makes_work (Ok receipt)) (sym c.with_capacity.ensures) ∙ no_work))

pub returns-clause-number : goal.returns-clause-number
returns-clause-number g c = λ one.
    let limits = g.N.Naming.limits in
    let s = c.self.inside in
    let left = edits_left limits s.lasts s.head s.live.history _ _ c.self.invariant.2 c.edit.ensures (c.count.ensures ∙ ap length c.see.ensures.same) (c.is_full.ensures.left c.if-is_full.false) in
    let made = edit_stands limits s.renewed s.capacity s.head c.args.edit s.live.history c.make_edit.new.live.history c.in_ok-receipt.receipt c.self.invariant.1 left c.in_ok-receipt.ensures.answer c.make_edit.ensures.limits in
    ap (λ (receipt : Receipt). Ok receipt) (number_told limits s.renewed s.capacity s.head c.see-2.new.head c.args.edit c.in_ok-receipt.receipt c.with_capacity.result _ made (c.see-2.ensures.same ∙ c.append.ensures ∙ ap (λ es. es ++ c.args.edit ∷ []) c.see.ensures.same) c.with_capacity.ensures one)

-- what the vector refuses, the hub refuses
pub returns-in_err-receipt-clause-answer : goal.returns-in_err-receipt-clause-answer
returns-in_err-receipt-clause-answer g c =
    let limits = g.N.Naming.limits in
    let s = c.self.inside in
    let left = edits_left limits s.lasts s.head s.live.history _ _ c.self.invariant.2 c.edit.ensures (c.count.ensures ∙ ap length c.see.ensures.same) (c.is_full.ensures.left c.if-is_full.false) in
    let verdict = refuses_told 16777214 limits s.renewed s.capacity s.head s.live.history c.args.edit c.in_err-receipt.field-0.0 (omega arith) c.self.invariant.1 left c.in_err-receipt.ensures.answer.verdict in
    rw (← c.self.view_is) (refused_answer limits s.head c.see.new.head c.args.edit c.in_err-receipt.field-0.0 c.from_residual.result verdict (search rules) c.see.ensures.same)
