-- In every run the replies to edits and queries are decided by the edits only.
use Rattle.std.proofs.Common.{◌≡◌, ◌≢◌, ℕ, Bool, true, false, not, Option, Some, None, Result, Ok, Err, List, [], ◌∷◌, length, refl, sym, ap, ◌∙◌, inl, inr}
use Rattle.std.proofs.lemmas.Bool.{cases_Bool, cond-false, cond-true}
use Rattle.std.proofs.lemmas.List.Elements.{All-head, All-tail}
use Rattle.lv_geometry.specs.Bounds.{Bounds}
use Rattle.lv_geometry.specs.declared.nodes.Node.{Node}
use Rattle.lv_geometry.specs.declared.refusals.Refusal.{Refusal}
use Rattle.lv_geometry.specs.declared.refusals.Refusal.TheVariants.{NoMemory}
use Rattle.lv_bodies.specs.Body.{Operations}
use Rattle.lv_edits.specs.declared.edit.Edit.{Edit}
use Rattle.lv_edits.specs.declared.receipt.Receipt.{Receipt}
use Rattle.lv_edits.specs.Verdict.{verdict_of}
use Rattle.lv_edits.specs.Ranges.{range_refusal}
use Rattle.lv_summary.specs.declared.accepted.Accepted.{Accepted}
use Rattle.lv_summary.specs.declared.accepted.Accepted.TheVariants.{Held, Installed, Stale}
use Rattle.lv_refresh.specs.Delivery.{delivery_of}
use Rattle.lv_refresh.specs.Record.{Record}
use Rattle.lv_reduce.specs.declared.reductions.Answer.{Answer}
use Rattle.lv_reduce.specs.declared.scans.Scan.{Scan}
use Rattle.lv_live.specs.declared.events.Event.{Event}
use Rattle.lv_live.specs.declared.events.Event.TheVariants as event
use Rattle.lv_live.specs.declared.replies.ReplyOf.{ReplyOf}
use Rattle.lv_live.specs.declared.replies.ReplyOf.TheVariants as reply
use Rattle.lv_live.specs.Step.{EditStep, Reduces, Run, Scans, Step, after_accepted, after_claim, after_delivery, edit_reply, job_of, reduction_reply, scan_reply}
use Rattle.lv_live.specs.PlainAnswers.{AllHadRoom, answers_in, edits_after, edits_with, is_refresh, plain_answer, plain_answers, plain_edit_reply, plain_reduction_reply, plain_scan_reply, without_counts, without_refresh}

-- a delivery leaves the edits
pub delivered_edits : (r : Record) (job : Option (Node × ℕ)) → (after_delivery r job).edits ≡ r.edits
delivered_edits r None = refl
delivered_edits r (Some job) = accepted_edits (delivery_of r job.0 job.1)
  where
    accepted_edits : (accepted : Accepted) → (after_accepted r job.0 job.1 accepted).edits ≡ r.edits
    accepted_edits Installed = refl
    accepted_edits Held = refl
    accepted_edits (Stale now) = refl

-- a claim leaves the edits
pub claimed_edits : (r : Record) (job : Option (Node × ℕ)) → (after_claim r job).edits ≡ r.edits
claimed_edits r None = refl
claimed_edits r (Some job) = refl

module _ {S : Type 0} (o : Operations S) (limits : Bounds) where
  -- the reply to an event for which memory ran out
  abbrev refused_for_want : ReplyOf S
  refused_for_want = reply.Refused NoMemory

  -- an edit that wasn't refused for lack of memory: its reply, and the edits after it
  plain_edit : (r next : Record) (edit : Edit) (answer : Result Receipt Refusal) → EditStep limits r edit answer next → edit_reply answer ≢ refused_for_want
      → (without_counts {S = S} (edit_reply answer) ≡ plain_edit_reply r.edits edit (verdict_of limits r.edits edit)) × (next.edits ≡ edits_with r.edits edit (verdict_of limits r.edits edit))
  plain_edit r next edit (Ok receipt) step room =
      (ap reply.Did step.1 ∙ ap (plain_edit_reply r.edits edit) (sym step.0), step.2.edits ∙ ap (edits_with r.edits edit) (sym step.0))
  plain_edit r next edit (Err refusal) step room =
      elim step.0 [
        | inl refused ↦ (ap (plain_edit_reply r.edits edit) (sym refused), step.1.edits ∙ ap (edits_with r.edits edit) (sym refused))
        | inr want ↦ absurd (room (ap reply.Refused want.1))
      ]

  -- a reduction
  plain_reduces : (r : Record) (lo hi : ℕ) (answer : Result (Answer S) Refusal) → Reduces o r lo hi answer
      → without_counts (reduction_reply answer) ≡ plain_reduction_reply o r.edits lo hi (range_refusal r.edits lo hi)
  plain_reduces r lo hi (Ok answer) reduces =
      let is = reduces.0 in
      ap (λ edit. reply.Answered record { edit = edit; value = answer.value; cells_read = 0; summaries_read = 0 }) is.edit
      ∙ ap (λ value. reply.Answered record { edit = length r.edits; value = value; cells_read = 0; summaries_read = 0 }) is.value
      ∙ ap (plain_reduction_reply o r.edits lo hi) (sym is.granted)
  plain_reduces r lo hi (Err refusal) refused = ap (plain_reduction_reply o r.edits lo hi) (sym refused)

  -- a scan that wasn't refused for lack of memory
  plain_scans : (r : Record) (lo hi : ℕ) (inclusive : Bool) (answer : Result (Scan S) Refusal) → Scans o r lo hi inclusive answer → scan_reply answer ≢ reply.Refused NoMemory
      → without_counts (scan_reply answer) ≡ plain_scan_reply o r.edits lo hi inclusive (range_refusal r.edits lo hi)
  plain_scans r lo hi inclusive (Ok scan) is room =
      ap (λ edit. reply.Scanned record { edit = edit; values = scan.values }) is.edit
      ∙ ap (λ values. reply.Scanned record { edit = length r.edits; values = values }) is.values_are
      ∙ ap (plain_scan_reply o r.edits lo hi inclusive) (sym is.granted)
  plain_scans r lo hi inclusive (Err refusal) is room =
      elim is [
        | inl refused ↦ ap (plain_scan_reply o r.edits lo hi inclusive) (sym refused)
        | inr want ↦ absurd (room (ap reply.Refused want.1))
      ]

  -- one step: what is answered to an edit or a query, and the edits after it
  plain_step : (r next : Record) (event : Event) (answered : ReplyOf S) → Step o limits r event answered next → answered ≢ reply.Refused NoMemory
      → (is_refresh event ≡ false → without_counts answered ≡ plain_answer o limits r.edits event) × (next.edits ≡ edits_after limits r.edits event)
  plain_step r next (event.Edit edit) answered (answer, is, step) room =
      let plain = plain_edit r next edit answer step (λ want. room (is ∙ want)) in
      (λ asked. ap without_counts is ∙ plain.0, plain.1)
  plain_step r next event.Settle answered step room = (λ asked. ap without_counts step.0, step.1.edits)
  plain_step r next event.Claim answered (job, is, step, same) room = (λ asked. cc, same.edits ∙ claimed_edits r job)
  plain_step r next (event.Deliver k) answered step room = (λ asked. cc, step.1.edits ∙ delivered_edits r (job_of r k))
  plain_step r next event.Forget answered step room = (λ asked. cc, step.1.edits)
  plain_step r next (event.Reduce lo hi) answered (answer, is, reduces, same) room =
      (λ asked. ap without_counts is ∙ plain_reduces r lo hi answer reduces, same.edits)
  plain_step r next (event.Scan lo hi inclusive) answered (answer, is, scans, same) room =
      (λ asked. ap without_counts is ∙ plain_scans r lo hi inclusive answer scans (λ want. room (is ∙ want)), same.edits)

  -- refresh leaves the edits
  refresh_edits : (edits : List Edit) (event : Event) → is_refresh event ≡ true → edits_after limits edits event ≡ edits
  refresh_edits edits (event.Edit edit) is = cc
  refresh_edits edits event.Settle is = refl
  refresh_edits edits event.Claim is = refl
  refresh_edits edits (event.Deliver k) is = refl
  refresh_edits edits event.Forget is = refl
  refresh_edits edits (event.Reduce lo hi) is = refl
  refresh_edits edits (event.Scan lo hi inclusive) is = refl

  -- in every run the replies to edits and queries are decided by the edits only
  pub run_is_plain : (r next : Record) (events : List Event) (replies : List (ReplyOf S)) → Run o limits r events replies next → AllHadRoom replies
      → answers_in events replies ≡ plain_answers o limits r.edits (without_refresh events)
  run_is_plain r next [] [] run room = refl
  run_is_plain r next [] (answered ∷ replies) run room = absurd run
  run_is_plain r next (event ∷ events) [] run room = absurd run
  run_is_plain r next (event ∷ events) (answered ∷ replies) (mid, step, run) room =
      let had : answered ≢ refused_for_want = All-head (λ answered. answered ≢ refused_for_want) answered replies room in
      let one = plain_step r mid event answered step had in
      let rest = run_is_plain mid next events replies run (All-tail (λ answered. answered ≢ refused_for_want) answered replies room) in
      elim (cases_Bool (is_refresh event)) [
        | inl refresh ↦
            cond-true _ _ _ refresh
            ∙ rest
            ∙ ap (λ edits. plain_answers o limits edits (without_refresh events)) (one.1 ∙ refresh_edits r.edits event refresh)
            ∙ ap (plain_answers o limits r.edits) (sym (cond-false _ _ _ (ap not refresh)))
        | inr asked ↦
            cond-false _ _ _ asked
            ∙ ap (λ answered. answered ∷ answers_in events replies) (one.0 asked)
            ∙ ap (λ answers. plain_answer o limits r.edits event ∷ answers) (rest ∙ ap (λ edits. plain_answers o limits edits (without_refresh events)) one.1)
            ∙ ap (plain_answers o limits r.edits) (sym (cond-true _ _ _ (ap not asked)))
      ]
