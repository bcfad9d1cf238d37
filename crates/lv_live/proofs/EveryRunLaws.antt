-- Every run adds the edits that it accepts, and each of its answers is true of those that were accepted before it.
use Rattle.std.proofs.Common.{◌≡◌, ℕ, ◌+◌, Bool, Some, Result, Ok, Err, List, [], ◌∷◌, ◌++◌, length, take, slice_get, refl, sym, ap, ◌∙◌, subst, append_assoc, append-nil, length-append}
use Rattle.std.proofs.Math.Seq.{take-append_seam}
use Rattle.lv_geometry.specs.Bounds.{Bounds}
use Rattle.lv_geometry.specs.declared.nodes.Node.{Node}
use Rattle.lv_geometry.specs.declared.refusals.Refusal.{Refusal}
use Rattle.lv_bodies.specs.Body.{Operations}
use Rattle.lv_edits.specs.declared.edit.Edit.{Edit}
use Rattle.lv_edits.specs.declared.receipt.Receipt.{Receipt}
use Rattle.lv_edits.specs.History.{list_of, replayed}
use Rattle.lv_edits.specs.Verdict.{receipt_of}
use Rattle.lv_edits.proofs.HistoryLaws.{accepted_is_possible, legal-snoc}
use Rattle.lv_edits.specs.Ranges.{slice_of}
use Rattle.lv_refresh.specs.declared.contents.Contents.{Contents}
use Rattle.lv_refresh.specs.Honesty.{IsHonest}
use Rattle.lv_refresh.specs.Record.{Record}
use Rattle.lv_reduce.specs.declared.reductions.Answer.{Answer}
use Rattle.lv_reduce.specs.declared.scans.Scan.{Scan}
use Rattle.lv_reduce.specs.Answer.{IsAnswer, IsScan, scan_of}
use Rattle.lv_live.specs.declared.events.Event.{Event}
use Rattle.lv_live.specs.declared.events.Event.TheVariants as event
use Rattle.lv_live.specs.declared.replies.ReplyOf.{ReplyOf}
use Rattle.lv_live.specs.Step.{EditStep, Reduces, Run, Scans, Step, edit_reply, job_of, reduction_reply, scan_reply}
use Rattle.lv_live.specs.EveryRun.{AreTrueOf, IsReceiptAt, IsTrueOf, accepted_in, made_by}
use Rattle.lv_live.proofs.HonestSteps.{honest_after_step}
use Rattle.lv_live.proofs.RunLaws.{claimed_edits, delivered_edits}

-- the item behind a front
slice_get-seam : {A : Type 0} (xs ys : List A) (y : A) → slice_get (xs ++ y ∷ ys) (length xs) ≡ Some y
slice_get-seam [] ys y = refl
slice_get-seam (x ∷ xs) ys y = slice_get-seam xs ys y

-- an edit behind some edits has its receipt there, whatever comes later
receipt_behind : (edits rest : List Edit) (edit : Edit) (receipt : Receipt) → receipt ≡ receipt_of edits edit → IsReceiptAt (edits ++ edit ∷ rest) (length edits) edit receipt
receipt_behind edits rest edit receipt is =
    record {
      next = slice_get-seam edits rest edit;
      receipt_there = is ∙ ap (λ edits. receipt_of edits edit) (sym (take-append_seam edits (edit ∷ rest)));
    }

-- the first edits, if others came later
first_edits : (edits now rest : List Edit) → now ≡ edits → take (length edits) (now ++ rest) ≡ edits
first_edits edits now rest same = ap (λ now. take (length edits) (now ++ rest)) same ∙ take-append_seam edits rest

module _ {S : Type 0} (o : Operations S) (limits : Bounds) where
  -- an edit adds itself if it is accepted
  edit_made : (r next : Record) (edit : Edit) (answer : Result Receipt Refusal) → EditStep limits r edit answer next → next.edits ≡ r.edits ++ made_by {S = S} (event.Edit edit) (edit_reply answer)
  edit_made r next edit (Ok receipt) step = step.2.edits
  edit_made r next edit (Err refusal) step = step.1.edits ∙ sym (append-nil r.edits)

  -- a step adds the edit that it made
  step_edits : (r next : Record) (event : Event) (answered : ReplyOf S) → Step o limits r event answered next → next.edits ≡ r.edits ++ made_by event answered
  step_edits r next (event.Edit edit) answered (answer, is, step) =
      edit_made r next edit answer step ∙ ap (λ answered. r.edits ++ made_by (event.Edit edit) answered) (sym is)
  step_edits r next event.Settle answered step = step.1.edits ∙ sym (append-nil r.edits)
  step_edits r next event.Claim answered (job, is, step, same) = same.edits ∙ claimed_edits r job ∙ sym (append-nil r.edits)
  step_edits r next (event.Deliver k) answered step = step.1.edits ∙ delivered_edits r (job_of r k) ∙ sym (append-nil r.edits)
  step_edits r next event.Forget answered step = step.1.edits ∙ sym (append-nil r.edits)
  step_edits r next (event.Reduce lo hi) answered (answer, is, reduces, same) = same.edits ∙ sym (append-nil r.edits)
  step_edits r next (event.Scan lo hi inclusive) answered (answer, is, scans, same) = same.edits ∙ sym (append-nil r.edits)

  -- a run adds the edits that it accepted
  pub run_edits : (r next : Record) (events : List Event) (replies : List (ReplyOf S)) → Run o limits r events replies next → next.edits ≡ r.edits ++ accepted_in events replies
  run_edits r next [] [] run = ap (λ (r : Record). r.edits) run ∙ sym (append-nil r.edits)
  run_edits r next [] (answered ∷ replies) run = absurd run
  run_edits r next (event ∷ events) [] run = absurd run
  run_edits r next (event ∷ events) (answered ∷ replies) (mid, step, run) =
      run_edits mid next events replies run
      ∙ ap (λ edits. edits ++ accepted_in events replies) (step_edits r mid event answered step)
      ∙ append_assoc r.edits (made_by event answered) (accepted_in events replies)

  -- what an edit is answered is true of the edits after it, and of any that go on from there
  edit_true : (r next : Record) (rest : List Edit) (edit : Edit) (answer : Result Receipt Refusal) → EditStep limits r edit answer next → IsTrueOf o (next.edits ++ rest) (length r.edits) (event.Edit edit) (edit_reply answer)
  edit_true r next rest edit (Ok receipt) step =
      (Ok receipt, refl, subst (λ edits. IsReceiptAt edits (length r.edits) edit receipt) (sym (ap (λ edits. edits ++ rest) step.2.edits ∙ append_assoc r.edits (edit ∷ []) rest)) (receipt_behind r.edits rest edit receipt step.1))
  edit_true r next rest edit (Err refusal) step = (Err refusal, refl, tt)

  -- the reply to a reduction is true of the edits after it, and of any that go on from there
  reduction_true : (r next : Record) (rest : List Edit) (lo hi : ℕ) (answer : Result (Answer S) Refusal) → Reduces o r lo hi answer → next.edits ≡ r.edits → IsTrueOf o (next.edits ++ rest) (length r.edits) (event.Reduce lo hi) (reduction_reply answer)
  reduction_true r next rest lo hi (Ok answer) reduces same =
      (Ok answer, refl, record { at = reduces.0.edit; answers = subst (λ edits. IsAnswer o edits lo hi answer) (sym (first_edits r.edits next.edits rest same)) reduces.0 })
  reduction_true r next rest lo hi (Err refusal) reduces same = (Err refusal, refl, tt)

  -- the reply to a scan is true of them too
  scan_true : (r next : Record) (rest : List Edit) (lo hi : ℕ) (inclusive : Bool) (answer : Result (Scan S) Refusal) → Scans o r lo hi inclusive answer → next.edits ≡ r.edits → IsTrueOf o (next.edits ++ rest) (length r.edits) (event.Scan lo hi inclusive) (scan_reply answer)
  scan_true r next rest lo hi inclusive (Ok scan) is same =
      (Ok scan, refl, record { at = is.edit; answers = subst (λ edits. IsScan edits lo hi (scan_of inclusive o (slice_of edits lo hi)) scan) (sym (first_edits r.edits next.edits rest same)) is })
  scan_true r next rest lo hi inclusive (Err refusal) is same = (Err refusal, refl, tt)

  -- what a step is answered is true of the edits after it, and of any that go on from there
  step_true : (r next : Record) (rest : List Edit) (event : Event) (answered : ReplyOf S) → Step o limits r event answered next → IsTrueOf o (next.edits ++ rest) (length r.edits) event answered
  step_true r next rest (event.Edit edit) answered (answer, is, step) =
      subst (IsTrueOf o (next.edits ++ rest) (length r.edits) (event.Edit edit)) (sym is) (edit_true r next rest edit answer step)
  step_true r next rest event.Settle answered step = tt
  step_true r next rest event.Claim answered step = tt
  step_true r next rest (event.Deliver k) answered step = tt
  step_true r next rest event.Forget answered step = tt
  step_true r next rest (event.Reduce lo hi) answered (answer, is, reduces, same) =
      subst (IsTrueOf o (next.edits ++ rest) (length r.edits) (event.Reduce lo hi)) (sym is) (reduction_true r next rest lo hi answer reduces same.edits)
  step_true r next rest (event.Scan lo hi inclusive) answered (answer, is, scans, same) =
      subst (IsTrueOf o (next.edits ++ rest) (length r.edits) (event.Scan lo hi inclusive)) (sym is) (scan_true r next rest lo hi inclusive answer scans same.edits)

  -- a step has so many edits before it and those that it made after it
  step_counts : (r next : Record) (event : Event) (answered : ReplyOf S) → Step o limits r event answered next → length next.edits ≡ length r.edits + length (made_by event answered)
  step_counts r next event answered step = ap length (step_edits r next event answered step) ∙ length-append r.edits (made_by event answered)

  -- each answer of a run is true of the edits at its end, at those that were accepted before it
  pub run_true : (r next : Record) (events : List Event) (replies : List (ReplyOf S)) → Run o limits r events replies next → AreTrueOf o next.edits (length r.edits) events replies
  run_true r next [] [] run = tt
  run_true r next [] (answered ∷ replies) run = absurd run
  run_true r next (event ∷ events) [] run = absurd run
  run_true r next (event ∷ events) (answered ∷ replies) (mid, step, run) = (
    subst (λ edits. IsTrueOf o edits (length r.edits) event answered) (sym (run_edits mid next events replies run)) (step_true r mid (accepted_in events replies) event answered step),
    subst (λ e. AreTrueOf o next.edits e events replies) (step_counts r mid event answered step) (run_true mid next events replies run),
  )

  -- legal edits stay so if they are the same
  same_legal : (edits now : List Edit) → now ≡ edits → replayed edits ≡ Some (list_of edits) → replayed now ≡ Some (list_of now)
  same_legal edits now same = subst (λ edits. replayed edits ≡ Some (list_of edits)) (sym same)

  -- an edit leaves legal edits, accepted or refused
  edit_legal : (r next : Record) (edit : Edit) (answer : Result Receipt Refusal) → EditStep limits r edit answer next → replayed r.edits ≡ Some (list_of r.edits) → replayed next.edits ≡ Some (list_of next.edits)
  edit_legal r next edit (Ok receipt) step legal =
      let able = accepted_is_possible limits r.edits edit step.0 in
      same_legal (r.edits ++ edit ∷ []) next.edits step.2.edits (legal-snoc r.edits edit able.0 legal able.1)
  edit_legal r next edit (Err refusal) step legal = same_legal r.edits next.edits step.1.edits legal

  -- every step leaves legal edits
  step_legal : (r next : Record) (event : Event) (answered : ReplyOf S) → Step o limits r event answered next → replayed r.edits ≡ Some (list_of r.edits) → replayed next.edits ≡ Some (list_of next.edits)
  step_legal r next (event.Edit edit) answered step = edit_legal r next edit step.0 step.2
  step_legal r next event.Settle answered step = same_legal r.edits next.edits step.1.edits
  step_legal r next event.Claim answered step = same_legal r.edits next.edits (step.3.edits ∙ claimed_edits r step.0)
  step_legal r next (event.Deliver k) answered step = same_legal r.edits next.edits (step.1.edits ∙ delivered_edits r (job_of r k))
  step_legal r next event.Forget answered step = same_legal r.edits next.edits step.1.edits
  step_legal r next (event.Reduce lo hi) answered step = same_legal r.edits next.edits step.3.edits
  step_legal r next (event.Scan lo hi inclusive) answered step = same_legal r.edits next.edits step.3.edits

  -- edits stay legal, and what was honest honest, to the end of every run
  pub run_honest : (n : Node) (v : ℕ) (contents : Contents S) (r next : Record) (events : List Event) (replies : List (ReplyOf S)) → Run o limits r events replies next
      → replayed r.edits ≡ Some (list_of r.edits) → IsHonest o r n v contents → (replayed next.edits ≡ Some (list_of next.edits)) × IsHonest o next n v contents
  run_honest n v contents r next [] [] run legal honest =
      (same_legal r.edits next.edits (ap (λ (r : Record). r.edits) run) legal, subst (λ r. IsHonest o r n v contents) (sym run) honest)
  run_honest n v contents r next [] (answered ∷ replies) run legal honest = absurd run
  run_honest n v contents r next (event ∷ events) [] run legal honest = absurd run
  run_honest n v contents r next (event ∷ events) (answered ∷ replies) (mid, step, run) legal honest =
      run_honest n v contents mid next events replies run (step_legal r mid event answered step legal) (honest_after_step o n v contents limits r mid event answered legal step honest)
