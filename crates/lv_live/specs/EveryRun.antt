-- What holds of every run, also of one in which memory runs out: which edits it accepted, and that each of its answers is true of those that were
-- accepted before it.
use Rattle.std.specs.Prelude.{⊤, ◌≡◌, ℕ, ◌+◌, Bool, true, false, Some, Result, IfOk, List, [], ◌∷◌, ◌++◌, length, take, slice_get, if◌then◌else◌}
use Rattle.lv_geometry.specs.declared.refusals.Refusal.{Refusal}
use Rattle.lv_bodies.specs.Body.{Operations}
use Rattle.lv_edits.specs.declared.edit.Edit.{Edit}
use Rattle.lv_edits.specs.declared.receipt.Receipt.{Receipt}
use Rattle.lv_edits.specs.Verdict.{receipt_of}
use Rattle.lv_edits.specs.Ranges.{slice_of}
use Rattle.lv_reduce.specs.declared.reductions.Answer.{Answer}
use Rattle.lv_reduce.specs.declared.scans.Scan.{Scan}
use Rattle.lv_reduce.specs.Answer.{IsAnswer, IsScan, scan_of}
use Rattle.lv_live.specs.declared.events.Event.{Event}
use Rattle.lv_live.specs.declared.events.Event.TheVariants as event
use Rattle.lv_live.specs.declared.replies.ReplyOf.{ReplyOf}
use Rattle.lv_live.specs.declared.replies.ReplyOf.TheVariants as reply
use Rattle.lv_live.specs.Step.{edit_reply, reduction_reply, scan_reply}

-- an edit is the next of a list of edits behind the first e, and its receipt is that of the edit after these
pub record IsReceiptAt (edits : List Edit) (e : ℕ) (edit : Edit) (receipt : Receipt) : Type 0 where
  pub next : slice_get edits e ≡ Some edit
  pub receipt_there : receipt ≡ receipt_of (take e edits) edit

-- a reduction is answered at edit e: it is the plain left fold of its range after the first e of these edits
pub record IsAnswerAt {S : Type 0} (o : Operations S) (edits : List Edit) (e lo hi : ℕ) (answer : Answer S) : Type 0 where
  pub at : answer.edit ≡ e
  pub answers : IsAnswer o (take e edits) lo hi answer

-- a scan is answered at edit e: it has the running folds of its range after the first e of these edits
pub record IsScanAt {S : Type 0} (o : Operations S) (edits : List Edit) (e lo hi : ℕ) (inclusive : Bool) (scan : Scan S) : Type 0 where
  pub at : scan.edit ≡ e
  pub answers : IsScan (take e edits) lo hi (scan_of inclusive o (slice_of (take e edits) lo hi)) scan

module _ {S : Type 0} where
  -- whether an edit was accepted
  abbrev pub is_receipt : ReplyOf S → Bool
  is_receipt (reply.Did receipt) = true
  is_receipt reply.Settled = false
  is_receipt (reply.Claimed job node version) = false
  is_receipt reply.Idle = false
  is_receipt (reply.Gave accepted) = false
  is_receipt reply.Forgotten = false
  is_receipt (reply.Answered answer) = false
  is_receipt (reply.Scanned scan) = false
  is_receipt (reply.Refused refusal) = false

  -- the edit that an event made: its own, if it was accepted
  abbrev pub made_by : Event → ReplyOf S → List Edit
  made_by (event.Edit edit) answered = if is_receipt answered then edit ∷ [] else []
  made_by event.Settle answered = []
  made_by event.Claim answered = []
  made_by (event.Deliver k) answered = []
  made_by event.Forget answered = []
  made_by (event.Reduce lo hi) answered = []
  made_by (event.Scan lo hi inclusive) answered = []

  -- the edits that were accepted, in order
  abbrev pub accepted_in : List Event → List (ReplyOf S) → List Edit
  accepted_in [] replies = []
  accepted_in (event ∷ events) [] = []
  accepted_in (event ∷ events) (answered ∷ replies) = made_by event answered ++ accepted_in events replies

  -- the reply to an event is true of a list of edits whose first e were accepted before it: an accepted edit is the next of them, with its
  -- receipt there; a reduction and a scan are answered at edit e. A refusal says nothing of them.
  abbrev pub IsTrueOf : Operations S → List Edit → ℕ → Event → ReplyOf S → Type 0
  IsTrueOf o edits e (event.Edit edit) answered =
      (answer : Result Receipt Refusal) × (answered ≡ edit_reply answer) × IfOk answer (IsReceiptAt edits e edit)
  IsTrueOf o edits e event.Settle answered = ⊤
  IsTrueOf o edits e event.Claim answered = ⊤
  IsTrueOf o edits e (event.Deliver k) answered = ⊤
  IsTrueOf o edits e event.Forget answered = ⊤
  IsTrueOf o edits e (event.Reduce lo hi) answered =
      (answer : Result (Answer S) Refusal) × (answered ≡ reduction_reply answer) × IfOk answer (IsAnswerAt o edits e lo hi)
  IsTrueOf o edits e (event.Scan lo hi inclusive) answered =
      (answer : Result (Scan S) Refusal) × (answered ≡ scan_reply answer) × IfOk answer (IsScanAt o edits e lo hi inclusive)

  -- each reply of a run is true of a list of edits, whose first e were accepted before that run; behind an edit that was accepted, e is one more
  abbrev pub AreTrueOf : Operations S → List Edit → ℕ → List Event → List (ReplyOf S) → Type 0
  AreTrueOf o edits e [] [] = ⊤
  AreTrueOf o edits e [] (answered ∷ replies) = ⊥
  AreTrueOf o edits e (event ∷ events) [] = ⊥
  AreTrueOf o edits e (event ∷ events) (answered ∷ replies) =
      IsTrueOf o edits e event answered × AreTrueOf o edits (e + length (made_by event answered)) events replies
