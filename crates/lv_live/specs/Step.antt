-- What one event makes of a live vector's record, and what it is answered; and a run, which is a list of such steps.
use Rattle.std.specs.Prelude.{◌≡◌, ℕ, ◌+◌, ◌-◌, Bool, Option, Some, None, Result, Ok, Err, List, [], ◌∷◌, ◌++◌, length, slice_get, if◌then◌else◌, nat_eq}
use Rattle.lv_geometry.specs.Bounds.{Bounds}
use Rattle.lv_geometry.specs.declared.nodes.Node.{Node}
use Rattle.lv_geometry.specs.declared.refusals.Refusal.{Refusal}
use Rattle.lv_geometry.specs.declared.refusals.Refusal.TheVariants.{NoJob}
use Rattle.lv_bodies.specs.Body.{Operations}
use Rattle.lv_edits.specs.declared.edit.Edit.{Edit}
use Rattle.lv_edits.specs.declared.receipt.Receipt.{Receipt}
use Rattle.lv_edits.specs.Verdict.{receipt_of, verdict_of, IsRefusal}
use Rattle.lv_summary.specs.declared.accepted.Accepted.{Accepted}
use Rattle.lv_summary.specs.declared.accepted.Accepted.TheVariants.{Held, Installed, Stale}
use Rattle.lv_geometry.specs.Nodes.{same_node}
use Rattle.lv_edits.specs.Ranges.{range_refusal, slice_of}
use Rattle.lv_refresh.specs.Claim.{IsNextJob}
use Rattle.lv_refresh.specs.Delivery.{delivery_of}
use Rattle.lv_refresh.specs.Record.{Record, SameRecord, is_fresh}
use Rattle.lv_reduce.specs.declared.costs.Reads.{Reads}
use Rattle.lv_reduce.specs.declared.reductions.Answer.{Answer}
use Rattle.lv_reduce.specs.declared.scans.Scan.{Scan}
use Rattle.lv_reduce.specs.Answer.{IsAnswer, IsScan, IsScanRefusal, scan_of}
use Rattle.lv_reduce.specs.Cost.{IsCost}
use Rattle.lv_live.specs.declared.events.Event.{Event}
use Rattle.lv_live.specs.declared.events.Event.TheVariants as event
use Rattle.lv_live.specs.declared.replies.ReplyOf.{ReplyOf}
use Rattle.lv_live.specs.declared.replies.ReplyOf.TheVariants as reply

-- a map from nodes to versions, with another version for one node
abbrev pub with_version : (Node → Option ℕ) → Node → ℕ → Node → Option ℕ
with_version versions node version n = if same_node n node then Some version else versions n

-- the record after an accepted edit
abbrev pub after_edit : Record → Edit → Record
after_edit r edit = record r { edits = r.edits ++ edit ∷ [] }

-- the record after a claim: the job, if there is one, is issued, and its node is claimed at its version
abbrev pub after_claim : Record → Option (Node × ℕ) → Record
after_claim r None = r
after_claim r (Some job) = record r { issued = r.issued ++ job ∷ []; claimed = with_version r.claimed job.0 job.1 }

-- the record after an outcome was accepted: only what is installed is kept
abbrev pub after_accepted : Record → Node → ℕ → Accepted → Record
after_accepted r node version Installed = record r { kept = with_version r.kept node version }
after_accepted r node version Held = r
after_accepted r node version (Stale now) = r

-- the record after claims were forgotten
abbrev pub after_forget : Record → Record
after_forget r = record r { claimed = λ n. None }

-- the job of a number, counted from 1, if one was issued
abbrev pub job_of : Record → ℕ → Option (Node × ℕ)
job_of r k = if nat_eq k 0 then None else slice_get r.issued (k - 1)

module _ {S : Type 0} where
  -- an edit is answered by its receipt, or by a refusal
  abbrev pub edit_reply : Result Receipt Refusal → ReplyOf S
  edit_reply (Ok receipt) = reply.Did receipt
  edit_reply (Err refusal) = reply.Refused refusal

  -- a claim is answered by the job with its number, or by none
  abbrev pub claim_reply : ℕ → Option (Node × ℕ) → ReplyOf S
  claim_reply k None = reply.Idle
  claim_reply k (Some job) = reply.Claimed k job.0 job.1

  -- a claim is answered by number, node and version of its job, given together, or by none
  abbrev pub numbered_reply : Option (ℕ × Node × ℕ) → ReplyOf S
  numbered_reply None = reply.Idle
  numbered_reply (Some (k, n, v)) = reply.Claimed k n v

  -- a delivery is answered by what became of it, or refused if no such job was issued
  abbrev pub delivery_reply : Record → Option (Node × ℕ) → ReplyOf S
  delivery_reply r None = reply.Refused NoJob
  delivery_reply r (Some job) = reply.Gave (delivery_of r job.0 job.1)

  -- by what became of it, or by a refusal
  abbrev pub accepted_reply : Result Accepted Refusal → ReplyOf S
  accepted_reply (Ok accepted) = reply.Gave accepted
  accepted_reply (Err refusal) = reply.Refused refusal

  -- a reduction is answered by its value, or by a refusal
  abbrev pub reduction_reply : Result (Answer S) Refusal → ReplyOf S
  reduction_reply (Ok answer) = reply.Answered answer
  reduction_reply (Err refusal) = reply.Refused refusal

  -- a scan is answered by its values, or by a refusal
  abbrev pub scan_reply : Result (Scan S) Refusal → ReplyOf S
  scan_reply (Ok scan) = reply.Scanned scan
  scan_reply (Err refusal) = reply.Refused refusal

-- an edit that is accepted is one to which no error applies; one that is refused changes nothing, and its error is the one that applies, or
-- `NoMemory` if none applies
abbrev pub EditStep : Bounds → Record → Edit → Result Receipt Refusal → Record → Type 0
EditStep limits r edit (Ok receipt) next =
    (verdict_of limits r.edits edit ≡ None) × (receipt ≡ receipt_of r.edits edit) × SameRecord (after_edit r edit) next
EditStep limits r edit (Err refusal) next =
    IsRefusal (verdict_of limits r.edits edit) refusal × SameRecord r next

-- the record after a delivery
abbrev pub after_delivery : Record → Option (Node × ℕ) → Record
after_delivery r None = r
after_delivery r (Some job) = after_accepted r job.0 job.1 (delivery_of r job.0 job.1)

-- a reduction is the fold of its range at the last edit, with the reads that the fresh nodes leave
abbrev pub Reduces : {S : Type 0} → Operations S → Record → ℕ → ℕ → Result (Answer S) Refusal → Type 0
Reduces o r lo hi (Ok answer) = IsAnswer o r.edits lo hi answer × IsCost (is_fresh r) lo hi answer.cells_read answer.summaries_read
Reduces o r lo hi (Err refusal) = range_refusal r.edits lo hi ≡ Some refusal

-- these are the counts of reads that a reduction makes over a range, or the range is refused
abbrev pub Costs : Record → ℕ → ℕ → Result Reads Refusal → Type 0
Costs r lo hi (Ok reads) = (range_refusal r.edits lo hi ≡ None) × IsCost (is_fresh r) lo hi reads.cells reads.summaries
Costs r lo hi (Err refusal) = range_refusal r.edits lo hi ≡ Some refusal

-- a scan is the running folds of its range at the last edit
abbrev pub Scans : {S : Type 0} → Operations S → Record → ℕ → ℕ → Bool → Result (Scan S) Refusal → Type 0
Scans o r lo hi inclusive (Ok scan) = IsScan r.edits lo hi (scan_of inclusive o (slice_of r.edits lo hi)) scan
Scans o r lo hi inclusive (Err refusal) = IsScanRefusal r.edits lo hi refusal

-- one event on a record, its reply, and the record after it
abbrev pub Step : {S : Type 0} → Operations S → Bounds → Record → Event → ReplyOf S → Record → Type 0
Step o limits r (event.Edit edit) answered next = (answer : Result Receipt Refusal) × (answered ≡ edit_reply answer) × EditStep limits r edit answer next
Step o limits r event.Settle answered next = (answered ≡ reply.Settled) × SameRecord r next
Step o limits r event.Claim answered next =
    (job : Option (Node × ℕ)) × IsNextJob r job × (answered ≡ claim_reply (length r.issued + 1) job) × SameRecord (after_claim r job) next
Step o limits r (event.Deliver k) answered next = (answered ≡ delivery_reply r (job_of r k)) × SameRecord (after_delivery r (job_of r k)) next
Step o limits r event.Forget answered next = (answered ≡ reply.Forgotten) × SameRecord (after_forget r) next
Step o limits r (event.Reduce lo hi) answered next =
    (answer : Result (Answer _) Refusal) × (answered ≡ reduction_reply answer) × Reduces o r lo hi answer × SameRecord r next
Step o limits r (event.Scan lo hi inclusive) answered next =
    (answer : Result (Scan _) Refusal) × (answered ≡ scan_reply answer) × Scans o r lo hi inclusive answer × SameRecord r next

-- a list of events, the reply to each, and the record after all
abbrev pub Run : {S : Type 0} → Operations S → Bounds → Record → List Event → List (ReplyOf S) → Record → Type 0
Run o limits r [] [] next = next ≡ r
Run o limits r [] (_ ∷ _) next = ⊥
Run o limits r (_ ∷ _) [] next = ⊥
Run o limits r (event ∷ events) (answered ∷ replies) next = (mid : Record) × Step o limits r event answered mid × Run o limits mid events replies next
