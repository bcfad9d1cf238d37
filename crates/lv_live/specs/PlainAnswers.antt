-- The replies to edits and queries in terms of the edits only, without refresh.
use Rattle.std.specs.Prelude.{◌≢◌, ℕ, Bool, true, false, not, Option, Some, None, List, [], ◌∷◌, ◌++◌, length, filter, All, if◌then◌else◌}
use Rattle.lv_geometry.specs.Bounds.{Bounds}
use Rattle.lv_geometry.specs.declared.refusals.Refusal.{Refusal}
use Rattle.lv_geometry.specs.declared.refusals.Refusal.TheVariants.{NoMemory}
use Rattle.lv_bodies.specs.Body.{Operations, fold_of}
use Rattle.lv_edits.specs.declared.edit.Edit.{Edit}
use Rattle.lv_edits.specs.Verdict.{receipt_of, verdict_of}
use Rattle.lv_edits.specs.Ranges.{range_refusal, slice_of}
use Rattle.lv_reduce.specs.Answer.{scan_of}
use Rattle.lv_live.specs.declared.events.Event.{Event}
use Rattle.lv_live.specs.declared.events.Event.TheVariants as event
use Rattle.lv_live.specs.declared.replies.ReplyOf.{ReplyOf}
use Rattle.lv_live.specs.declared.replies.ReplyOf.TheVariants as reply

-- whether an event is only of refresh: a claim, a delivery, or that claims are forgotten
abbrev pub is_refresh : Event → Bool
is_refresh (event.Edit edit) = false
is_refresh event.Settle = false
is_refresh event.Claim = true
is_refresh (event.Deliver k) = true
is_refresh event.Forget = true
is_refresh (event.Reduce lo hi) = false
is_refresh (event.Scan lo hi inclusive) = false

-- the events that are not of refresh, in order
abbrev pub without_refresh : List Event → List Event
without_refresh events = filter (λ e. not (is_refresh e)) events

-- the edits after one more, which is added if nothing refuses it
abbrev pub edits_with : List Edit → Edit → Option Refusal → List Edit
edits_with edits edit None = edits ++ edit ∷ []
edits_with edits edit (Some refusal) = edits

-- the edits after an event
abbrev pub edits_after : Bounds → List Edit → Event → List Edit
edits_after limits edits (event.Edit edit) = edits_with edits edit (verdict_of limits edits edit)
edits_after limits edits event.Settle = edits
edits_after limits edits event.Claim = edits
edits_after limits edits (event.Deliver k) = edits
edits_after limits edits event.Forget = edits
edits_after limits edits (event.Reduce lo hi) = edits
edits_after limits edits (event.Scan lo hi inclusive) = edits

module _ {S : Type 0} where
  -- a reply, without the counts of reads
  abbrev pub without_counts : ReplyOf S → ReplyOf S
  without_counts (reply.Answered answer) = reply.Answered (record answer { cells_read = 0; summaries_read = 0 })
  without_counts (reply.Did receipt) = reply.Did receipt
  without_counts reply.Settled = reply.Settled
  without_counts (reply.Claimed job node version) = reply.Claimed job node version
  without_counts reply.Idle = reply.Idle
  without_counts (reply.Gave accepted) = reply.Gave accepted
  without_counts reply.Forgotten = reply.Forgotten
  without_counts (reply.Scanned scan) = reply.Scanned scan
  without_counts (reply.Refused refusal) = reply.Refused refusal

  -- the replies to events that are not of refresh, without counts, in order
  abbrev pub answers_in : List Event → List (ReplyOf S) → List (ReplyOf S)
  answers_in [] replies = []
  answers_in (event ∷ events) [] = []
  answers_in (event ∷ events) (answered ∷ replies) =
      if is_refresh event then answers_in events replies else without_counts answered ∷ answers_in events replies

  -- no event was refused for lack of memory
  abbrev pub AllHadRoom : List (ReplyOf S) → Type 0
  AllHadRoom replies = All (λ answered. answered ≢ reply.Refused NoMemory) replies

  -- an edit's receipt if nothing refuses it, else its refusal
  abbrev pub plain_edit_reply : List Edit → Edit → Option Refusal → ReplyOf S
  plain_edit_reply edits edit None = reply.Did (receipt_of edits edit)
  plain_edit_reply edits edit (Some refusal) = reply.Refused refusal

  -- the plain left fold of a range if nothing refuses it, else its refusal
  abbrev pub plain_reduction_reply : Operations S → List Edit → ℕ → ℕ → Option Refusal → ReplyOf S
  plain_reduction_reply o edits lo hi None =
      reply.Answered record { edit = length edits; value = fold_of o (slice_of edits lo hi); cells_read = 0; summaries_read = 0 }
  plain_reduction_reply o edits lo hi (Some refusal) = reply.Refused refusal

  -- the running folds of a range if nothing refuses it, else its refusal
  abbrev pub plain_scan_reply : Operations S → List Edit → ℕ → ℕ → Bool → Option Refusal → ReplyOf S
  plain_scan_reply o edits lo hi inclusive None =
      reply.Scanned record { edit = length edits; values = scan_of inclusive o (slice_of edits lo hi) }
  plain_scan_reply o edits lo hi inclusive (Some refusal) = reply.Refused refusal

  -- the reply to an edit or a query after some edits; of claims, deliveries and forgetting nothing is said here, and `Settled` fills their places
  abbrev pub plain_answer : Operations S → Bounds → List Edit → Event → ReplyOf S
  plain_answer o limits edits (event.Edit edit) = plain_edit_reply edits edit (verdict_of limits edits edit)
  plain_answer o limits edits event.Settle = reply.Settled
  plain_answer o limits edits event.Claim = reply.Settled
  plain_answer o limits edits (event.Deliver k) = reply.Settled
  plain_answer o limits edits event.Forget = reply.Settled
  plain_answer o limits edits (event.Reduce lo hi) = plain_reduction_reply o edits lo hi (range_refusal edits lo hi)
  plain_answer o limits edits (event.Scan lo hi inclusive) = plain_scan_reply o edits lo hi inclusive (range_refusal edits lo hi)

  -- what edits and queries are answered, each after the edits accepted before it
  abbrev pub plain_answers : Operations S → Bounds → List Edit → List Event → List (ReplyOf S)
  plain_answers o limits edits [] = []
  plain_answers o limits edits (event ∷ events) = plain_answer o limits edits event ∷ plain_answers o limits (edits_after limits edits event) events
