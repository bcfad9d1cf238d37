-- The results of a hub's calls. Each is the result of one vector, by the hub's monoid instance and within its limits, after some prefix of the
-- hub's updates.
use Rattle.std.specs.Prelude.{◌≡◌, Bool, ℕ, Option, Some, IfSome, option_map, Result, Ok, Err, IfOk, IfErr, List, length}
use mathlib.Core.List.{IsPrefix}
use Rattle.lv_geometry.specs.Bounds.{Bounds}
use Rattle.lv_geometry.specs.declared.refusals.Refusal.{Refusal}
use Rattle.lv_geometry.specs.declared.refusals.Refusal.TheVariants.{Stranger}
use Rattle.lv_bodies.specs.Body.{Operations}
use Rattle.lv_bodies.specs.declared.kinds.Kind.{Kind}
use Rattle.lv_edits.specs.declared.edit.Edit.{Edit}
use Rattle.lv_edits.specs.declared.receipt.Receipt.{Receipt}
use Rattle.lv_edits.specs.History.{History}
use Rattle.lv_edits.specs.Verdict.{Answers}
use Rattle.lv_edits.specs.Ranges.{range_refusal, slice_of}
use Rattle.lv_summary.specs.declared.accepted.Accepted.{Accepted}
use Rattle.lv_refresh.specs.Carried.{Carried}
use Rattle.lv_refresh.specs.Claim.{IsNextJob}
use Rattle.lv_refresh.specs.Delivery.{delivery_of}
use Rattle.lv_refresh.specs.Honesty.{IsHonest, Vouched}
use Rattle.lv_refresh.specs.Record.{Record, is_fresh}
use Rattle.lv_reduce.specs.declared.reductions.Answer.{Answer}
use Rattle.lv_reduce.specs.declared.scans.Scan.{Scan}
use Rattle.lv_reduce.specs.Answer.{IsAnswer, IsScan, IsScanRefusal, scan_of}
use Rattle.lv_reduce.specs.Cost.{IsCost}
use Rattle.lv_reduce.specs.Stretch.{IsStretch, StretchState}
use Rattle.lv_live.specs.Kept.{IsLive}
use Rattle.lv_live.specs.State.{HasClaim, LiveState, node_and_version, recorded}
use Rattle.lv_standing.specs.Queries.{IsValue}
use Rattle.lv_standing.specs.declared.notes.Answered.{Answered}
use Rattle.lv_lines.specs.Texts.{numbered}
use Rattle.lv_hub.specs.Renewing.{IsRun}
pub use Rattle.lv_hub.specs.Renewing.{IsVector}

-- The history of a vector with these limits that has accepted these updates.
abbrev pub history_of : Bounds → List Edit → History
history_of limits edits = record { limits = limits; journal = edits }

-- A result with another number for its version: the hub's own number.
abbrev pub receipt_at : ℕ → Result Receipt Refusal → Result Receipt Refusal
receipt_at number (Ok receipt) = Ok (numbered number receipt)
receipt_at number (Err refusal) = Err refusal

abbrev pub valued_at : ℕ → Answered → Answered
valued_at number answered = record answered { edit = number }

abbrev pub answer_at : {S : Type 0} → ℕ → Answer S → Answer S
answer_at number answer = record answer { edit = number }

abbrev pub scan_at : {S : Type 0} → ℕ → Scan S → Scan S
scan_at number scan = record scan { edit = number }

abbrev pub stretch_at : {B : Type 0} → ℕ → StretchState B → StretchState B
stretch_at number stretch = record stretch { edit = number }

-- A live vector with these limits and these updates, whose node aggregates are computed by these operations.
pub record IsStanding {B S : Type 0} (o : Operations S) (limits : Bounds) (edits : List Edit) (s : LiveState B S) : Type 0 where
  pub limits_are : s.history.limits ≡ limits
  pub edits_are : s.history.journal ≡ edits
  pub live : IsLive o s

-- An update at a hub whose updates had been seen up to `old`. The hub had reached some list of updates, applied the update there or refused it,
-- and then had the list `new`.
pub record EditTold (limits : Bounds) (old new : List Edit) (edit : Edit) (result : Result Receipt Refusal) : Type 0 where
  pub before : List Edit
  pub seen : IsPrefix old before
  pub within : IsRun limits before
  pub answers : Answers (history_of limits before) edit (receipt_at (length new) result) (history_of limits new)

-- A reduction at a hub whose updates had been seen up to `old`. The hub had reached `new`, and the result is the fold of the range there, or the
-- refusal of the range.
pub record ReductionTold {S : Type 0} (o : Operations S) (limits : Bounds) (old new : List Edit) (lo hi : ℕ) (result : Result (Answer S) Refusal) : Type 0 where
  pub seen : IsPrefix old new
  pub within : IsRun limits new
  pub answered : IfOk result (λ answer. IsAnswer o new lo hi (answer_at (length new) answer))
  pub refused : IfErr result (λ refusal. range_refusal new lo hi ≡ Some refusal)

-- A value by kind at a hub whose updates had been seen up to `old`. The hub had reached `new`, and the result is the plain value of the range
-- there, or the refusal of the range.
pub record ValueTold (limits : Bounds) (old new : List Edit) (kind : Kind) (lo hi : ℕ) (result : Result Answered Refusal) : Type 0 where
  pub seen : IsPrefix old new
  pub within : IsRun limits new
  pub answered : IfOk result (λ answered. IsValue new kind lo hi (valued_at (length new) answered))
  pub refused : IfErr result (λ refusal. range_refusal new lo hi ≡ Some refusal)

-- Some live vector with these updates gave the answer, with the numbers of reads that its valid aggregates lead to.
pub record ReadsTold (B : Type 0) {S : Type 0} (o : Operations S) (limits : Bounds) (edits : List Edit) (lo hi : ℕ) (result : Result (Answer S) Refusal) : Type 0 where
  pub standing : LiveState B S
  pub live : IsStanding o limits edits standing
  pub reads : IfOk result (λ answer. IsCost (is_fresh (recorded standing)) lo hi answer.cells_read answer.summaries_read)

-- A scan at a hub whose updates had been seen up to `old`. The hub had reached `new`, and the result is the scan of the range there, or a
-- refusal.
pub record ScanTold {S : Type 0} (o : Operations S) (limits : Bounds) (old new : List Edit) (lo hi : ℕ) (inclusive : Bool) (result : Result (Scan S) Refusal) : Type 0 where
  pub seen : IsPrefix old new
  pub within : IsRun limits new
  pub scanned : IfOk result (λ scan. IsScan new lo hi (scan_of inclusive o (slice_of new lo hi)) (scan_at (length new) scan))
  pub refused : IfErr result (λ refusal. IsScanRefusal new lo hi refusal)

-- A copy of a range at a hub whose updates had been seen up to `old`. The hub had reached `new`, and the result is the range there together with
-- the hub's monoid instance, or a refusal.
pub record StretchTold {B : Type 0} (body : B) (limits : Bounds) (old new : List Edit) (lo hi : ℕ) (result : Result (StretchState B) Refusal) : Type 0 where
  pub seen : IsPrefix old new
  pub within : IsRun limits new
  pub range : IfOk result (λ stretch. IsStretch new lo hi (stretch_at (length new) stretch))
  pub of : IfOk result (λ stretch. stretch.body ≡ body)
  pub refused : IfErr result (λ refusal. IsScanRefusal new lo hi refusal)

-- A claim was answered after some legal updates of the hub's vector. The vector has this monoid instance, and is a live one before and after. The
-- result is a job for the least node that needs one, with authentic contents, or none if no node does.
pub record ClaimTold {B S : Type 0} (o : Operations S) (body : B) (limits : Bounds) (result : Option (Carried B S)) : Type 0 where
  pub before : LiveState B S
  pub after : LiveState B S
  pub vector : IsVector limits before.history
  pub of : before.body ≡ body
  pub live : IsLive o before
  pub stays_live : IsLive o after
  pub next : IsNextJob (recorded before) (option_map node_and_version result)
  pub claimed : HasClaim before after (option_map node_and_version result)
  pub body_is : IfSome result (λ job. job.body ≡ body)
  pub honest : IfSome result (λ job. IsHonest o (recorded after) job.node job.version job.contents)

-- An outcome is delivered if it is vouched for, and its result is then that of a delivery. Otherwise it is refused as `Stranger`.
abbrev pub Delivers : Record → Type 0 → {B S : Type 0} → Carried B S → Result Accepted Refusal → Type 0
Delivers r vouched outcome (Ok accepted) = vouched × (accepted ≡ delivery_of r outcome.node outcome.version)
Delivers r vouched outcome (Err refusal) = (¬ vouched) × (refusal ≡ Stranger)

-- A vector vouches for an outcome in two cases. Its node isn't full, or was last touched by another update. Or the monoid instances mean the
-- same, and the outcome's contents are those of the vector.
abbrev pub VouchedBy : {B S M : Type 0} → (B → M) → (B → Operations S) → LiveState B S → Carried B S → Type 0
VouchedBy meaning operations state outcome =
    Vouched (operations state.body) (recorded state) (meaning state.body ≡ meaning outcome.body) outcome.node outcome.version outcome.contents

-- An outcome was delivered or refused after some legal updates of the hub's vector, which has this monoid instance and is a live one.
pub record DeliveryTold {B S M : Type 0} (meaning : B → M) (operations : B → Operations S) (body : B) (limits : Bounds) (outcome : Carried B S) (result : Result Accepted Refusal) : Type 0 where
  pub state : LiveState B S
  pub vector : IsVector limits state.history
  pub of : state.body ≡ body
  pub live : IsLive (operations body) state
  pub gives : Delivers (recorded state) (VouchedBy meaning operations state outcome) outcome result
