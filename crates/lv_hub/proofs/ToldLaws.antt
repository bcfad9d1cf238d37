-- The results of the vector in the lock are those of the hub.
use Rattle.std.proofs.Common.{◌≡◌, ◌⊎◌, ℕ, ℤ, Option, Some, None, IfSome, option_map, Result, Ok, Err, IfOk, IfErr, List, length, nat_lt, if◌then◌else◌, refl, sym, ap, ◌∙◌, subst}
use mathlib.Core.List.{IsPrefix}
use Rattle.std.specs.List.{slice_range}
use Rattle.lv_geometry.specs.Bounds.{Bounds}
use Rattle.lv_geometry.specs.declared.refusals.Refusal.{Refusal}
use Rattle.lv_geometry.specs.declared.refusals.Refusal.TheVariants.{BadRange, NoMemory, OutOfRange}
use Rattle.lv_bodies.specs.Body.{Operations, fold_of}
use Rattle.lv_bodies.specs.declared.kinds.Kind.{Kind}
use Rattle.lv_edits.specs.declared.edit.Edit.{Edit}
use Rattle.lv_edits.specs.declared.receipt.Receipt.{Receipt}
use Rattle.lv_edits.specs.History.{History, list_of}
use Rattle.lv_edits.specs.Verdict.{Answers}
use Rattle.lv_edits.specs.Ranges.{range_refusal}
use Rattle.lv_summary.specs.declared.accepted.Accepted.{Accepted}
use Rattle.lv_refresh.specs.Carried.{Carried}
use Rattle.lv_refresh.specs.Claim.{IsNextJob}
use Rattle.lv_refresh.specs.Honesty.{IsHonest}
use Rattle.lv_refresh.specs.Record.{Record, is_fresh}
use Rattle.lv_reduce.specs.declared.reductions.Answer.{Answer}
use Rattle.lv_reduce.specs.Answer.{IsAnswer, IsScanRefusal}
use Rattle.lv_reduce.specs.Cost.{IsCost}
use Rattle.lv_reduce.specs.Stretch.{IsStretch, StretchState}
use Rattle.lv_live.specs.Kept.{IsLive}
use Rattle.lv_live.specs.State.{HasClaim, LiveState, node_and_version, recorded}
use Rattle.lv_live.specs.Step.{Reduces}
use Rattle.lv_standing.specs.Queries.{IsValue}
use Rattle.lv_standing.specs.declared.notes.Answered.{Answered}
use Rattle.lv_hub.specs.Renewing.{IsClosed, IsOfOneVector, IsRun}
use Rattle.lv_hub.specs.Told.{ClaimTold, EditTold, Delivers, DeliveryTold, IsVector, ReadsTold, ReductionTold, StretchTold, ValueTold, VouchedBy, answer_at, history_of, receipt_at, stretch_at, valued_at}

-- an update, and its number
pub edit_told : (limits : Bounds) (before after old new : List Edit) (e : Edit) (result : Result Receipt Refusal) → IsRun limits before → IsPrefix old before → new ≡ after
    → Answers (history_of limits before) e (receipt_at (length after) result) (history_of limits after) → EditTold limits old new e result
edit_told limits before after old new e result within seen is answers = record {
  before = before;
  seen = seen;
  within = within;
  answers = subst (λ es. Answers (history_of limits before) e (receipt_at (length es) result) (history_of limits es)) (sym is) answers;
}

pub edit_number : (limits : Bounds) (after new : List Edit) (result : Result Receipt Refusal) → new ≡ after → (IsOfOneVector limits → result ≡ receipt_at (length after) result) → IsOfOneVector limits → result ≡ receipt_at (length new) result
edit_number limits after new result is number one = subst (λ es. result ≡ receipt_at (length es) result) (sym is) (number one)

-- a value, and its number
pub value_told : (limits : Bounds) (edits old new : List Edit) (kind : Kind) (lo hi : ℕ) (result : Result Answered Refusal) → IsRun limits edits → IsPrefix old new → new ≡ edits
    → IfOk result (λ answered. IsValue edits kind lo hi (valued_at (length edits) answered)) → IfErr result (λ refusal. range_refusal edits lo hi ≡ Some refusal) → ValueTold limits old new kind lo hi result
value_told limits edits old new kind lo hi result within seen is answered refused = record {
  seen = seen;
  within = subst (IsRun limits) (sym is) within;
  answered = subst (λ es. IfOk result (λ answered. IsValue es kind lo hi (valued_at (length es) answered))) (sym is) answered;
  refused = subst (λ es. IfErr result (λ refusal. range_refusal es lo hi ≡ Some refusal)) (sym is) refused;
}

pub value_number : (limits : Bounds) (edits new : List Edit) (result : Result Answered Refusal) → new ≡ edits → (IsOfOneVector limits → IfOk result (λ answered. answered.edit ≡ length edits)) → IsOfOneVector limits → IfOk result (λ answered. answered.edit ≡ length new)
value_number limits edits new result is number one = subst (λ es. IfOk result (λ answered. answered.edit ≡ length es)) (sym is) (number one)

-- ---- results of a vector with the same elements

-- why a range of a list is refused
abbrev refusal_on : ℕ → ℕ → List ℤ → Option Refusal
refusal_on lo hi xs = if nat_lt hi lo then Some BadRange else (if nat_lt (length xs) hi then Some (OutOfRange (length xs)) else None)

module _ (journal edits : List Edit) (same : list_of journal ≡ list_of edits) (lo hi : ℕ) where
  alike_refused : range_refusal journal lo hi ≡ range_refusal edits lo hi
  alike_refused = ap (refusal_on lo hi) same

  alike_answered : {S : Type 0} (o : Operations S) (result : Result (Answer S) Refusal) → IfOk result (λ answer. IsAnswer o journal lo hi answer) → IfOk result (λ answer. IsAnswer o edits lo hi (answer_at (length edits) answer))
  alike_answered o (Ok answer) is = record { granted = sym alike_refused ∙ is.granted; edit = refl; value = is.value ∙ ap (λ xs. fold_of o (slice_range xs lo hi)) same }
  alike_answered o (Err refusal) is = tt

  alike_copied : {B : Type 0} (result : Result (StretchState B) Refusal) → IfOk result (λ stretch. IsStretch journal lo hi stretch) → IfOk result (λ stretch. IsStretch edits lo hi (stretch_at (length edits) stretch))
  alike_copied (Ok stretch) is = record { granted = sym alike_refused ∙ is.granted; edit = refl; elements = is.elements ∙ ap (λ xs. slice_range xs lo hi) same }
  alike_copied (Err refusal) is = tt

  alike_uncopied : {B : Type 0} (result : Result (StretchState B) Refusal) → IfErr result (λ refusal. IsScanRefusal journal lo hi refusal) → IfErr result (λ refusal. IsScanRefusal edits lo hi refusal)
  alike_uncopied result is = subst (λ known. IfErr result (λ refusal. (known ≡ Some refusal) ⊎ ((known ≡ None) × (refusal ≡ NoMemory)))) alike_refused is

-- the number that a vector returns is that of its updates
answer_numbered : {S : Type 0} (o : Operations S) (edits : List Edit) (lo hi : ℕ) (result : Result (Answer S) Refusal) → IfOk result (λ answer. IsAnswer o edits lo hi answer) → IfOk result (λ answer. answer.edit ≡ length edits)
answer_numbered o edits lo hi (Ok answer) is = is.edit
answer_numbered o edits lo hi (Err refusal) is = tt

stretch_numbered : {B : Type 0} (edits : List Edit) (lo hi : ℕ) (result : Result (StretchState B) Refusal) → IfOk result (λ stretch. IsStretch edits lo hi stretch) → IfOk result (λ stretch. stretch.edit ≡ length edits)
stretch_numbered edits lo hi (Ok stretch) is = is.edit
stretch_numbered edits lo hi (Err refusal) is = tt

-- the answer of a reduction, and the reads that it makes
answered_of : {S : Type 0} (o : Operations S) (r : Record) (lo hi : ℕ) (result : Result (Answer S) Refusal) → Reduces o r lo hi result → IfOk result (λ answer. IsAnswer o r.edits lo hi answer)
answered_of o r lo hi (Ok answer) reduces = reduces.0
answered_of o r lo hi (Err refusal) reduces = tt

refused_of : {S : Type 0} (o : Operations S) (r : Record) (lo hi : ℕ) (result : Result (Answer S) Refusal) → Reduces o r lo hi result → IfErr result (λ refusal. range_refusal r.edits lo hi ≡ Some refusal)
refused_of o r lo hi (Ok answer) reduces = tt
refused_of o r lo hi (Err refusal) reduces = reduces

reads_of : {S : Type 0} (o : Operations S) (r : Record) (lo hi : ℕ) (result : Result (Answer S) Refusal) → Reduces o r lo hi result → IfOk result (λ answer. IsCost (is_fresh r) lo hi answer.cells_read answer.summaries_read)
reads_of o r lo hi (Ok answer) reduces = reduces.1
reads_of o r lo hi (Err refusal) reduces = tt

-- a hub that has reached some updates, and shows them, has a vector with their elements
module _ (limits : Bounds) (edits old new : List Edit) (within : IsRun limits edits) (seen : IsPrefix old new) (is : new ≡ edits) (lo hi : ℕ) where
  within_new : IsRun limits new
  within_new = subst (IsRun limits) (sym is) within

  module _ {B S : Type 0} (o : B → Operations S) (body : B) (s : LiveState B S) (of : s.body ≡ body) (result : Result (Answer S) Refusal) (reduces : Reduces (o s.body) (recorded s) lo hi result) where
    -- a reduction, its number, and its reads
    pub reduction_told : list_of s.history.journal ≡ list_of edits → ReductionTold (o body) limits old new lo hi result
    reduction_told same =
        let alike : list_of s.history.journal ≡ list_of new = same ∙ ap list_of (sym is) in record {
          seen = seen;
          within = within_new;
          answered = subst (λ b. IfOk result (λ answer. IsAnswer (o b) new lo hi (answer_at (length new) answer))) of (alike_answered s.history.journal new alike lo hi (o s.body) result (answered_of (o s.body) (recorded s) lo hi result reduces));
          refused = subst (λ known. IfErr result (λ refusal. known ≡ Some refusal)) (alike_refused s.history.journal new alike lo hi) (refused_of (o s.body) (recorded s) lo hi result reduces);
        }

    pub reduction_number : (IsOfOneVector limits → s.history ≡ history_of limits edits) → IsOfOneVector limits → IfOk result (λ answer. answer.edit ≡ length new)
    reduction_number history one =
        subst (λ es. IfOk result (λ answer. answer.edit ≡ length es)) (ap (λ h. h.journal) (history one) ∙ sym is) (answer_numbered (o s.body) s.history.journal lo hi result (answered_of (o s.body) (recorded s) lo hi result reduces))

    pub reads_told : IsLive (o s.body) s → (IsOfOneVector limits → s.history ≡ history_of limits edits) → IsOfOneVector limits → ReadsTold B (o body) limits new lo hi result
    reads_told live history one = record {
      standing = s;
      live = record { limits_are = ap (λ h. h.limits) (history one); edits_are = ap (λ h. h.journal) (history one) ∙ sym is; live = subst (λ b. IsLive (o b) s) of live };
      reads = reads_of (o s.body) (recorded s) lo hi result reduces;
    }

  module _ {B S : Type 0} (body : B) (s : LiveState B S) (of : s.body ≡ body) (result : Result (StretchState B) Refusal) (range : IfOk result (λ stretch. IsStretch s.history.journal lo hi stretch)) where
    -- a range that was copied, and its number
    pub stretch_told : list_of s.history.journal ≡ list_of edits → IfOk result (λ stretch. stretch.body ≡ s.body) → IfErr result (λ refusal. IsScanRefusal s.history.journal lo hi refusal) → StretchTold body limits old new lo hi result
    stretch_told same with_body refused =
        let alike : list_of s.history.journal ≡ list_of new = same ∙ ap list_of (sym is) in record {
          seen = seen;
          within = within_new;
          range = alike_copied s.history.journal new alike lo hi result range;
          of = subst (λ b. IfOk result (λ stretch. stretch.body ≡ b)) of with_body;
          refused = alike_uncopied s.history.journal new alike lo hi result refused;
        }

    pub stretch_number : (IsOfOneVector limits → s.history ≡ history_of limits edits) → IsOfOneVector limits → IfOk result (λ stretch. stretch.edit ≡ length new)
    stretch_number history one =
        subst (λ es. IfOk result (λ stretch. stretch.edit ≡ length es)) (ap (λ h. h.journal) (history one) ∙ sym is) (stretch_numbered s.history.journal lo hi result range)

-- ---- the end

-- what was returned is what was closed
pub closed_as : {B S : Type 0} (limits : Bounds) (edits own : List Edit) (live vector : LiveState B S) → edits ≡ own → live ≡ vector → IsClosed limits own vector.history → IsClosed limits edits live.history
closed_as limits edits own live vector edits_are live_is closed = subst (λ v. IsClosed limits edits v.history) (sym live_is) (subst (λ es. IsClosed limits es vector.history) (sym edits_are) closed)

-- the vector of a hub of one vector is closed with as many updates as are counted
pub closed_counted : (limits : Bounds) (edits : List Edit) (h : History) (n : ℕ) → IsClosed limits edits h → length edits ≡ n → IsOfOneVector limits → length h.journal ≡ n
closed_counted limits edits h n closed many one = ap (λ h. length h.journal) (closed.one one) ∙ many

pub closed_vector : (limits : Bounds) (edits : List Edit) (h : History) → IsClosed limits edits h → IsOfOneVector limits → IsVector limits h
closed_vector limits edits h closed one = record { limits_are = ap (λ h. h.limits) (closed.one one); within = closed.legal }

pub closed_seen : (limits : Bounds) (seen edits : List Edit) (h : History) → IsClosed limits edits h → IsPrefix seen edits → IsOfOneVector limits → IsPrefix seen h.journal
closed_seen limits seen edits h closed begins one = subst (IsPrefix seen) (sym (ap (λ h. h.journal) (closed.one one))) begins

-- ---- jobs

-- a claim
pub claim_told : {B S : Type 0} (o : B → Operations S) (limits : Bounds) (body : B) (s t : LiveState B S) (result : Option (Carried B S)) → IsVector limits s.history → s.body ≡ body → IsLive (o s.body) s → IsLive (o t.body) t → IsNextJob (recorded s) (option_map node_and_version result) → HasClaim s t (option_map node_and_version result) → IfSome result (λ job. job.body ≡ s.body) → IfSome result (λ job. IsHonest (o s.body) (recorded t) job.node job.version job.contents) → ClaimTold (o body) body limits result
claim_told o limits body s t result vector of live stays next claimed job_body honest = record {
  before = s;
  after = t;
  vector = vector;
  of = of;
  live = subst (λ b. IsLive (o b) s) of live;
  stays_live = subst (λ b. IsLive (o b) t) (claimed.body ∙ of) stays;
  next = next;
  claimed = claimed;
  body_is = subst (λ b. IfSome result (λ job. job.body ≡ b)) of job_body;
  honest = subst (λ b. IfSome result (λ job. IsHonest (o b) (recorded t) job.node job.version job.contents)) of honest;
}

-- an outcome
pub delivery_told : {B S M : Type 0} (meaning : B → M) (operations : B → Operations S) (limits : Bounds) (body : B) (s : LiveState B S) (outcome : Carried B S) (result : Result Accepted Refusal) → IsVector limits s.history → s.body ≡ body → IsLive (operations s.body) s → Delivers (recorded s) (VouchedBy meaning operations s outcome) outcome result → DeliveryTold meaning operations body limits outcome result
delivery_told meaning operations limits body s outcome result vector of live gives =
    record { state = s; vector = vector; of = of; live = subst (λ b. IsLive (operations b) s) of live; gives = gives }
