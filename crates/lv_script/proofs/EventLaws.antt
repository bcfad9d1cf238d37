-- What the calls of a vector with standing queries make of a script.
use Rattle.std.proofs.Common.{◌≡◌, ℕ, Bool, Option, None, Result, Ok, Err, OnOk, IfErr, List, [], ◌++◌, length, map, arith, refl, sym, ap, ◌∙◌, inr}
use Rattle.std.proofs.lemmas.List.{append-nil}
use Rattle.lv_geometry.specs.declared.nodes.Node.{Node}
use Rattle.lv_geometry.specs.declared.refusals.Refusal.{Refusal}
use Rattle.lv_bodies.specs.declared.kinds.Kind.{Kind}
use Rattle.lv_bodies.specs.declared.kinds.Shown.{Shown}
use Rattle.lv_bodies.specs.declared.sixes.Six.{Six}
use Rattle.lv_bodies.specs.Body.{fold_of}
use Rattle.lv_bodies.specs.Long.{CanFoldLong}
use Rattle.lv_bodies.specs.Plain.{plain_value}
use Rattle.lv_bodies.specs.Six.{SixSummary, six_operations}
use Rattle.lv_edits.specs.declared.edit.Edit.{Edit}
use Rattle.lv_edits.specs.declared.receipt.Receipt.{Receipt}
use Rattle.lv_edits.specs.History.{History, list_of}
use Rattle.lv_edits.specs.Kept.{IsLegalInLimits}
use Rattle.lv_edits.specs.Verdict.{Accepts, Refuses}
use Rattle.lv_edits.specs.Ranges.{range_refusal, slice_of}
use Rattle.lv_summary.specs.declared.accepted.Accepted.{Accepted}
use Rattle.lv_refresh.specs.Carried.{Carried}
use Rattle.lv_reduce.specs.declared.costs.Reads.{Reads}
use Rattle.lv_reduce.specs.declared.reductions.Answer.{Answer}
use Rattle.lv_live.specs.declared.events.Event.TheVariants as event
use Rattle.lv_live.specs.declared.replies.ReplyOf.TheVariants as reply
use Rattle.lv_live.specs.State.{HasNoClaims, SameLive, SameRefresh, recorded, with_issued}
use Rattle.lv_live.specs.Step.{Costs, Reduces, Step, accepted_reply, numbered_reply, reduction_reply}
use Rattle.lv_live.proofs.WorldLaws.{step_edit, step_forget, step_reduction, step_settle}
use Rattle.lv_standing.specs.declared.notes.Note.{Note}
use Rattle.lv_standing.specs.Queries.{AreNotes, watch_answer}
use Rattle.lv_standing.proofs.TellLaws.{none_due}
use Rattle.lv_standing.specs.Standings.{StandingState}
use Rattle.lv_lines.specs.declared.fault.Fault.{Fault}
use Rattle.lv_lines.specs.declared.fault.Fault.TheVariants.{WriteFault}
use Rattle.lv_lines.specs.Output.{Writes, WritesFront}
use Rattle.lv_lines.specs.Replies.{FailsToReply, Replies}
use Rattle.lv_lines.proofs.OutputLemmas.{Writes-trans, WritesFront-after}
use Rattle.lv_lines.specs.declared.command.Command.{Command}
use Rattle.lv_lines.specs.declared.lines.Line.{Line}
use Rattle.lv_lines.specs.declared.lines.Line.TheVariants.{Nothing, Bad, Do}
use Rattle.lv_lines.specs.Grammar.{command_of}
use Rattle.lv_lines.specs.Texts.{answer_text, cost_text, refused_text, scan_text, unasked_text}
use Rattle.lv_script.specs.Script.{HasQueries, LineAnswer, Tells, TellsEdit, TellsEvent, TellsScan, edit_text, notes_text, plain_scan, reduced_text, reply_text, scanned_range_text}
use Rattle.lv_script.specs.Scripted.{state_of}
use Rattle.lv_script.proofs.ScanLemmas.{can_fold-slice}

-- a vector with standing queries that stays as it is
pub unchanged : (s : StandingState) (jobs : List (Carried Six SixSummary)) → HasQueries (state_of s jobs) (state_of s jobs) s.queries
unchanged s jobs = record { limits = refl; seen = record { edits = refl; issued = refl; claimed = λ n. refl; kept = λ n. refl }; queries_are = refl }

-- a line that is no command
pub unasked_line : (s : StandingState) (jobs : List (Carried Six SixSummary)) (n : ℕ) (line : Line Command) → None ≡ command_of line → LineAnswer (state_of s jobs) n line (unasked_text n line) (state_of s jobs)
unasked_line s jobs n Nothing none = (refl, unchanged s jobs)
unasked_line s jobs n Bad none = (refl, unchanged s jobs)
unasked_line s jobs n (Do c) none = absurd (cc)

-- a claim, answered by the job with its number, or by none
pub tells_claim : (old new : StandingState) (named : Option (ℕ × Node × ℕ)) (before after : List (Carried Six SixSummary)) → Step six_operations old.live.history.limits (with_issued old.live before) event.Claim (numbered_reply named) (with_issued new.live after) → new.live.history ≡ old.live.history → new.queries ≡ old.queries
    → TellsEvent (state_of old before) event.Claim (reply_text (numbered_reply named)) (state_of new after)
tells_claim old new named before after step history queries =
    record { answered = numbered_reply named; does = record { step = step; limits = ap (λ h. h.limits) history; queries = queries }; text_is = refl }

-- a delivery, answered by what became of it or refused
pub tells_delivery : (old new : StandingState) (k : ℕ) (result : Result Accepted Refusal) (jobs : List (Carried Six SixSummary)) → Step six_operations old.live.history.limits (with_issued old.live jobs) (event.Deliver k) (accepted_reply result) (with_issued new.live jobs) → new.live.history ≡ old.live.history → new.queries ≡ old.queries
    → TellsEvent (state_of old jobs) (event.Deliver k) (reply_text (accepted_reply result)) (state_of new jobs)
tells_delivery old new k result jobs step history queries =
    record { answered = accepted_reply result; does = record { step = step; limits = ap (λ h. h.limits) history; queries = queries }; text_is = refl }

-- that claims are forgotten
pub tells_forget : (old new : StandingState) (jobs : List (Carried Six SixSummary)) → HasNoClaims old.live new.live → new.queries ≡ old.queries → TellsEvent (state_of old jobs) event.Forget (reply_text reply.Forgotten) (state_of new jobs)
tells_forget old new jobs has queries =
    record { answered = reply.Forgotten; does = record { step = step_forget six_operations old.live new.live jobs has; limits = ap (λ h. h.limits) has.history; queries = queries }; text_is = refl }

-- that what is pending is completed
pub tells_settle : (old new : StandingState) (jobs : List (Carried Six SixSummary)) → SameLive old.live new.live → new.queries ≡ old.queries → TellsEvent (state_of old jobs) event.Settle (reply_text reply.Settled) (state_of new jobs)
tells_settle old new jobs same queries =
    record { answered = reply.Settled; does = record { step = step_settle six_operations old.live new.live jobs same; limits = ap (λ h. h.limits) same.history; queries = queries }; text_is = refl }

-- an answer of a vector that may have learnt something
pub tells_still : (old new : StandingState) (text : List ℕ) (jobs : List (Carried Six SixSummary)) → SameLive old.live new.live → new.queries ≡ old.queries → Tells (state_of old jobs) text text (state_of new jobs)
tells_still old new text jobs same queries = (
  refl,
  record {
    limits = ap (λ h. h.limits) same.history;
    seen = record { edits = ap (λ h. h.journal) same.history; issued = refl; claimed = same.claimed; kept = same.kept };
    queries_are = queries;
  },
)

-- what is read for a reduction
pub tells_reads : (s : StandingState) (lo hi : ℕ) (answer : Result (Answer SixSummary) Refusal) (jobs : List (Carried Six SixSummary)) → Reduces six_operations (recorded s.live) lo hi answer
    → TellsEvent (state_of s jobs) (event.Reduce lo hi) (reply_text (reduction_reply answer)) (state_of s jobs)
tells_reads s lo hi answer jobs is =
    record { answered = reduction_reply answer; does = record { step = step_reduction six_operations s.live lo hi answer jobs is; limits = refl; queries = refl }; text_is = refl }

-- the reply to `cost`, given only how many reads there are
pub tells_cost : (s : StandingState) (lo hi : ℕ) (reads : Reads) (jobs : List (Carried Six SixSummary)) → Costs (recorded s.live) lo hi (Ok reads)
    → TellsEvent (state_of s jobs) (event.Reduce lo hi) (cost_text reads.cells reads.summaries) (state_of s jobs)
tells_cost s lo hi reads jobs is =
    let edits = s.live.history.journal in
    let answer : Answer SixSummary = record { edit = length edits; value = fold_of six_operations (slice_of edits lo hi); cells_read = reads.cells; summaries_read = reads.summaries } in
    tells_reads s lo hi (Ok answer) jobs (record { granted = is.0; edit = refl; value = refl }, is.1)

-- an edit that was accepted, with its notes
pub tells_accepted : (old new : StandingState) (e : Edit) (receipt : Receipt) (notes : List Note) (jobs : List (Carried Six SixSummary)) → SameRefresh old.live new.live → Accepts old.live.history e receipt new.live.history → new.queries ≡ old.queries
    → AreNotes old.live.history.journal new.live.history.journal old.queries notes → TellsEdit (state_of old jobs) e (edit_text (Ok receipt) ++ notes_text notes) (state_of new jobs)
tells_accepted old new e receipt notes jobs same accepts queries are =
    record {
      answer = Ok receipt;
      notes = notes;
      does = record { step = step_edit six_operations old.live new.live e (Ok receipt) jobs same accepts; limits = ap (λ h. h.limits) accepts.journal; queries = queries };
      notes_are = are;
      text_is = refl;
    }

-- an edit that was rejected
pub tells_refused : (old new : StandingState) (e : Edit) (refusal : Refusal) (jobs : List (Carried Six SixSummary)) → SameRefresh old.live new.live → Refuses old.live.history e refusal new.live.history → new.queries ≡ old.queries
    → TellsEdit (state_of old jobs) e (refused_text refusal) (state_of new jobs)
tells_refused old new e refusal jobs same refuses queries =
    record {
      answer = Err refusal;
      notes = [];
      does = record { step = step_edit six_operations old.live new.live e (Err refusal) jobs same refuses; limits = ap (λ h. h.limits) refuses.same; queries = queries };
      notes_are = rw refuses.same (none_due old.queries (map (watch_answer old.live.history.journal) old.queries));
      text_is = sym (append-nil (refused_text refusal));
    }

-- the value of a kind over a range that nothing rejects
pub reduced_ok : (edits : List Edit) (kind : Kind) (lo hi edit : ℕ) (shown : Shown) → range_refusal edits lo hi ≡ None → edit ≡ length edits → shown ≡ plain_value kind (slice_of edits lo hi) → answer_text edit kind shown ≡ reduced_text edits kind lo hi (range_refusal edits lo hi)
reduced_ok edits kind lo hi edit shown granted at is =
    ap (λ edit. answer_text edit kind shown) at ∙ ap (answer_text (length edits) kind) is ∙ ap (reduced_text edits kind lo hi) (sym granted)

-- the elements of a range can be folded
pub can_fold_slice : (h : History) (lo hi : ℕ) → IsLegalInLimits h → CanFoldLong (slice_of h.journal lo hi)
can_fold_slice h lo hi limits = can_fold-slice (list_of h.journal) lo hi limits.elements (omega (arith, limits.few))

-- a scan of a range that nothing rejects
pub tells_scan : (s : StandingState) (inclusive : Bool) (kind : Kind) (lo hi : ℕ) (jobs : List (Carried Six SixSummary)) → range_refusal s.live.history.journal lo hi ≡ None
    → TellsScan (state_of s jobs) inclusive kind lo hi (scan_text (length s.live.history.journal) inclusive kind (plain_scan inclusive kind (slice_of s.live.history.journal lo hi))) (state_of s jobs)
tells_scan s inclusive kind lo hi jobs granted = (ap (scanned_range_text s.live.history.journal inclusive kind lo hi) (sym granted), unchanged s jobs)

module _ {T : Type 0} (answers written : List ℕ → Type 0) (text : List ℕ) (told : answers text) where
  -- a text that is an answer was put whole
  pub put_whole : {E : Type 0} (result : Result T E) → OnOk result (written text) → OnOk result ((reply : List ℕ) × answers reply × written reply)
  put_whole (Ok done) put = (text, told, put)
  put_whole (Err fault) put = put

  -- or if a prefix of it was put
  pub put_front : (result : Result T Fault) → IfErr result (λ fault. (fault ≡ WriteFault) × written text) → IfErr result (λ fault. (fault ≡ WriteFault) × (reply : List ℕ) × answers reply × written reply)
  put_front (Ok done) put = put
  put_front (Err fault) put = (put.0, text, told, put.1)

module _ {S : Type 0} (step : S → ℕ → List ℕ → List ℕ → S → Type 0) where
  -- a line that was answered once there was room is answered with what was held before
  pub replies_after : {T E : Type 0} {a b : Option (List ℕ)} {h k : List ℕ} (c : Option (List ℕ)) (l : List ℕ) (result : Result T E) (old new : S) (n : ℕ) (line : List ℕ) → Writes a h b k [] → OnOk result ((reply : List ℕ) × step old n line reply new × Writes b k c l reply) → OnOk result (Replies step old n line new (Writes a h c l))
  replies_after c l (Ok done) old new n line room (reply, answered, written) = record { reply = reply; answered = answered; written = Writes-trans room written }
  replies_after c l (Err fault) old new n line room answered = answered

  -- a reply was written in part, after room was made for it
  pub fails_after : {T : Type 0} {a b : Option (List ℕ)} {h k : List ℕ} (c : Option (List ℕ)) (result : Result T Fault) (old new : S) (n : ℕ) (line : List ℕ) → Writes a h b k [] → IfErr result (λ fault. (fault ≡ WriteFault) × (reply : List ℕ) × step old n line reply new × WritesFront b k c reply)
      → IfErr result (λ fault. (fault ≡ WriteFault) × FailsToReply step old n line new (WritesFront a h c))
  fails_after c (Ok done) old new n line room answered = answered
  fails_after c (Err fault) old new n line room (is, reply, answered, front) = (is, inr record { reply = reply; answered = answered; written = WritesFront-after room front })
