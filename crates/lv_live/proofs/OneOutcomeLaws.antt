-- If no reply is `NoMemory`, a run has one outcome: its events decide the replies and the record after them.
use Rattle.std.proofs.Common.{◌≡◌, ◌≢◌, ℕ, Bool, true, false, Option, Some, None, Result, Ok, Err, List, [], ◌∷◌, ◌+◌, length, refl, sym, ap, ◌∙◌, subst, inl, inr}
use Rattle.std.proofs.lemmas.Bool.{cases_order, true≢false}
use Rattle.std.proofs.lemmas.List.Elements.{All-head, All-tail}
use Rattle.lv_geometry.specs.Bounds.{Bounds}
use Rattle.lv_geometry.specs.declared.nodes.Node.{Node}
use Rattle.lv_geometry.specs.declared.refusals.Refusal.{Refusal}
use Rattle.lv_geometry.specs.declared.refusals.Refusal.TheVariants.{NoMemory}
use Rattle.lv_bodies.specs.Body.{Operations}
use Rattle.lv_edits.specs.declared.edit.Edit.{Edit}
use Rattle.lv_edits.specs.declared.receipt.Receipt.{Receipt}
use Rattle.lv_edits.specs.Touch.{touched_by}
use Rattle.lv_edits.specs.Verdict.{IsRefusal, verdict_of}
use Rattle.lv_edits.specs.Ranges.{range_refusal}
use Rattle.lv_refresh.specs.Claim.{Before, IsNextJob, wants_job}
use Rattle.lv_refresh.specs.Record.{Record, SameRecord}
use Rattle.lv_reduce.specs.declared.reductions.Answer.{Answer}
use Rattle.lv_reduce.specs.declared.scans.Scan.{Scan}
use Rattle.lv_live.specs.declared.events.Event.{Event}
use Rattle.lv_live.specs.declared.events.Event.TheVariants as event
use Rattle.lv_live.specs.declared.replies.ReplyOf.{ReplyOf}
use Rattle.lv_live.specs.declared.replies.ReplyOf.TheVariants as reply
use Rattle.lv_live.specs.Step.{EditStep, Reduces, Run, Scans, Step, after_claim, after_edit, claim_reply, edit_reply, reduction_reply, scan_reply}
use Rattle.lv_live.specs.PlainAnswers.{AllHadRoom}

-- records that say the same are one
pub one_record : (r next : Record) → SameRecord r next → r ≡ next
one_record r next same = λ i. record { edits = sym same.edits i; issued = sym same.issued i; claimed = λ n. sym (same.claimed n) i; kept = λ n. sym (same.kept n) i }

-- and what is one says the same
pub same_of : (r next : Record) → r ≡ next → SameRecord r next
same_of r next is = subst (SameRecord r) is record { edits = refl; issued = refl; claimed = λ n. refl; kept = λ n. refl }

-- two records after the same one are one
both_records : (r next after : Record) → SameRecord r next → SameRecord r after → next ≡ after
both_records r next after same other = sym (one_record r next same) ∙ one_record r after other

-- a call that nothing refuses isn't one that is refused for a known reason
refused_or_granted : (known : Option Refusal) (refusal : Refusal) → known ≡ None → known ≡ Some refusal → ⊥
refused_or_granted known refusal granted refused = cc

-- what is known twice is one
same_refusal : (known : Option Refusal) (a b : Refusal) → known ≡ Some a → known ≡ Some b → a ≡ b
same_refusal known a b first second = cc

-- a refusal other than `NoMemory` is the known one
one_refusal : (known : Option Refusal) (a b : Refusal) → IsRefusal known a → IsRefusal known b → a ≢ NoMemory → b ≢ NoMemory → a ≡ b
one_refusal known a b first second room other =
    elim first [
      | inl is ↦ elim second [
        | inl was ↦ same_refusal known a b is was
        | inr want ↦ absurd (other want.1)
      ]
      | inr want ↦ absurd (room want.1)
    ]

-- if nothing refuses a range or an edit, its only refusal is `NoMemory`
wanted_memory : (known : Option Refusal) (refusal : Refusal) → known ≡ None → IsRefusal known refusal → refusal ≡ NoMemory
wanted_memory known refusal granted is = elim is [ inl refused ↦ absurd (refused_or_granted known refusal granted refused) | inr want ↦ want.1 ]

-- of two nodes one is before the other, or they are one
one_node : (n m : Node) → (Before n m → ⊥) → (Before m n → ⊥) → n ≡ m
one_node n m not_before not_after =
    elim (cases_order n.level m.level) [
      | inl level ↦ elim (cases_order n.number m.number) [
        | inl number ↦ λ i. record { level = level i; number = number i }
        | inr other ↦ elim other [
          | inl less ↦ absurd (not_before (inr (level, less)))
          | inr more ↦ absurd (not_after (inr (sym level, more)))
        ]
      ]
      | inr other ↦ elim other [
        | inl less ↦ absurd (not_before (inl less))
        | inr more ↦ absurd (not_after (inl more))
      ]
    ]

-- a node that wants a job is not before the least that does
no_less : (r : Record) (n m : Node) → wants_job r n ≡ true → ((k : Node) → Before k m → wants_job r k ≡ false) → Before n m → ⊥
no_less r n m wants least before = true≢false (sym wants ∙ least n before)

-- there is one next job
one_next : (r : Record) (a b : Option (Node × ℕ)) → IsNextJob r a → IsNextJob r b → a ≡ b
one_next r None None first second = refl
one_next r None (Some job) first second = absurd (true≢false (sym second.0 ∙ first job.0))
one_next r (Some job) None first second = absurd (true≢false (sym first.0 ∙ second job.0))
one_next r (Some job) (Some other) first second =
    let same : job.0 ≡ other.0 = one_node job.0 other.0 (no_less r job.0 other.0 first.0 second.2) (no_less r other.0 job.0 second.0 first.2) in
    let version : job.1 ≡ other.1 = first.1 ∙ ap (touched_by r.edits) same ∙ sym second.1 in
    λ i. Some (same i, version i)

module _ {S : Type 0} (o : Operations S) (limits : Bounds) where
  -- an edit that memory was there for has one receipt or refusal, and one record after it
  one_edit : (r next after : Record) (edit : Edit) (a b : Result Receipt Refusal) → EditStep limits r edit a next → EditStep limits r edit b after
      → edit_reply {S = S} a ≢ reply.Refused NoMemory → edit_reply {S = S} b ≢ reply.Refused NoMemory → (a ≡ b) × (next ≡ after)
  one_edit r next after edit (Ok receipt) (Ok other) first second room had =
      (ap Ok (first.1 ∙ sym second.1), both_records (after_edit r edit) next after first.2 second.2)
  one_edit r next after edit (Ok receipt) (Err refusal) first second room had =
      absurd (had (ap reply.Refused (wanted_memory (verdict_of limits r.edits edit) refusal first.0 second.0)))
  one_edit r next after edit (Err refusal) (Ok receipt) first second room had =
      absurd (room (ap reply.Refused (wanted_memory (verdict_of limits r.edits edit) refusal second.0 first.0)))
  one_edit r next after edit (Err refusal) (Err other) first second room had = (
    ap Err (one_refusal (verdict_of limits r.edits edit) refusal other first.0 second.0 (λ want. room (ap reply.Refused want)) (λ want. had (ap reply.Refused want))),
    both_records r next after first.1 second.1,
  )

  -- a reduction has one answer
  one_reduction : (r : Record) (lo hi : ℕ) (a b : Result (Answer S) Refusal) → Reduces o r lo hi a → Reduces o r lo hi b → a ≡ b
  one_reduction r lo hi (Ok answer) (Ok other) first second =
      λ i. Ok record {
        edit = (first.0.edit ∙ sym second.0.edit) i;
        value = (first.0.value ∙ sym second.0.value) i;
        cells_read = (first.1.cells_are ∙ sym second.1.cells_are) i;
        summaries_read = (first.1.summaries_are ∙ sym second.1.summaries_are) i;
      }
  one_reduction r lo hi (Ok answer) (Err refusal) first second = absurd (refused_or_granted (range_refusal r.edits lo hi) refusal first.0.granted second)
  one_reduction r lo hi (Err refusal) (Ok answer) first second = absurd (refused_or_granted (range_refusal r.edits lo hi) refusal second.0.granted first)
  one_reduction r lo hi (Err refusal) (Err other) first second = ap Err (same_refusal (range_refusal r.edits lo hi) refusal other first second)

  -- a scan that memory was there for has one answer
  one_scan : (r : Record) (lo hi : ℕ) (inclusive : Bool) (a b : Result (Scan S) Refusal) → Scans o r lo hi inclusive a → Scans o r lo hi inclusive b
      → scan_reply a ≢ reply.Refused NoMemory → scan_reply b ≢ reply.Refused NoMemory → a ≡ b
  one_scan r lo hi inclusive (Ok scan) (Ok other) first second room had =
      λ i. Ok record { edit = (first.edit ∙ sym second.edit) i; values = (first.values_are ∙ sym second.values_are) i }
  one_scan r lo hi inclusive (Ok scan) (Err refusal) first second room had =
      absurd (had (ap reply.Refused (wanted_memory (range_refusal r.edits lo hi) refusal first.granted second)))
  one_scan r lo hi inclusive (Err refusal) (Ok scan) first second room had =
      absurd (room (ap reply.Refused (wanted_memory (range_refusal r.edits lo hi) refusal second.granted first)))
  one_scan r lo hi inclusive (Err refusal) (Err other) first second room had =
      ap Err (one_refusal (range_refusal r.edits lo hi) refusal other first second (λ want. room (ap reply.Refused want)) (λ want. had (ap reply.Refused want)))

  -- an event that memory was there for has one reply, and one record after it
  pub one_step : (r next after : Record) (event : Event) (answered other : ReplyOf S) → Step o limits r event answered next → Step o limits r event other after
      → answered ≢ reply.Refused NoMemory → other ≢ reply.Refused NoMemory → (answered ≡ other) × (next ≡ after)
  one_step r next after (event.Edit edit) answered other (a, is, first) (b, was, second) room had =
      let one = one_edit r next after edit a b first second (λ want. room (is ∙ want)) (λ want. had (was ∙ want)) in
      (is ∙ ap edit_reply one.0 ∙ sym was, one.1)
  one_step r next after event.Settle answered other first second room had = (first.0 ∙ sym second.0, both_records r next after first.1 second.1)
  one_step r next after event.Claim answered other (a, is, told, same) (b, was, told_too, same_too) room had =
      let job : a ≡ b = one_next r a b is was in (
        told ∙ ap (claim_reply (length r.issued + 1)) job ∙ sym told_too,
        sym (one_record (after_claim r a) next same) ∙ ap (after_claim r) job ∙ one_record (after_claim r b) after same_too,
      )
  one_step r next after (event.Deliver k) answered other first second room had = (first.0 ∙ sym second.0, both_records _ next after first.1 second.1)
  one_step r next after event.Forget answered other first second room had = (first.0 ∙ sym second.0, both_records _ next after first.1 second.1)
  one_step r next after (event.Reduce lo hi) answered other (a, is, first, same) (b, was, second, same_too) room had =
      (is ∙ ap reduction_reply (one_reduction r lo hi a b first second) ∙ sym was, both_records r next after same same_too)
  one_step r next after (event.Scan lo hi inclusive) answered other (a, is, first, same) (b, was, second, same_too) room had =
      (is ∙ ap scan_reply (one_scan r lo hi inclusive a b first second (λ want. room (is ∙ want)) (λ want. had (was ∙ want))) ∙ sym was, both_records r next after same same_too)

  -- a run in which no reply is `NoMemory` has one list of replies, and one record at its end
  pub one_outcome : (r next after : Record) (events : List Event) (replies answers : List (ReplyOf S)) → Run o limits r events replies next → AllHadRoom replies
      → Run o limits r events answers after → AllHadRoom answers → (replies ≡ answers) × (next ≡ after)
  one_outcome r next after [] [] [] first room second had = (refl, first ∙ sym second)
  one_outcome r next after [] [] (other ∷ answers) first room second had = absurd second
  one_outcome r next after [] (answered ∷ replies) answers first room second had = absurd first
  one_outcome r next after (event ∷ events) [] answers first room second had = absurd first
  one_outcome r next after (event ∷ events) (answered ∷ replies) [] first room second had = absurd second
  one_outcome r next after (event ∷ events) (answered ∷ replies) (other ∷ answers) (mid, step, run) room (half, walk, way) had =
      let one = one_step r mid half event answered other step walk (All-head (λ a. a ≢ reply.Refused NoMemory) answered replies room) (All-head (λ a. a ≢ reply.Refused NoMemory) other answers had) in
      let rest = one_outcome mid next after events replies answers run (All-tail (λ a. a ≢ reply.Refused NoMemory) answered replies room)
      (subst (λ r. Run o limits r events answers after) (sym one.1) way) (All-tail (λ a. a ≢ reply.Refused NoMemory) other answers had) in
      (λ i. one.0 i ∷ rest.0 i, rest.1)
