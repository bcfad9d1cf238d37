-- A call that knows what it should can do its next step.
use Rattle.std.proofs.Common.{◌≡◌, ℕ, ℤ, ◌+◌, ◌-◌, ◌*◌, ◌<◌, ◌≤◌, Bool, true, false, Some, None, List, length, refl, sym, ◌∙◌, inl, inr, arith}
use Rattle.std.specs.Prelude.{if◌then◌else◌}
use Rattle.std.proofs.lemmas.Bool.{cases_lt, lt-ltb, ltb-true}
use Rattle.lv_geometry.specs.declared.refusals.Refusal.{Refusal}
use Rattle.lv_geometry.specs.declared.refusals.Refusal.TheVariants.{OutOfRange}
use Rattle.lv_edits.specs.declared.edit.Edit.{Edit}
use Rattle.lv_edits.specs.declared.edit.Edit.TheVariants.{Push, Pop, Write, Reserve, Swap, Truncate}
use Rattle.lv_edits.specs.Touch.{is_whole}
use Rattle.lv_edits.specs.Verdict.{verdict_of}
use Rattle.lv_edits.proofs.HistoryLaws.{not_refused, unrefused_pop, unrefused_push, unrefused_write}
use Rattle.lv_edits.proofs.TouchLaws.{whole_from}
use Rattle.lv_machine.specs.declared.entries.Entry.{Entry}
use Rattle.lv_machine.specs.declared.tasks.Goal.TheVariants as goal
use Rattle.lv_machine.specs.History.{descriptor_of, edits_of, elements_of, IsLegalHistory}
use Rattle.lv_machine.specs.declared.tasks.Task.TheVariants as task
use Rattle.lv_machine.specs.Calls.{edit_begun}
use Rattle.lv_machine.specs.Progress.{IsGranted}
use Rattle.lv_machine.specs.Shows.{block}
use Rattle.lv_machine.specs.Terms.{AreTerms, blocks_of, Terms}
use Rattle.lv_machine.specs.Words.{edit_of, size_of}
use Rattle.lv_machine.proofs.HistoryLaws.{decoded, legal_within, length_below, length-edits_of}
use Rattle.lv_machine.proofs.MoveLaws.{verdict_at_descriptor}

-- a choice that gives nothing was made by a test that succeeded
pub held : (found : Bool) (refusal : Refusal) → (if found then None else Some refusal) ≡ None → found ≡ true
held true refusal none = refl
held false refusal none = absurd (cc)

pub not_held : (found : Bool) (refusal : Refusal) → (if found then Some refusal else None) ≡ None → found ≡ false
not_held true refusal none = absurd (cc)
not_held false refusal none = refl

module _ (t : Terms) (k : List Entry) (terms : AreTerms t) (legal : IsLegalHistory t k) where
  -- the sizes that a look shows
  pub look_size : size_of (descriptor_of k) ≡ length (elements_of k)
  look_size = (decoded t k terms legal).size

  pub look_edit : edit_of (descriptor_of k) ≡ length k
  look_edit = (decoded t k terms legal).edit

  pub size_in_blocks : length (elements_of k) ≤ 8 * blocks_of t.limits
  size_in_blocks = (legal_within t k terms legal).size

  -- a get that was granted has an element
  pub get_within : (i : ℕ) → IsGranted t.limits (descriptor_of k) (goal.Get i) → i < length (elements_of k)
  get_within i granted = omega (arith, look_size, ltb-true _ _ (held _ (OutOfRange (size_of (descriptor_of k))) granted.granted))

  -- a reduction that was granted has a range in the list
  pub reduce_within : (lo hi : ℕ) → IsGranted t.limits (descriptor_of k) (goal.Reduce lo hi) → hi ≤ length (elements_of k)
  reduce_within lo hi granted = elim (cases_lt (size_of (descriptor_of k)) hi) [
    | inl less ↦ absurd (absurd (cc (lt-ltb _ _ less, not_held _ (OutOfRange (size_of (descriptor_of k))) granted.granted)))
    | inr more ↦ omega (arith, look_size)
  ]

  -- a refresh that was granted has a full block
  pub refresh_within : (b : ℕ) → IsGranted t.limits (descriptor_of k) (goal.Refresh b) → 8 * b + 8 ≤ length (elements_of k)
  refresh_within b granted = omega (arith, look_size, ltb-true _ _ (held _ (OutOfRange (size_of (descriptor_of k))) granted.granted))

  pub block_whole : (b : ℕ) → 8 * b + 8 ≤ length (elements_of k) → is_whole (edits_of k) (block b) ≡ true
  block_whole b within = whole_from (edits_of k) (block b) refl (omega arith)

  -- an update that was granted is refused by nothing
  pub edit_granted : (e : Edit) → IsGranted t.limits (descriptor_of k) (goal.Edit e) → verdict_of t.limits (edits_of k) e ≡ None
  edit_granted e granted = sym (verdict_at_descriptor t k e terms legal) ∙ granted.granted

  pub pop_within : verdict_of t.limits (edits_of k) Pop ≡ None → 0 < length (elements_of k)
  pop_within free = unrefused_pop t.limits (elements_of k) (not_refused t.limits (edits_of k) Pop free).1

  pub write_within : (i : ℕ) (x : ℤ) → verdict_of t.limits (edits_of k) (Write i x) ≡ None → i < length (elements_of k)
  write_within i x free = unrefused_write t.limits (elements_of k) i x (not_refused t.limits (edits_of k) (Write i x) free).1

  pub push_within : (x : ℤ) → verdict_of t.limits (edits_of k) (Push x) ≡ None → length (elements_of k) < 8 * blocks_of t.limits
  push_within x free =
      let apart = unrefused_push t.limits (elements_of k) x (not_refused t.limits (edits_of k) (Push x) free).1 in
      omega (arith, size_in_blocks)

  pub edit_left : (e : Edit) → verdict_of t.limits (edits_of k) e ≡ None → length k < t.limits.edits
  edit_left e free =
      let apart = (not_refused t.limits (edits_of k) e free).0 in
      omega (arith, length-edits_of k, length_below t k terms legal)

  -- the index that an update reads is one of the list
  pub before_within : {S : Type 0} (edit : Edit) (i : ℕ) → IsGranted t.limits (descriptor_of k) (goal.Edit edit) → edit_begun {S = S} (descriptor_of k) edit ≡ task.ReadBefore edit i → i < length (elements_of k)
  before_within (Push x) i granted is = absurd (cc)
  before_within Pop i granted is =
      let index : size_of (descriptor_of k) - 1 ≡ i = cc in
      omega (arith, pop_within (edit_granted Pop granted), look_size)
  before_within (Write j x) i granted is =
      let index : j ≡ i = cc in
      omega (arith, write_within j x (edit_granted (Write j x) granted))
  before_within (Reserve n) i granted is = absurd (cc)
  before_within (Swap j k) i granted is = absurd (cc)
  before_within (Truncate n) i granted is = absurd (cc)
