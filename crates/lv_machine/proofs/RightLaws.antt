-- What a call does once its look's pending write is complete, and how it proceeds by each load, is right.
use Rattle.std.proofs.Common.{◌≡◌, ◌≢◌, ℕ, suc, ℤ, ◌+◌, ◌-◌, ◌*◌, ◌/◌, ◌%◌, ◌<◌, ◌≤◌, Bool, true, false, ◌&&◌, Option, Some, None, List, [], ◌∷◌, length, nat_eq, nat_le, nat_lt, slice_index, refl, sym, ap, ◌∙◌, inl, inr, arith}
use Rattle.std.specs.Prelude.{if◌then◌else◌, take, drop, slice_range, pos}
use Rattle.std.specs.List.{slice_index_or}
use Rattle.std.proofs.lemmas.Bool.{and_parts, cases_Bool, cond-false, eqb-true, eqb-false, leb-true, ltb-true, ltb-false, false≢true}
use Rattle.lv_geometry.specs.Bounds.{Bounds}
use Rattle.lv_geometry.specs.declared.refusals.Refusal.{Refusal}
use Rattle.lv_geometry.specs.declared.refusals.Refusal.TheVariants.{OutOfRange}
use Rattle.lv_bodies.specs.Body.{Operations, fold_of}
use Rattle.lv_edits.specs.declared.edit.Edit.{Edit}
use Rattle.lv_edits.specs.declared.edit.Edit.TheVariants.{Push, Pop, Write, Reserve, Swap, Truncate}
use Rattle.lv_edits.specs.declared.receipt.Receipt.TheVariants.{Pushed, Popped, Written}
use Rattle.lv_edits.specs.Ranges.{range_refusal}
use Rattle.lv_reduce.proofs.PieceLaws.{slice-nothing}
use Rattle.lv_reduce.proofs.ScanLaws.{fold_of-slice-more}
use Rattle.lv_machine.specs.declared.entries.Entry.{Entry}
use Rattle.lv_machine.specs.declared.tasks.Advance.{Advance}
use Rattle.lv_machine.specs.declared.tasks.Advance.TheVariants as advance
use Rattle.lv_machine.specs.declared.tasks.Goal.{Goal}
use Rattle.lv_machine.specs.declared.tasks.Goal.TheVariants as goal
use Rattle.lv_machine.specs.declared.tasks.Keep.{Keep}
use Rattle.lv_machine.specs.declared.tasks.Parts.{Parts}
use Rattle.lv_machine.specs.declared.tasks.Task.TheVariants as task
use Rattle.lv_machine.specs.declared.tasks.Walk.{Walk}
use Rattle.lv_machine.specs.History.{descriptor_of, edits_of, elements_of, IsLegalHistory}
use Rattle.lv_machine.specs.Calls.{begun, cell_kept, edit_begun, looked_at, needs_help, part_kept, refusal_at, unless_later, walked, with_cell, with_kept}
use Rattle.lv_machine.specs.Moves.{IsComplete}
use Rattle.lv_machine.specs.Progress.{IsGoal, IsGranted, IsRight, KeepsCells, KeepsParts, MayEdit, refusal_after, terms_of, Walks}
use Rattle.lv_machine.specs.Terms.{AreTerms, Terms}
use Rattle.lv_machine.specs.Words.{edit_of, index_of, signed, size_of, value_of}
use Rattle.lv_machine.proofs.HistoryLaws.{length-edits_of}
use Rattle.lv_machine.proofs.MoveLaws.{verdict_at_descriptor}
use Rattle.lv_machine.proofs.ReadyLaws.{block_whole, look_edit, look_size, reduce_within, refresh_within}

-- lists of one length with equal numbers are equal
pub same_list : (xs ys : List ℕ) → length xs ≡ length ys → ((p : ℕ) → slice_index xs p ≡ slice_index ys p) → xs ≡ ys
same_list [] [] long same = refl
same_list [] (y ∷ ys) long same = absurd (omega (arith, long))
same_list (x ∷ xs) [] long same = absurd (omega (arith, long))
same_list (x ∷ xs) (y ∷ ys) long same =
    let first : x ≡ y = same 0 in
    let rest : xs ≡ ys = same_list xs ys (omega (arith, long)) (λ p. same (suc p)) in
    cc

module _ {S : Type 0} (o : Operations S) (count : ℕ) (parts_of : S → List ℕ) (whole_of : List ℕ → S) (limits : Bounds) (seats a : ℕ) (words : List ℕ) (h old k : List Entry) (terms : AreTerms (terms_of o count parts_of limits seats)) (legal : IsLegalHistory (terms_of o count parts_of limits seats) k) where
  T : Terms
  T = terms_of o count parts_of limits seats

  at_edit : edit_of (descriptor_of k) ≡ length k
  at_edit = look_edit (terms_of o count parts_of limits seats) k terms legal

  at_size : size_of (descriptor_of k) ≡ length (elements_of k)
  at_size = look_size (terms_of o count parts_of limits seats) k terms legal

  -- a word of a later update ends a call
  pub unless_right : (g : Goal) (v : ℕ) (next : Advance S) → v ≤ length h → (v ≤ length k → IsRight o count parts_of limits a words h old k g next) → IsRight o count parts_of limits a words h old k g (unless_later (descriptor_of k) v next)
  unless_right g v next late right = elim (cases_Bool (nat_lt (edit_of (descriptor_of k)) v)) [
    | inl later ↦ rw later (inr (inr (v, refl, omega (arith, at_edit, ltb-true _ _ later), late)))
    | inr now ↦ rw now (right (omega (arith, at_edit, ltb-false _ _ now)))
  ]

  range_free : (lo hi : ℕ) → lo ≤ hi → hi ≤ length (elements_of k) → range_refusal (edits_of k) lo hi ≡ None
  range_free lo hi order inside =
      let first : nat_lt hi lo ≡ false = elim (cases_Bool (nat_lt hi lo)) [ inl wrong ↦ absurd (omega (arith, ltb-true _ _ wrong)) | inr right ↦ right ] in
      let second : nat_lt (length (elements_of k)) hi ≡ false = elim (cases_Bool (nat_lt (length (elements_of k)) hi)) [ inl wrong ↦ absurd (omega (arith, ltb-true _ _ wrong)) | inr right ↦ right ] in
      cond-false _ _ _ first ∙ cond-false _ _ _ second

  -- a walk that knows what it should proceeds, or has its answer
  pub walked_right : (walk : Walk S) → Walks o count parts_of limits words k walk → IsRight o count parts_of limits a words h old k (goal.Reduce walk.lo walk.hi) (walked (descriptor_of k) walk)
  walked_right walk w = elim (cases_Bool (nat_lt walk.at walk.hi)) [
    | inl goes ↦ elim (cases_Bool (nat_eq (walk.at % 8) 0 && nat_le 8 (walk.hi - walk.at))) [
      | inl whole ↦
          let both = and_parts _ _ whole in
          rw (goes, whole) (record { walks = w; begins = eqb-true _ _ both.0; ends = omega (arith, leb-true _ _ both.1, ltb-true _ _ goes) }, refl)
      | inr part ↦ rw (goes, part) ((w, ltb-true _ _ goes), refl)
    ]
    | inr over ↦
        let end : walk.at ≡ walk.hi = omega (arith, w.high, ltb-false _ _ over) in
        let inside = reduce_within (terms_of o count parts_of limits seats) k terms legal walk.lo walk.hi w.granted in
        rw over record {
          lo = walk.lo;
          hi = walk.hi;
          asked = refl;
          fold = record {
            granted = range_free walk.lo walk.hi w.granted.may inside;
            edit = omega (arith, at_edit, length-edits_of k);
            value = w.sum ∙ ap (λ n. fold_of o (slice_range (elements_of k) walk.lo n)) end;
          };
          reads = omega (arith, w.counts);
        }
  ]

  -- what a call does once its look's pending write is complete
  pub begun_right : (g : Goal) → IsGranted limits (descriptor_of k) g → IsComplete words (descriptor_of k) → IsRight o count parts_of limits a words h old k g (begun o count parts_of whole_of (descriptor_of k) g)
  begun_right (goal.Edit (Push x)) granted complete =
      let number : edit_of (descriptor_of k) + 1 ≡ length (edits_of k) + 1 = omega (arith, at_edit, length-edits_of k) in
      ((record { granted = granted; complete = complete }, ap (λ n. Pushed n (size_of (descriptor_of k))) number ∙ ap (Pushed (length (edits_of k) + 1)) at_size), refl)
  begun_right (goal.Edit Pop) granted complete = ((record { granted = granted; complete = complete }, refl), refl)
  begun_right (goal.Edit (Write i x)) granted complete = ((record { granted = granted; complete = complete }, refl), refl)
  begun_right (goal.Edit (Reserve n)) granted complete = absurd granted.may
  begun_right (goal.Edit (Swap i j)) granted complete = absurd granted.may
  begun_right (goal.Edit (Truncate n)) granted complete = absurd granted.may
  begun_right (goal.Get i) granted complete = ((granted, complete), refl)
  begun_right goal.Size granted complete = record { asked = refl; edit = at_edit; size = at_size }
  begun_right (goal.Reduce lo hi) granted complete =
      walked_right record { lo = lo; at = lo; hi = hi; sum = o.identity; cells = 0; summaries = 0 } record {
        granted = granted;
        complete = complete;
        low = omega arith;
        high = granted.may;
        sum = slice-nothing o (elements_of k) lo;
        counts = omega arith;
      }
  begun_right (goal.Refresh b) granted complete = (record { granted = granted; complete = complete }, refl)

  no_pending : (nat_lt (index_of (descriptor_of k)) 4088 ≡ false) → IsComplete words (descriptor_of k)
  no_pending none = record { cell = λ has. absurd (omega (arith, ltb-false _ _ none)); mark = λ has. absurd (omega (arith, ltb-false _ _ none)) }

  refusal_same : (g : Goal) → refusal_at limits (descriptor_of k) g ≡ refusal_after limits (edits_of k) (length (elements_of k)) g
  refusal_same (goal.Edit edit) = verdict_at_descriptor (terms_of o count parts_of limits seats) k edit terms legal
  refusal_same (goal.Get i) = ap (λ n. if nat_lt i n then None else Some (OutOfRange n)) at_size
  refusal_same goal.Size = refl
  refusal_same (goal.Reduce lo hi) = ap (λ n. if nat_lt n hi then Some (OutOfRange n) else None) at_size
  refusal_same (goal.Refresh b) = ap (λ n. if nat_lt b (n / 8) then None else Some (OutOfRange n)) at_size

  help_by : (g : Goal) (help : Bool) → needs_help (descriptor_of k) g ≡ help → IsGranted limits (descriptor_of k) g → IsRight o count parts_of limits a words h old k g (if help then advance.Goes (task.CompleteCell g) else begun o count parts_of whole_of (descriptor_of k) g)
  help_by (goal.Edit edit) true is granted = ((granted, ltb-true _ _ is), refl)
  help_by (goal.Edit edit) false is granted = begun_right (goal.Edit edit) granted (no_pending is)
  help_by (goal.Get i) true is granted = ((granted, ltb-true _ _ is), refl)
  help_by (goal.Get i) false is granted = begun_right (goal.Get i) granted (no_pending is)
  help_by goal.Size true is granted = absurd (false≢true is)
  help_by goal.Size false is granted = record { asked = refl; edit = at_edit; size = at_size }
  help_by (goal.Reduce lo hi) true is granted = ((granted, ltb-true _ _ is), refl)
  help_by (goal.Reduce lo hi) false is granted = begun_right (goal.Reduce lo hi) granted (no_pending is)
  help_by (goal.Refresh b) true is granted = ((granted, ltb-true _ _ is), refl)
  help_by (goal.Refresh b) false is granted = begun_right (goal.Refresh b) granted (no_pending is)

  -- what a call does after its look
  pub looked_right : (g : Goal) (refusal : Option Refusal) → IsGoal g → refusal_at limits (descriptor_of k) g ≡ refusal → IsRight o count parts_of limits a words h old k g (looked_at o count parts_of whole_of (descriptor_of k) g refusal)
  looked_right g (Some refusal) may is = inl (sym (refusal_same g) ∙ is)
  looked_right g None may is = help_by g (needs_help (descriptor_of k) g) refl record { may = may; granted = is }

  -- a pop and a write that loaded the old element
  pub before_right : (edit : Edit) (i : ℕ) (x : ℤ) → MayEdit o count parts_of limits words k edit → edit_begun {S = S} (descriptor_of k) edit ≡ task.ReadBefore edit i → x ≡ slice_index_or (elements_of k) i (pos 0) → IsRight o count parts_of limits a words h old k (goal.Edit edit) (advance.Goes (task.Exchange edit x))
  before_right (Push y) i x may is value = absurd (cc)
  before_right Pop i x may is value =
      let number : edit_of (descriptor_of k) + 1 ≡ length (edits_of k) + 1 = omega (arith, at_edit, length-edits_of k) in
      let index : size_of (descriptor_of k) - 1 ≡ i = cc in
      let place : i ≡ length (elements_of k) - 1 = omega (arith, at_size) in
      ((may, ap (λ n. Popped n x) number ∙ ap (Popped (length (edits_of k) + 1)) (value ∙ ap (λ n. slice_index_or (elements_of k) n (pos 0)) place)), refl)
  before_right (Write j y) i x may is value =
      let number : edit_of (descriptor_of k) + 1 ≡ length (edits_of k) + 1 = omega (arith, at_edit, length-edits_of k) in
      let index : i ≡ j = cc in
      ((may, ap (λ n. Written n x) number ∙ ap (Written (length (edits_of k) + 1)) (value ∙ ap (λ n. slice_index_or (elements_of k) n (pos 0)) index)), refl)
  before_right (Reserve n) i x may is value = absurd (cc)
  before_right (Swap j k) i x may is value = absurd (cc)
  before_right (Truncate n) i x may is value = absurd (cc)

  -- a reduction that loaded the element at its position
  pub cell_right : (walk : Walk S) (found : ℕ) → Walks o count parts_of limits words k walk → walk.at < walk.hi → signed (value_of found) ≡ slice_index_or (elements_of k) walk.at (signed (value_of found)) → IsRight o count parts_of limits a words h old k (goal.Reduce walk.lo walk.hi) (walked (descriptor_of k) (with_cell o count parts_of whole_of walk found))
  cell_right walk found w some value =
      let inside = reduce_within (terms_of o count parts_of limits seats) k terms legal walk.lo walk.hi w.granted in
      walked_right (with_cell o count parts_of whole_of walk found) record {
        granted = w.granted;
        complete = w.complete;
        low = omega (arith, w.low);
        high = omega arith;
        sum = fold_of-slice-more o (elements_of k) walk.lo walk.at (signed (value_of found)) w.low (omega arith) value walk.sum _ (signed (value_of found)) refl w.sum refl;
        counts = omega (arith, w.counts);
      }

  -- a refresh that loaded an element of its block
  pub kept_right : (keep : Keep S) (found : ℕ) → KeepsCells o count parts_of limits words k keep → 1 ≤ count → signed (value_of found) ≡ slice_index_or (elements_of k) keep.at (signed (value_of found)) → IsRight o count parts_of limits a words h old k (goal.Refresh keep.block) (cell_kept o count parts_of whole_of (with_kept o count parts_of whole_of keep found))
  kept_right keep found w some value =
      let inside = refresh_within (terms_of o count parts_of limits seats) k terms legal keep.block w.keeps.granted in
      let sum = fold_of-slice-more o (elements_of k) (8 * keep.block) keep.at (signed (value_of found)) w.low (omega (arith, w.high)) value keep.sum _ (signed (value_of found)) refl w.sum refl in
      elim (cases_Bool (nat_eq ((keep.at + 1) % 8) 0)) [
        | inl last ↦
            let multiple : (keep.at + 1) % 8 ≡ 0 = eqb-true _ _ last in
            let low = w.low in
            let high = w.high in
            let end : keep.at + 1 ≡ 8 * keep.block + 8 = omega arith in
            let wide : keep.at + 1 - 8 * keep.block ≡ 8 = omega arith in
            let first : 8 * keep.block ≡ keep.block * 8 = omega arith in
            rw last (
              record {
                keeps = w.keeps;
                version = w.version;
                some = some;
                values = ap parts_of (sum ∙ ap (λ n. fold_of o (take n (drop (8 * keep.block) (elements_of k)))) wide ∙ ap (λ n. fold_of o (take 8 (drop n (elements_of k)))) first);
              },
              refl,
            )
        | inr more ↦
            let odd : (keep.at + 1) % 8 ≢ 0 = eqb-false _ _ more in
            let low = w.low in
            let high = w.high in
            rw more (record { keeps = w.keeps; version = w.version; low = omega arith; high = omega arith; sum = sum }, refl)
      ]

  -- a refresh that raised a part
  pub part_kept_right : (b : ℕ) (parts : Parts) → KeepsParts o count parts_of limits words k b parts → IsRight o count parts_of limits a words h old k (goal.Refresh b) (part_kept count (descriptor_of k) b parts)
  part_kept_right b parts w = elim (cases_Bool (nat_lt (parts.number + 1) count)) [
    | inl more ↦ rw more (record { keeps = w.keeps; version = w.version; some = ltb-true _ _ more; values = w.values }, refl)
    | inr over ↦ rw over record {
      block_number = b;
      asked = refl;
      whole = block_whole (terms_of o count parts_of limits seats) k terms legal b (refresh_within (terms_of o count parts_of limits seats) k terms legal b w.keeps.granted);
      edit = at_edit;
      version = w.version;
    }
  ]
