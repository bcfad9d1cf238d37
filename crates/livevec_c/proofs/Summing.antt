-- A range of a vector may be summed up.
use Rattle.std.proofs.Common.{◌≡◌, ℕ, ◌-◌, ◌≤◌, Bool, true, false, cond, Some, None, List, length, refl, sym, ◌∙◌, arith}
use Rattle.std.specs.Prelude.{IsTrue, nat_lt}
use Rattle.std.proofs.lemmas.Bool.{ltb-false}
use Rattle.lv_geometry.specs.declared.refusals.Refusal.{Refusal}
use Rattle.lv_geometry.specs.declared.refusals.Refusal.TheVariants.{BadRange, OutOfRange}
use Rattle.lv_bodies.specs.Six.{SixSummary, six_operations_by}
use Rattle.lv_bodies.specs.Body.{fold_of}
use Rattle.lv_bodies.specs.Tables.{is_table}
use Rattle.lv_edits.proofs.Slices.{length-slice_range}
use Rattle.lv_edits.specs.History.{History, list_of}
use Rattle.lv_edits.specs.Kept.{IsLegalInLimits}
use Rattle.lv_edits.specs.declared.edit.Edit.{Edit}
use Rattle.lv_edits.specs.Ranges.{range_refusal, slice_of}
use Rattle.lv_summary.proofs.FoldableLaws.{can_fold, part_can_fold}
use Rattle.lv_shards.specs.Summaries.{IsFold, IsSummaryOf, Summary, leads_of}

-- a range that is not refused
pub record InRange (edits : List Edit) (lo hi : ℕ) : Type 0 where
  pub order : lo ≤ hi
  pub within : hi ≤ length (list_of edits)

chosen : (first second : Bool) (x y : Refusal) → cond first (Some x) (cond second (Some y) None) ≡ None → (first ≡ false) × (second ≡ false)
chosen true second x y e = absurd (cc)
chosen false true x y e = absurd (cc)
chosen false false x y e = (refl, refl)

pub in_range : (edits : List Edit) (lo hi : ℕ) → range_refusal edits lo hi ≡ None → InRange edits lo hi
in_range edits lo hi granted =
    let both = chosen (nat_lt hi lo) (nat_lt (length (list_of edits)) hi) BadRange (OutOfRange (length (list_of edits))) granted in
    record { order = ltb-false hi lo both.0; within = ltb-false (length (list_of edits)) hi both.1 }

-- what it comes to is that of so many elements
pub range_is_fold : (h : History) (table : List (List ℕ)) (lo hi : ℕ) (six : SixSummary) → IsLegalInLimits h → range_refusal h.journal lo hi ≡ None → six ≡ fold_of (six_operations_by table) (slice_of h.journal lo hi) → IsFold table (hi - lo) six
range_is_fold h table lo hi six legal granted is =
    let range = in_range h.journal lo hi granted in
    let can = part_can_fold (hi - lo) lo (list_of h.journal) (can_fold h legal) in
    record {
      xs = slice_of h.journal lo hi;
      can = record { few = omega (arith, can.few); elements = can.elements };
      count_is = sym (length-slice_range (list_of h.journal) lo hi range.order range.within);
      six_is = is;
    }

-- the summary that says what it comes to is that of its elements
pub range_is_summary : (h : History) (table : List (List ℕ)) (lo hi : ℕ) (s : Summary) → IsLegalInLimits h → range_refusal h.journal lo hi ≡ None → IsTrue (is_table table) → s.count ≡ hi - lo → s.six ≡ fold_of (six_operations_by table) (slice_of h.journal lo hi) → s.leads ≡ leads_of table → IsSummaryOf table (slice_of h.journal lo hi) s
range_is_summary h table lo hi s legal granted valid count six leads =
    let range = in_range h.journal lo hi granted in
    let can = part_can_fold (hi - lo) lo (list_of h.journal) (can_fold h legal) in
    record {
      states = valid;
      elements = can.elements;
      count = count ∙ sym (length-slice_range (list_of h.journal) lo hi range.order range.within);
      six = six;
      leads = leads;
    }
