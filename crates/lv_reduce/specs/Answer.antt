-- What a query over a range of the vector answers.
use Rattle.std.specs.Prelude.{◌≡◌, ℕ, Bool, ℤ, None, List, length, if◌then◌else◌}
use Rattle.lv_geometry.specs.declared.refusals.Refusal.{Refusal}
use Rattle.lv_bodies.specs.Body.{Operations, fold_of}
use Rattle.lv_bodies.specs.Scan.{exclusive_scan, inclusive_scan}
use Rattle.lv_edits.specs.declared.edit.Edit.{Edit}
use Rattle.lv_edits.specs.Ranges.{range_refusal, slice_of}
use Rattle.lv_edits.specs.Verdict.{IsRefusal}
use Rattle.lv_reduce.specs.declared.reductions.Answer.{Answer}
use Rattle.lv_reduce.specs.declared.scans.Scan.{Scan}

-- one of the two scans of a list
abbrev pub scan_of : {S : Type 0} → Bool → Operations S → List ℤ → List S
scan_of inclusive o xs = if inclusive then inclusive_scan o xs else exclusive_scan o xs

-- a reduction's answer: nothing refuses the range, and it is the fold of its elements at the last edit
pub record IsAnswer {S : Type 0} (o : Operations S) (edits : List Edit) (lo hi : ℕ) (answer : Answer S) : Type 0 where
  pub granted : range_refusal edits lo hi ≡ None
  pub edit : answer.edit ≡ length edits
  pub value : answer.value ≡ fold_of o (slice_of edits lo hi)

-- a reduction's answer, given as a pair: the number of the last edit, and the fold of the range's elements
pub record IsAnswerPair {S : Type 0} (o : Operations S) (edits : List Edit) (lo hi : ℕ) (answer : ℕ × S) : Type 0 where
  pub granted : range_refusal edits lo hi ≡ None
  pub edit : answer.0 ≡ length edits
  pub value : answer.1 ≡ fold_of o (slice_of edits lo hi)

-- a scan's answer: nothing refuses the range, and it has these values at the last edit
pub record IsScan {S : Type 0} (edits : List Edit) (lo hi : ℕ) (values : List S) (scan : Scan S) : Type 0 where
  pub granted : range_refusal edits lo hi ≡ None
  pub edit : scan.edit ≡ length edits
  pub values_are : scan.values ≡ values

-- a scan was refused with the error of its range, or with `NoMemory` if nothing refuses the range
abbrev pub IsScanRefusal : List Edit → ℕ → ℕ → Refusal → Type 0
IsScanRefusal edits lo hi refusal = IsRefusal (range_refusal edits lo hi) refusal
