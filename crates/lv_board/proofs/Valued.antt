-- The fold of a range after a legal history is its plain value.
use Rattle.std.proofs.Common.{◌≡◌, ℕ, ℤ, ◌-◌, List, drop, ap, ◌∙◌, arith}
use Rattle.std.proofs.lemmas.List.{length-take, length-drop}
use Rattle.std.proofs.lemmas.List.Elements.{All-take, All-drop}
use Rattle.lv_geometry.specs.Elements.{IsElement}
use Rattle.lv_bodies.specs.declared.kinds.Shown.{Shown}
use Rattle.lv_bodies.specs.Body.{CanFold, fold_of, Operations}
use Rattle.lv_edits.specs.Ranges.{slice_of}
use Rattle.lv_machine.specs.declared.entries.Entry.{Entry}
use Rattle.lv_machine.specs.History.{edits_of, elements_of, IsLegalHistory}
use Rattle.lv_machine.specs.Terms.{AreTerms, Terms}
use Rattle.lv_machine.proofs.HistoryLaws.{legal_within}
use Rattle.lv_reduce.specs.declared.reductions.Answer.{Answer}
use Rattle.lv_board.specs.Calls.{IsRangeAnswer}

-- a range may be folded
pub folds_range : (t : Terms) (h : List Entry) (lo hi : ℕ) → AreTerms t → IsLegalHistory t h → CanFold (slice_of (edits_of h) lo hi)
folds_range t h lo hi terms legal =
    let xs = elements_of h in
    let within = legal_within t h terms legal in
    record {
      few = omega (arith, within.few, length-take (hi - lo) (drop lo xs), length-drop lo xs);
      elements = All-take IsElement (hi - lo) (drop lo xs) (All-drop IsElement lo xs within.elements);
    }

pub valued : {S : Type 0} (o : Operations S) (shown : S → Shown) (plain : List ℤ → Shown) (t : Terms) (h : List Entry) (lo hi : ℕ) (answer : Answer S) (value : Shown) → ((xs : List ℤ) → CanFold xs → shown (fold_of o xs) ≡ plain xs) → AreTerms t → IsLegalHistory t h → IsRangeAnswer (fold_of o) (edits_of h) lo hi answer → value ≡ shown answer.value → IsRangeAnswer plain (edits_of h) lo hi record { edit = answer.edit; value = value; cells_read = answer.cells_read; summaries_read = answer.summaries_read }
valued o shown plain t h lo hi answer value shows terms legal summed is =
    let folded = folds_range t h lo hi terms legal in
    let shown_value = is ∙ ap shown summed.value ∙ shows (slice_of (edits_of h) lo hi) folded in
    record { granted = summed.granted; edit = summed.edit; value = shown_value; reads = summed.reads }
