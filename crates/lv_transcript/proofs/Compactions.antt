-- A log of elements has their list, and so it continues from edits that it has no more.
use Rattle.std.proofs.Common.{◌≡◌, ℕ, ℤ, ◌+◌, ◌-◌, Some, Option, List, [], ◌∷◌, ◌++◌, length, map, refl, sym, ap, ◌∙◌, arith}
use Rattle.std.proofs.lemmas.List.{append-nil, append_assoc, length-map}
use Rattle.lv_edits.specs.declared.edit.Edit.{Edit}
use Rattle.lv_edits.specs.declared.edit.Edit.TheVariants.{Push}
use Rattle.lv_edits.specs.History.{list_of, replayed}
use Rattle.lv_edits.proofs.HistoryLaws.{legal-snoc, legal_empty, list_of-snoc}
use Rattle.lv_transcript.specs.declared.log_heading.LogHeading.{LogHeading}
use Rattle.lv_transcript.specs.Fronts.{edits_in}
use Rattle.lv_transcript.specs.Logs.{GoesOnFrom, compacted, number_of, pushes_of_elements}
use Rattle.lv_transcript.proofs.ReplayLemmas.{list_of_none}

-- the edits among the pushes of elements
edits_of_pushes : (elements : List ℤ) → edits_in (pushes_of_elements elements) ≡ map Push elements
edits_of_pushes [] = refl
edits_of_pushes (x ∷ elements) = ap (λ edits. Push x ∷ edits) (edits_of_pushes elements)

-- after legal edits they put their elements after the list
pushed_behind : (before : List Edit) (elements : List ℤ) → replayed before ≡ Some (list_of before) → list_of (before ++ map Push elements) ≡ list_of before ++ elements
pushed_behind before [] legal = ap list_of (append-nil before) ∙ sym (append-nil (list_of before))
pushed_behind before (x ∷ elements) legal =
    ap list_of (sym (append_assoc before (Push x ∷ []) (map Push elements)))
    ∙ pushed_behind (before ++ Push x ∷ []) elements (legal-snoc before (Push x) _ legal refl)
    ∙ ap (λ list. list ++ elements) (list_of-snoc before (Push x) _ legal refl).1
    ∙ append_assoc (list_of before) (x ∷ []) elements

-- so their list are the elements
list_of_pushes : (elements : List ℤ) → list_of (edits_in (pushes_of_elements elements)) ≡ elements
list_of_pushes elements =
    ap list_of (edits_of_pushes elements) ∙ pushed_behind [] elements legal_empty ∙ ap (λ list. list ++ elements) list_of_none

-- and there are as many
length_of_pushes : (elements : List ℤ) → length (edits_in (pushes_of_elements elements)) ≡ length elements
length_of_pushes elements = ap length (edits_of_pushes elements) ∙ length-map elements Push

-- a log of the elements after some edits continues from these
pub goes_on : (heading : Option LogHeading) (journal : List Edit) → GoesOnFrom heading journal (compacted heading journal) (pushes_of_elements (list_of journal))
goes_on heading journal = record {
  same_list = list_of_pushes (list_of journal);
  same_number = omega (arith, length_of_pushes (list_of journal));
}
