-- Lists that the edits of a journal make, one edit after another.
use Rattle.std.proofs.Common.{◌≡◌, ℕ, ◌+◌, ◌<◌, ◌≤◌, ◌^◌, Some, List, [], length, get_or, take, sym, subst, lit≤, arith}
use Rattle.std.proofs.lemmas.List.{take_all, take_more}
use Rattle.lv_edits.specs.declared.edit.Edit.{Edit}
use Rattle.lv_edits.specs.History.{applied, list_of, replayed}
use Rattle.lv_edits.proofs.HistoryLaws.{legal_before, legal_beginnings, list_of_replayed, replayed-nil}

-- the next edit of a legal journal makes the next list
pub next_list : (es : List Edit) (i : ℕ) (d : Edit) → i < length es → replayed es ≡ Some (list_of es) → applied (list_of (take i es)) (get_or es i d) ≡ Some (list_of (take (i + 1) es))
next_list es i d within legal =
    let more = take_more es i d within in
    subst (λ (js : List Edit). applied (list_of (take i es)) (get_or es i d) ≡ Some (list_of js)) (sym more)
    (legal_before (take i es) (get_or es i d)
    (subst (λ (js : List Edit). replayed js ≡ Some (list_of js)) more (legal_beginnings es legal (i + 1)))).1

-- no edits make the empty list
pub list_of_none : list_of [] ≡ []
list_of_none = list_of_replayed [] [] replayed-nil

-- so every list on the way there is short
pub few_of_none : (n : ℕ) → length (list_of (take n [])) ≤ 2 ^ 20
few_of_none n = rw (take_all {A = Edit} n [] (omega arith), list_of_none) (lit≤ tt)
