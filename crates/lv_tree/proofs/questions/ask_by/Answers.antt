-- Proof of `ask_by`: the answer by one kind, from the fold of its range.
use Rattle.std.proofs.Common.{◌-◌, sym, drop}
use Rattle.std.proofs.lemmas.List.Elements.{All-drop, All-take}
use Rattle.lv_geometry.specs.Elements.{IsElement}
use Rattle.lv_edits.specs.History.{list_of}
use Rattle.lv_edits.specs.Ranges.{slice_of}
use Rattle.lv_tree.proofs.ToldLaws.{some_in_range}
use Rattle.lv_tree.proofs.questions.ask_by.Goals as goal

pub returns-in-None-clause-ok : goal.returns-in-None-clause-ok
returns-in-None-clause-ok g c table fits =
    let edits = c.args.cells.now.journal in
    let xs = list_of edits in
    let lo = c.args.lo in
    let hi = c.args.hi in
    let elements = All-take IsElement (hi - lo) (drop lo xs) (All-drop IsElement lo xs c.edit-edit.ensures.limits.elements) in
    let some = some_in_range xs lo hi c.in-None.ensures.order c.in-None.ensures.inside in
    record {
      granted = sym c.in-None.ensures.value;
      edit = c.edit-edit.ensures.value;
      summary = c.tell.ensures c.args.late.now.body table (slice_of edits lo hi) fits elements some c.ask-sum.ensures.value;
    }
