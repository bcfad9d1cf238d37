-- Proof of `write_noted`: overwrites an element; if no query has it, no note is due.
use Rattle.std.proofs.Common.{◌≡◌, ap, arith, length, subst, sym, w64}
use Rattle.std.proofs.lemmas.Int.{to_z-of_z}
use Rattle.lv_edits.specs.declared.edit.Edit.TheVariants.{Write}
use Rattle.lv_edits.specs.History.{list_of}
use Rattle.lv_edits.specs.Verdict.{Answers}
use Rattle.lv_standing.specs.Inner.{IsChangedBy, asked}
use Rattle.lv_standing.proofs.EditLaws.{same_elsewhere, unasked_noted}
use Rattle.lv_standing.proofs.edits.write_noted.Goals as goal

pub returns-then-count_asked-eq0 : goal.returns-then-count_asked-eq0
returns-then-count_asked-eq0 c =
    let old = c.args.live.now in
    let new = c.write_beside.new.live in
    let set = c.args.set.now in
    let edit = Write c.args.index c.args.value in
    let told = c.write_beside.ensures in
    let changed = c.changed_by-changed.result in
    let is : IsChangedBy (list_of old.history.journal) edit changed = subst (λ x. IsChangedBy (list_of old.history.journal) (Write c.args.index x) changed) (to_z-of_z w64 c.args.value c.ranges.value) (c.changed_by-changed.ensures (list_of old.history.journal) (sym c.size.ensures)) in
    let answer = subst (λ x. Answers old.history (Write c.args.index x) c.write_beside.result new.history) (to_z-of_z w64 c.args.value c.ranges.value) told.answer in
    let none : length (asked changed set.queries) ≡ 0 = omega (arith, c.if-count_asked-eq0.true, c.count_asked.ensures, ap (λ l. length (asked changed l)) c.queries.ensures.queries) in
    unasked_noted old new set c.args.summaries.now.items c.args.kinds.now c.write_beside.new.kinds c.args.notes.now.items edit c.requires c.write_beside.result changed
    answer told.limits told.refresh told.kept told.leaves none
    (λ receipt accepted. same_elsewhere old.history new.history edit changed c.requires.limits accepted.verdict accepted.journal is)
