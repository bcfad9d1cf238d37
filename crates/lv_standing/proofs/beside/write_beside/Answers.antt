-- Proof of `write_beside`: overwrites the element at an index, completes the write at once, and reports it to the kinds.
use Rattle.std.proofs.Common.{length, of_z, pos, rules, subst, sym, to_z, ◌+◌, ◌∙◌}
use Rattle.std.specs.Int.{w64}
use Rattle.std.specs.List.{slice_index_or}
use Rattle.std.proofs.lemmas.Int.{to_z-of_z}
use Rattle.lv_edits.specs.declared.edit.Edit.TheVariants.{Write}
use Rattle.lv_edits.specs.History.{list_of, with_edit}
use Rattle.lv_tree.specs.Kinds.{AreKept, AreReady}
use Rattle.lv_tree.proofs.KeptLaws.{LeavesAll-same}
use Rattle.lv_standing.proofs.BesideLaws.{ready_written}
use Rattle.lv_standing.proofs.beside.write_beside.Goals as goal

pub returns-in-Ok-clause-kept : goal.returns-in-Ok-clause-kept
returns-in-Ok-clause-kept g c =
    let old = c.args.live.now.history in
    let kinds = c.args.kinds.now in
    let answer = c.in-Ok.ensures.answer in
    let now = c.change_of-before.ensures in
    let before = to_z-of_z w64 c.change_of-before.result.before (search rules) ∙ now.before (length old.journal + 1) (slice_index_or (list_of old.journal) c.args.index (pos 0)) answer.receipt_is in
    let after = to_z-of_z w64 c.change_of-before.result.after (search rules) ∙ now.after in
    ready_written old c.write_through.new.self.history c.args.index _ (to_z w64 (of_z w64 c.change_of-before.result.before)) kinds c.follow_write.new.self c.keeps.ensures.limits answer.verdict answer.journal before
    (λ table h at kept. subst (λ x. AreKept table (with_edit h (Write c.args.index x)).journal c.follow_write.new.self) after (c.follow_write.ensures.kept table h at kept)) c.follow_write.ensures.leaves c.requires.kept

pub returns-in-Err-clause-kept : goal.returns-in-Err-clause-kept
returns-in-Err-clause-kept g c =
    let kinds = c.args.kinds.now in
    subst (λ h. AreReady kinds.table h.journal kinds) (sym c.in-Err.ensures.answer.same) c.requires.kept

pub returns-in-Err-clause-leaves : goal.returns-in-Err-clause-leaves
returns-in-Err-clause-leaves g c = LeavesAll-same c.args.kinds.now
