-- Proof of `Kinds::follow_made`: the sum returned last follows the edit, and the kinds need not.
use Rattle.std.proofs.Common.{◌++◌, ◌∷◌, [], ap, rules, subst, sym, w64, ◌∙◌}
use Rattle.std.proofs.lemmas.Int.{to_z-of_z}
use Rattle.lv_edits.specs.declared.edit.Edit.TheVariants.{Write}
use Rattle.lv_edits.proofs.HistoryLaws.{accepted_is_possible, legal-snoc}
use Rattle.lv_tree.specs.LastSum.{IsSumOfRange, IsWriteOver}
use Rattle.lv_tree.proofs.KeptLaws.{kept_after, last_of}
use Rattle.lv_tree.proofs.MadeLaws.{write_over}
use Rattle.lv_tree.proofs.kinds.Kinds.follow_made.Goals as goal

pub returns-in-Write-Written-clause-kept : goal.returns-in-Write-Written-clause-kept
returns-in-Write-Written-clause-kept g c table kept =
    let w = c.in-Write-Written in
    let es = g.before.journal in
    let before_is = to_z-of_z w64 w.before (search rules) in
    let value_is = to_z-of_z w64 w.value (search rules) in
    let over_it = write_over g.before c.args.edit.now c.args.receipt.now w.index w.edit-1 w.value w.before c.requires.0 c.requires.1.0 c.requires.1.1 w.is-0 w.is-1 in
    let made = w.is-0 ∙ ap (λ x. Write w.index x) (sym value_is) in
    let last = c.follow_write.ensures g.before (subst (IsWriteOver g.before w.index) (sym before_is) over_it) (last_of table es _ _ c.self.view_is kept) in
    let now = subst (λ e. IsSumOfRange (es ++ e ∷ []) c.follow_write.new.self) (sym made) last in
    kept_after table es (c.args.edit.now ∷ []) _ _ c.follow_write.new.self c.self.view_is now kept

pub returns-in_default-clause-kept : goal.returns-in_default-clause-kept
returns-in_default-clause-kept g c table kept =
    let h = g.before in
    let e = c.args.edit.now in
    let possible = accepted_is_possible h.limits h.journal e c.requires.1.0 in
    let legal = legal-snoc h.journal e possible.0 c.requires.0.legal possible.1 in
    kept_after table h.journal (e ∷ []) _ _ c.follow.new.self c.self.view_is (c.follow.ensures h.journal legal (last_of table h.journal _ _ c.self.view_is kept)) kept
