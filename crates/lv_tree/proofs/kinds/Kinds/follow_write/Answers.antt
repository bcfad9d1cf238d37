-- Proof of `Kinds::follow_write`: the sum returned last follows the write, and the kinds need not.
use Rattle.std.proofs.Common.{◌++◌, ◌∷◌, [], subst, sym, w64}
use Rattle.std.proofs.lemmas.Int.{to_z-of_z}
use Rattle.lv_edits.specs.declared.edit.Edit.TheVariants.{Write}
use Rattle.lv_tree.specs.LastSum.{IsSumOfRange, IsWriteOver}
use Rattle.lv_tree.proofs.KeptLaws.{kept_after, last_of}
use Rattle.lv_tree.proofs.kinds.Kinds.follow_write.Goals as goal

pub returns-clause-kept : goal.returns-clause-kept
returns-clause-kept c table h over_it kept =
    let before_is = to_z-of_z w64 c.args.before c.ranges.before in
    let x_is = to_z-of_z w64 c.args.x c.ranges.x in
    let last = c.follow_write.ensures h (subst (IsWriteOver h c.args.index) (sym before_is) over_it) (last_of table h.journal _ _ c.self.view_is kept) in
    let now = subst (λ x. IsSumOfRange (h.journal ++ Write c.args.index x ∷ []) c.follow_write.new.self) x_is last in
    kept_after table h.journal (Write c.args.index c.args.x ∷ []) _ _ c.follow_write.new.self c.self.view_is now kept
