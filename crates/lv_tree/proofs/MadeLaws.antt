-- A write that was accepted, in terms of its receipt.
use Rattle.std.proofs.Common.{◌≡◌, ℕ, ℤ, pos, None, sym, ap, ◌∙◌, subst}
use Rattle.lv_edits.specs.declared.edit.Edit.{Edit}
use Rattle.lv_edits.specs.declared.edit.Edit.TheVariants.{Write}
use Rattle.lv_edits.specs.declared.receipt.Receipt.{Receipt}
use Rattle.lv_edits.specs.declared.receipt.Receipt.TheVariants.{Written}
use Rattle.lv_edits.specs.History.{History, list_of}
use Rattle.lv_edits.specs.Kept.{IsLegalInLimits}
use Rattle.lv_edits.specs.Verdict.{receipt_of, verdict_of}
use Rattle.lv_edits.proofs.HistoryLaws.{not_refused, unrefused_write}
use Rattle.lv_tree.specs.LastSum.{IsWriteOver}

-- the element that a write replaced, as its receipt names it
element_before : Receipt → ℤ
element_before (Written n before) = before
element_before other = pos 0

-- a write that was accepted, and whose result names an element as the one before, is a write over that element
pub write_over : (h : History) (e : Edit) (r : Receipt) (i n : ℕ) (x before : ℤ) → IsLegalInLimits h → verdict_of h.limits h.journal e ≡ None → r ≡ receipt_of h.journal e → e ≡ Write i x → r ≡ Written n before → IsWriteOver h i before
unfolding element_before
write_over h e r i n x before legal free answered is told =
    let free_write : verdict_of h.limits h.journal (Write i x) ≡ None = subst (λ e. verdict_of h.limits h.journal e ≡ None) is free in
    let said : Written n before ≡ receipt_of h.journal (Write i x) = sym told ∙ answered ∙ ap (receipt_of h.journal) is in
    record {
      legal = legal.legal;
      inside = unrefused_write h.limits (list_of h.journal) i x (not_refused h.limits h.journal (Write i x) free_write).1;
      before_is = ap element_before said;
    }
