-- Many edits in one call: the history after them, and the result of the call.
use Rattle.std.specs.Prelude.{◌≡◌, ℕ, ℤ, ◌+◌, Option, None, Result, Ok, Err, List, [], ◌∷◌, length}
use Rattle.lv_geometry.specs.declared.refusals.Refusal.{Refusal}
use Rattle.lv_edits.specs.declared.edit.Edit.{Edit}
use Rattle.lv_edits.specs.declared.edit.Edit.TheVariants.{Write}
use Rattle.lv_edits.specs.History.{History, with_edit}
use Rattle.lv_edits.specs.Pushes.{first_refusal}
use Rattle.lv_edits.specs.Verdict.{IsRefusal, verdict_of}

-- writes at indices, each of the value at the same place
abbrev pub writes_at : List ℕ → List ℤ → List Edit
writes_at [] xs = []
writes_at (i ∷ is) [] = []
writes_at (i ∷ is) (x ∷ xs) = Write i x ∷ writes_at is xs

-- a history after edits, one after another
abbrev pub with_edits : History → List Edit → History
with_edits h [] = h
with_edits h (e ∷ es) = with_edits (with_edit h e) es

-- the error of the first edit that is rejected, if edits are made one after another and memory suffices; none if all are accepted
abbrev pub verdict_of_edits : History → List Edit → Option Refusal
verdict_of_edits h [] = None
verdict_of_edits h (e ∷ es) = first_refusal (verdict_of h.limits h.journal e) (verdict_of_edits (with_edit h e) es)

-- all edits were accepted: none of them is rejected, the call returns the number of the last edit, and the journal has them at its end
pub record AcceptsEdits (old : History) (es : List Edit) (edit : ℕ) (new : History) : Type 0 where
  pub verdict : verdict_of_edits old es ≡ None
  pub edit_is : edit ≡ length old.journal + length es
  pub journal : new ≡ with_edits old es

-- the call was rejected: with the error of the first edit that is rejected, or with `NoMemory` if none is; nothing has changed
pub record RefusesEdits (old : History) (es : List Edit) (refusal : Refusal) (new : History) : Type 0 where
  pub verdict : IsRefusal (verdict_of_edits old es) refusal
  pub same : new ≡ old

-- the result of a call with many edits, which makes all of them or none
abbrev pub AnswersEdits : History → List Edit → Result ℕ Refusal → History → Type 0
AnswersEdits old es (Ok edit) new = AcceptsEdits old es edit new
AnswersEdits old es (Err refusal) new = RefusesEdits old es refusal new
