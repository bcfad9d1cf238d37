-- Many pushes in one call: the history after them, and the result of the call.
use Rattle.std.specs.Prelude.{◌≡◌, ℕ, ℤ, ◌+◌, Option, Some, None, Result, Ok, Err, List, [], ◌∷◌, length}
use Rattle.lv_geometry.specs.declared.refusals.Refusal.{Refusal}
use Rattle.lv_edits.specs.declared.edit.Edit.TheVariants.{Push}
use Rattle.lv_edits.specs.History.{History, with_edit}
use Rattle.lv_edits.specs.Verdict.{IsRefusal, verdict_of}

-- a history after pushes, one after another
abbrev pub with_pushes : History → List ℤ → History
with_pushes h [] = h
with_pushes h (x ∷ xs) = with_pushes (with_edit h (Push x)) xs

-- the first of two errors, if there is one
abbrev pub first_refusal : Option Refusal → Option Refusal → Option Refusal
first_refusal None later = later
first_refusal (Some refusal) later = Some refusal

-- the error of the first push that is rejected, if pushes are made one after another and memory suffices; none if all are accepted
abbrev pub verdict_of_pushes : History → List ℤ → Option Refusal
verdict_of_pushes h [] = None
verdict_of_pushes h (x ∷ xs) = first_refusal (verdict_of h.limits h.journal (Push x)) (verdict_of_pushes (with_edit h (Push x)) xs)

-- all pushes were accepted: none of them is rejected, the call returns the number of the last edit, and the journal has them at its end
pub record AcceptsAll (old : History) (xs : List ℤ) (edit : ℕ) (new : History) : Type 0 where
  pub verdict : verdict_of_pushes old xs ≡ None
  pub edit_is : edit ≡ length old.journal + length xs
  pub journal : new ≡ with_pushes old xs

-- the call was rejected: with the error of the first push that is rejected, or with `NoMemory` if none is; nothing has changed
pub record RefusesAll (old : History) (xs : List ℤ) (refusal : Refusal) (new : History) : Type 0 where
  pub verdict : IsRefusal (verdict_of_pushes old xs) refusal
  pub same : new ≡ old

-- the result of a call with many pushes
abbrev pub AnswersAll : History → List ℤ → Result ℕ Refusal → History → Type 0
AnswersAll old xs (Ok edit) new = AcceptsAll old xs edit new
AnswersAll old xs (Err refusal) new = RefusesAll old xs refusal new
