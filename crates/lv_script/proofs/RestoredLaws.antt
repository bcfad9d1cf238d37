-- A script that continues from edits is answered as the plain interpreter answers it from these on.
use Rattle.std.proofs.Common.{◌≡◌, ℕ, zero, suc, ◌+◌, ◌<◌, None, Option, Result, Err, List, [], ◌∷◌, ◌++◌, length, take, get_or, refl, sym, ap, ◌∙◌, subst, arith, lit≤, append_assoc, append-nil}
use Rattle.std.proofs.KnownBytes.{Consumes-nil}
use Rattle.std.proofs.lemmas.List.{take_more}
use Rattle.lv_geometry.specs.Bounds.{Bounds}
use Rattle.lv_edits.specs.declared.edit.Edit.{Edit}
use Rattle.lv_edits.specs.History.{History, with_edit}
use Rattle.lv_edits.specs.Verdict.{verdict_of}
use Rattle.lv_lines.specs.declared.fault.Fault.{Fault}
use Rattle.lv_lines.specs.declared.fault.Fault.TheVariants.{NoMemory}
use Rattle.lv_lines.specs.Replies.{LinesServed}
use Rattle.lv_transcript.specs.Transcript.{AreAcceptedAfter}
use Rattle.lv_script.specs.PlainScript.{start_after, vector_script}
use Rattle.lv_script.specs.Restored.{AnswersAfter}
use Rattle.lv_script.specs.Script.{ScriptState, ScriptStep}
use Rattle.lv_script.specs.Beginnings.{BeginsAfter}
use Rattle.lv_script.proofs.InterpreterLaws.{written_plain}
use Rattle.lv_script.proofs.PlainStepLaws.{lines_served_plain}
use Rattle.lv_script.proofs.WholeLaws.{whole_command}

module _ {T : Type 0} (limits : Bounds) (edits : List Edit) where
  -- a script's conversation from these edits on
  pub answers_after : (first last : ScriptState) (a b k l : Option (List ℕ)) (result : Result T Fault) → BeginsAfter limits edits first → LinesServed ScriptStep first last a b k l result
      → AnswersAfter limits edits a b k l result
  answers_after first last a b k l result begins c =
      let plain = lines_served_plain limits edits first last a b k l result begins c in
      record { seen = (first, last, begins, c); plain = plain; text = written_plain vector_script whole_command (start_after limits edits) plain.0 a b k l result plain.1 }

  -- the script never began, since there was no memory
  pub answers_none : (a k : Option (List ℕ)) → AnswersAfter {T = T} limits edits a a k k (Err NoMemory)
  answers_none a k =
      let first : ScriptState = record { limits = limits; seen = record { edits = edits; issued = []; claimed = λ n. None; kept = λ n. None }; queries = [] } in
      answers_after first first a a k k (Err NoMemory) record { limits_are = refl; edits_are = refl; issued = refl; claimed = λ n. refl; kept = λ n. refl; queries = refl }
      record { seen = []; read = Consumes-nil a; few = lit≤ tt; ends = (refl, refl, refl) }

-- ---- edits that are made one after the other

-- each of them is accepted after those before it
pub accepted_at : (limits : Bounds) (before edits : List Edit) (i : ℕ) (d : Edit) → AreAcceptedAfter limits before edits → i < length edits → verdict_of limits (before ++ take i edits) (get_or edits i d) ≡ None
accepted_at limits before [] i d accepted within = absurd (omega arith)
accepted_at limits before (e ∷ edits) zero d accepted within = subst (λ (js : List Edit). verdict_of limits js e ≡ None) (sym (append-nil before)) accepted.0
accepted_at limits before (e ∷ edits) (suc i) d accepted within =
    subst (λ (js : List Edit). verdict_of limits js (get_or edits i d) ≡ None) (append_assoc before (e ∷ []) (take i edits)) (accepted_at limits (before ++ e ∷ []) edits i d accepted.1 (omega arith))

-- a history with edits after its journal
abbrev pub with_edits : History → List Edit → History
with_edits h edits = record h { journal = h.journal ++ edits }

-- with one more
pub with_more : (h : History) (edits : List Edit) (i : ℕ) (d : Edit) → i < length edits → with_edit (with_edits h (take i edits)) (get_or edits i d) ≡ with_edits h (take (i + 1) edits)
with_more h edits i d within =
    ap (λ (js : List Edit). record h { journal = js })
    (append_assoc h.journal (take i edits) (get_or edits i d ∷ []) ∙ ap (λ (js : List Edit). h.journal ++ js) (sym (take_more edits i d within)))
