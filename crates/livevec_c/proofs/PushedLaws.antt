-- Many pushes at once leave the limits.
use Rattle.std.proofs.Common.{◌≡◌, ℕ, ℤ, Result, Ok, Err, List, [], ◌∷◌, length, refl, ap, ◌∙◌}
use Rattle.lv_geometry.specs.declared.refusals.Refusal.{Refusal}
use Rattle.lv_edits.specs.declared.edit.Edit.TheVariants.{Push}
use Rattle.lv_edits.specs.History.{History, with_edit}
use Rattle.lv_edits.specs.Pushes.{AnswersAll, with_pushes}

-- pushes leave the limits
limits_pushed : (h : History) (xs : List ℤ) → (with_pushes h xs).limits ≡ h.limits
limits_pushed h [] = refl
limits_pushed h (x ∷ xs) = limits_pushed (with_edit h (Push x)) xs

-- whether they are accepted or not
pub limits_kept : (h new : History) (xs : List ℤ) (r : Result ℕ Refusal) → AnswersAll h xs r new → new.limits ≡ h.limits
limits_kept h new xs (Ok edit) answer = ap (λ (g : History). g.limits) answer.journal ∙ limits_pushed h xs
limits_kept h new xs (Err refusal) answer = ap (λ (g : History). g.limits) answer.same
