-- Whatever a vector accepts within its limits would be accepted within the greatest limits.
use Rattle.std.proofs.Common.{◌≡◌, ◌≢◌, map, refl, ◌≤◌, None, Result, Ok, Err, List, [], ◌∷◌, ◌++◌, length, sym, ap, ◌∙◌, subst, arith, append_assoc, append-nil}
use Rattle.std.specs.Prelude.{ℤ}
use Rattle.std.proofs.lemmas.Bool.{cond-false, le-ltb, ne_eqb}
use Rattle.std.proofs.lemmas.List.{length_push}
use Rattle.lv_geometry.specs.Bounds.{AreAllowed, Bounds}
use Rattle.lv_geometry.specs.Cells.{capacity_of}
use Rattle.lv_geometry.specs.declared.refusals.Refusal.{Refusal}
use Rattle.lv_geometry.proofs.Capacities.{capacity_of_most}
use Rattle.lv_edits.specs.declared.edit.Edit.{Edit}
use Rattle.lv_edits.specs.declared.edit.Edit.TheVariants.{Push, Pop, Write, Reserve, Swap, Truncate}
use Rattle.lv_edits.specs.declared.receipt.Receipt.{Receipt}
use Rattle.lv_edits.specs.History.{History, list_of, with_edit}
use Rattle.lv_edits.specs.Pushes.{verdict_of_pushes, with_pushes}
use Rattle.lv_edits.specs.Verdict.{Answers, refused_on, verdict_of}
use Rattle.lv_edits.proofs.HistoryLaws.{legal-snoc, not_refused, unrefused_push, unrefused_reserve}
use Rattle.lv_edits.proofs.PushLaws.{KeepsLimits, keeps_limits, neither, size_pushed}
use Rattle.lv_transcript.specs.Transcript.{AreAccepted, AreAcceptedAfter, greatest}
use Rattle.lv_hub.specs.Renewing.{IsVector}

-- what some limits don't refuse, the greatest limits don't refuse either
refused_by_greatest : (limits : Bounds) (xs : List ℤ) (e : Edit) → limits.buckets ≤ 17 → length xs ≤ capacity_of limits.buckets → refused_on limits xs e ≡ None → refused_on greatest xs e ≡ None
refused_by_greatest limits xs (Push x) few fits free =
    cond-false _ _ _ (ne_eqb (length xs) (capacity_of 17) (omega (arith, capacity_of_most limits.buckets few, unrefused_push limits xs x free)))
refused_by_greatest limits xs Pop few fits free = free
refused_by_greatest limits xs (Write i x) few fits free = free
refused_by_greatest limits xs (Reserve n) few fits free =
    cond-false _ _ _ (le-ltb (capacity_of 17) n (omega (arith, capacity_of_most limits.buckets few, unrefused_reserve limits xs n free)))
refused_by_greatest limits xs (Swap i j) few fits free = free
refused_by_greatest limits xs (Truncate n) few fits free = free

-- an edit that a vector accepts is accepted within the greatest limits
verdict_by_greatest : (h : History) (e : Edit) → AreAllowed h.limits.buckets h.limits.edits → KeepsLimits h → verdict_of h.limits h.journal e ≡ None → verdict_of greatest h.journal e ≡ None
verdict_by_greatest h e allowed keeps free =
    let parts = not_refused h.limits h.journal e free in
    cond-false _ _ _ (ne_eqb (length h.journal) 16777215 (omega (arith, keeps.edits, allowed.few_edits, parts.0)))
    ∙ refused_by_greatest h.limits (list_of h.journal) e allowed.few_buckets keeps.size parts.1

-- one more update is accepted after those that were accepted
accepted_more : (limits : Bounds) (before edits : List Edit) (e : Edit) → AreAcceptedAfter limits before edits → verdict_of limits (before ++ edits) e ≡ None → AreAcceptedAfter limits before (edits ++ e ∷ [])
accepted_more limits before [] e accepted free = (ap (λ es. verdict_of limits es e) (sym (append-nil before)) ∙ free, tt)
accepted_more limits before (x ∷ edits) e accepted free =
    (accepted.0, accepted_more limits (before ++ x ∷ []) edits e accepted.1 (ap (λ es. verdict_of limits es e) (append_assoc before (x ∷ []) edits) ∙ free))

-- whatever a vector's result of an update is, all that it has accepted is accepted within the greatest limits
pub all_accepted : (limits : Bounds) (old new : History) (e : Edit) (result : Result Receipt Refusal) → IsVector limits old → Answers old e result new → AreAccepted greatest old.journal → AreAccepted greatest new.journal
all_accepted limits old new e (Ok receipt) vector answers accepted =
    subst (AreAccepted greatest) (sym (ap (λ h. h.journal) answers.journal))
    (accepted_more greatest [] old.journal e accepted (verdict_by_greatest old e vector.within.allowed (keeps_limits old vector.within) answers.verdict))
all_accepted limits old new e (Err refusal) vector answers accepted =
    subst (AreAccepted greatest) (sym (ap (λ h. h.journal) answers.same)) accepted

-- pushes, as edits
pub with_pushes_is : (limits : Bounds) (es : List Edit) (xs : List ℤ) → with_pushes record { limits = limits; journal = es } xs ≡ record { limits = limits; journal = es ++ map Push xs }
with_pushes_is limits es [] = ap (λ es. record { limits = limits; journal = es }) (sym (append-nil es))
with_pushes_is limits es (x ∷ xs) = with_pushes_is limits (es ++ Push x ∷ []) xs ∙ ap (λ es. record { limits = limits; journal = es }) (append_assoc es (Push x ∷ []) (map Push xs))

-- a push that a vector accepts stays within its limits
keeps_push : (h : History) (x : ℤ) → KeepsLimits h → length h.journal ≢ h.limits.edits → length (list_of h.journal) ≢ capacity_of h.limits.buckets → KeepsLimits (with_edit h (Push x))
keeps_push h x keeps edits cells = record {
  legal = legal-snoc h.journal (Push x) _ keeps.legal refl;
  edits = omega (arith, keeps.edits, edits, length_push h.journal (Push x));
  size = omega (arith, keeps.size, cells, size_pushed h x keeps.legal);
}

-- pushes that a vector accepts are accepted within the greatest limits
pub pushes_accepted : (h : History) (xs : List ℤ) → AreAllowed h.limits.buckets h.limits.edits → KeepsLimits h → verdict_of_pushes h xs ≡ None → AreAccepted greatest h.journal → AreAccepted greatest (with_pushes h xs).journal
pushes_accepted h [] allowed keeps free accepted = accepted
pushes_accepted h (x ∷ xs) allowed keeps free accepted =
    let parts = neither (verdict_of h.limits h.journal (Push x)) (verdict_of_pushes (with_edit h (Push x)) xs) free in
    let left = not_refused h.limits h.journal (Push x) parts.0 in
    let cells = unrefused_push h.limits (list_of h.journal) x left.1 in
    pushes_accepted (with_edit h (Push x)) xs allowed (keeps_push h x keeps left.0 cells) parts.1
    (accepted_more greatest [] h.journal (Push x) accepted (verdict_by_greatest h (Push x) allowed keeps parts.0))
