-- What a vector for C keeps by kind, while its live vector is edited and asked.
use Rattle.std.proofs.Common.{◌≡◌, ℕ, List, sym, ap, ◌∙◌, subst}
use Rattle.lv_geometry.specs.Bounds.{Bounds}
use Rattle.lv_bodies.specs.Automata.{table_of}
use Rattle.lv_bodies.specs.Six.{SixSummary}
use Rattle.lv_bodies.specs.declared.sixes.SixByTable.{SixByTable}
use Rattle.lv_live.specs.State.{LiveState}
use Rattle.lv_edits.specs.declared.edit.Edit.{Edit}
use Rattle.lv_tree.specs.Kinds.{AreKept, AreReady, KindsState, LeavesOrFollows}
use Rattle.lv_tree.proofs.KeptLaws.{AreKept-by, AreReady-followed}
use Rattle.livevec_c.specs.KindVectors.{IsKindVector}

-- what is ready for a vector is ready for one with the same body and history
pub ready_of_same : (old new : LiveState SixByTable SixSummary) (kinds : KindsState) → new.body ≡ old.body → new.history ≡ old.history → AreReady (table_of old.body.automaton) old.history.journal kinds → AreReady (table_of new.body.automaton) new.history.journal kinds
ready_of_same old new kinds body history kept =
    subst (λ b. AreReady (table_of b.automaton) new.history.journal kinds) (sym body) (subst (λ h. AreReady (table_of old.body.automaton) h.journal kinds) (sym history) kept)

-- a vector stays what it is if the live one keeps its body and its history
pub still_kind_vector : (limits : Bounds) (old new : LiveState SixByTable SixSummary) (kinds : KindsState) → new.body ≡ old.body → new.history ≡ old.history → IsKindVector limits old kinds → IsKindVector limits new kinds
still_kind_vector limits old new kinds body history is = record {
  limits_are = is.limits_are ∙ ap (λ h. h.limits) (sym history);
  kept = ready_of_same old new kinds body history is.kept;
}

-- and it is one after edits that what is kept has taken note of
pub edited_kind_vector : (limits : Bounds) (old new : LiveState SixByTable SixSummary) (kinds left : KindsState) → new.body ≡ old.body → new.history.limits ≡ old.history.limits → IsKindVector limits old kinds
    → AreReady kinds.table new.history.journal left → IsKindVector limits new left
edited_kind_vector limits old new kinds left body same is ready = record {
  limits_are = is.limits_are ∙ sym same;
  kept = subst (λ t. AreReady t new.history.journal left) (is.kept.kept.table_is ∙ ap (λ b. table_of b.automaton) (sym body)) ready;
}

-- what is ready by a table is kept by the one that is there
pub kept_by_now : (table : List (List ℕ)) (seen es : List Edit) (mid : KindsState) → seen ≡ es → AreReady table es mid → AreKept mid.table seen mid
kept_by_now table seen es mid same ready = subst (λ l. AreKept mid.table l mid) (sym same) (AreKept-by table es mid ready.kept)

-- and it is ready once kinds have followed what waited
pub ready_followed : (table : List (List ℕ)) (seen es : List Edit) (mid left : KindsState) → seen ≡ es → AreReady table es mid → AreKept mid.table seen left → LeavesOrFollows seen mid left → AreReady table es left
ready_followed table seen es mid left same ready kept leaves =
    subst (λ l. AreReady table l left) same (AreReady-followed table seen mid left (subst (λ l. AreReady table l mid) (sym same) ready) kept leaves)
