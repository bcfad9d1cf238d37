-- What is stored by kind for a live vector is right after the vector's edits.
use Rattle.std.proofs.Common.{◌≡◌, ℕ, ℤ, pos, ◌+◌, ◌-◌, ◌≤◌, None, List, [], ◌∷◌, ◌++◌, length, map, take, sym, ap, ◌∙◌, subst, arith}
use Rattle.std.specs.List.{slice_index_or}
use Rattle.std.proofs.Math.Seq.{take-append_seam}
use Rattle.std.proofs.lemmas.List.{append-nil, append_assoc, length_push}
use Rattle.lv_geometry.specs.Cells.{capacity_of}
use Rattle.lv_geometry.proofs.Capacities.{capacity_of_most}
use Rattle.lv_edits.specs.declared.edit.Edit.{Edit}
use Rattle.lv_edits.specs.declared.edit.Edit.TheVariants.{Push, Write}
use Rattle.lv_edits.specs.Batches.{verdict_of_edits, with_edits, writes_at}
use Rattle.lv_edits.specs.History.{History, list_of, with_edit}
use Rattle.lv_edits.specs.Kept.{IsLegalInLimits}
use Rattle.lv_edits.specs.Pushes.{verdict_of_pushes, with_pushes}
use Rattle.lv_edits.specs.Verdict.{verdict_of}
use Rattle.lv_edits.proofs.HistoryLaws.{not_refused, unrefused_write}
use Rattle.lv_edits.proofs.PushLaws.{keeps_limits, made_by_pushes}
use Rattle.lv_live.proofs.WrittenLaws.{overwritten, writes_inside}
use Rattle.lv_tree.specs.Kinds.{AreKept, AreReady, HaveRoomFor, KeepsAlike, KindsState, LeavesAll}
use Rattle.lv_tree.specs.LastSum.{IsWriteOver}
use Rattle.lv_tree.proofs.KeptLaws.{AreReady-alike}
use Rattle.lv_standing.specs.Inner.{size_after}
use Rattle.lv_standing.proofs.RoomLaws.{size_by_edit}

-- a history before its last edit
abbrev pub before_last : History → History
before_last h = record h { journal = take (length h.journal - 1) h.journal }

-- a history with one more edit was that history before it
pub before_edit : (h new : History) (e : Edit) → new ≡ with_edit h e → before_last new ≡ h
before_edit h new e is =
    let es = h.journal in
    let shorter : length (es ++ e ∷ []) - 1 ≡ length es = omega (arith, length_push es e) in
    let same : take (length (es ++ e ∷ []) - 1) (es ++ e ∷ []) ≡ es = ap (λ k. take k (es ++ e ∷ [])) shorter ∙ take-append_seam es (e ∷ []) in
    ap before_last is ∙ ap (λ j. record h { journal = j }) same

-- after an accepted edit for which there is room all is ready, once it was reported to the kinds
pub ready_made : (old new seen : History) (e : Edit) (size : ℕ) (kinds mid left : KindsState) → IsLegalInLimits old → verdict_of old.limits old.journal e ≡ None → new ≡ with_edit old e → seen ≡ new
    → size ≡ size_after (length (list_of old.journal)) e → KeepsAlike kinds mid → HaveRoomFor mid size
    → ((table : List (List ℕ)) → AreKept table (before_last seen).journal mid → AreKept table ((before_last seen).journal ++ e ∷ []) left) → LeavesAll mid left
    → AreReady kinds.table old.journal kinds → AreReady kinds.table new.journal left
ready_made old new seen e size kinds mid left legal free made same long alike room told leaves ready =
    let is = sym (before_edit old seen e (same ∙ made)) in
    let kept = told kinds.table (subst (λ h. AreKept kinds.table h.journal mid) is (alike.kept kinds.table old.journal ready.kept)) in
    let after : size ≡ length (list_of new.journal) = long ∙ sym (ap (λ h. length (list_of h.journal)) made ∙ (size_by_edit old e legal free).0) in
    record {
      kept = subst (λ es. AreKept kinds.table es left) (ap (λ h. h.journal ++ e ∷ []) (sym is) ∙ sym (ap (λ h. h.journal) made)) kept;
      room = leaves.room _ (subst (HaveRoomFor mid) after room);
    }

-- if room may have been made and nothing else has changed, all is as ready as before
pub ready_alike : (old now : History) (kinds new : KindsState) → now ≡ old → AreReady kinds.table old.journal kinds → KeepsAlike kinds new → AreReady kinds.table now.journal new
ready_alike old now kinds new same was alike = subst (λ h. AreReady kinds.table h.journal new) (sym same) (AreReady-alike kinds.table old.journal kinds new was alike)

-- an accepted write replaces the element that its receipt returns
pub accepted_write_over : (h : History) (i : ℕ) (x before : ℤ) → IsLegalInLimits h → verdict_of h.limits h.journal (Write i x) ≡ None → before ≡ slice_index_or (list_of h.journal) i (pos 0) → IsWriteOver h i before
accepted_write_over h i x before legal free is = record {
  legal = legal.legal;
  inside = unrefused_write h.limits (list_of h.journal) i x (not_refused h.limits h.journal (Write i x) free).1;
  before_is = is;
}

-- after a write that was reported to the kinds, all is as ready as before it
pub ready_written : (old new : History) (i : ℕ) (x before : ℤ) (kinds left : KindsState) → IsLegalInLimits old → verdict_of old.limits old.journal (Write i x) ≡ None → new ≡ with_edit old (Write i x)
    → before ≡ slice_index_or (list_of old.journal) i (pos 0)
    → ((table : List (List ℕ)) (h : History) → IsWriteOver h i before → AreKept table h.journal kinds → AreKept table (with_edit h (Write i x)).journal left) → LeavesAll kinds left
    → AreReady kinds.table old.journal kinds → AreReady kinds.table new.journal left
ready_written old new i x before kinds left legal free journal is told leaves ready =
    let long : length (list_of old.journal) ≡ length (list_of new.journal) = sym (ap (λ h. length (list_of h.journal)) journal ∙ (size_by_edit old (Write i x) legal free).0) in
    record {
      kept = subst (λ h. AreKept kinds.table h.journal left) (sym journal) (told kinds.table old (accepted_write_over old i x before legal free is) ready.kept);
      room = leaves.room _ (subst (HaveRoomFor kinds) long ready.room);
    }

-- a vector may have so many elements
pub pushes_are_few : (h : History) (xs : List ℤ) → IsLegalInLimits h → verdict_of_pushes h xs ≡ None → length (list_of h.journal) + length xs ≤ 1048568
pushes_are_few h xs legal free =
    let made = made_by_pushes h xs (keeps_limits h legal) free in
    omega (arith, made.size, made.kept.size, ap (λ b. capacity_of b.buckets) made.limits, capacity_of_most h.limits.buckets legal.allowed.few_buckets)

-- after pushes for which there is room all is ready, once they were reported to the kinds
pub ready_pushed : (old new : History) (xs : List ℤ) (kinds mid left : KindsState) → IsLegalInLimits old → verdict_of_pushes old xs ≡ None → new ≡ with_pushes old xs
    → KeepsAlike kinds mid → HaveRoomFor mid (length (list_of old.journal) + length xs)
    → ((table : List (List ℕ)) (edits more : List Edit) → AreKept table edits mid → AreKept table (edits ++ more) left) → LeavesAll mid left
    → AreReady kinds.table old.journal kinds → AreReady kinds.table new.journal left
ready_pushed old new xs kinds mid left legal free journal alike room told leaves ready =
    let made = made_by_pushes old xs (keeps_limits old legal) free in
    let grown : old.journal ++ map Push xs ≡ new.journal = sym (ap (λ h. h.journal) journal ∙ made.journal) in
    let long : length (list_of old.journal) + length xs ≡ length (list_of new.journal) = omega (arith, ap (λ h. length (list_of h.journal)) journal, made.size) in
    record {
      kept = subst (λ es. AreKept kinds.table es left) grown (told kinds.table old.journal (map Push xs) (alike.kept kinds.table old.journal ready.kept));
      room = leaves.room _ (subst (HaveRoomFor mid) long room);
    }

-- a journal after edits has them at its end
pub journal-edits : (h : History) (es : List Edit) → (with_edits h es).journal ≡ h.journal ++ es
journal-edits h [] = sym (append-nil h.journal)
journal-edits h (e ∷ es) = journal-edits (with_edit h e) es ∙ append_assoc h.journal (e ∷ []) es

-- after writes all is ready, once they were reported to the kinds
pub ready_overwritten : (old new : History) (is : List ℕ) (xs : List ℤ) (kinds left : KindsState) → IsLegalInLimits old → length is ≡ length xs → verdict_of_edits old (writes_at is xs) ≡ None → new ≡ with_edits old (writes_at is xs)
    → ((table : List (List ℕ)) (edits more : List Edit) → AreKept table edits kinds → AreKept table (edits ++ more) left) → LeavesAll kinds left
    → AreReady kinds.table old.journal kinds → AreReady kinds.table new.journal left
ready_overwritten old new is xs kinds left legal paired free journal told leaves ready =
    let edits = writes_at is xs in
    let made = overwritten old is xs legal.legal (writes_inside old is xs legal.legal paired free) paired in
    let grown : old.journal ++ edits ≡ new.journal = sym (ap (λ h. h.journal) journal ∙ journal-edits old edits) in
    let long : length (list_of old.journal) ≡ length (list_of new.journal) = sym (ap (λ h. length (list_of h.journal)) journal ∙ made.size) in
    record {
      kept = subst (λ es. AreKept kinds.table es left) grown (told kinds.table old.journal edits ready.kept);
      room = leaves.room _ (subst (HaveRoomFor kinds) long ready.room);
    }
