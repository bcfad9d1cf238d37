-- A log that was read may be gone on with.
use Rattle.std.proofs.Common.{◌≡◌, ℕ, zero, suc, ◌≤◌, Some, None, List, [], ◌∷◌, ◌++◌, All, length, map, take, refl, sym, ap, subst, inl, inr, arith}
use Rattle.std.proofs.lemmas.List.Elements.{All-cons, All-head, All-nil, All-tail}
use Rattle.lv_edits.specs.declared.edit.Edit.{Edit}
use Rattle.lv_transcript.specs.declared.log_heading.LogHeading.{LogHeading}
use Rattle.lv_transcript.specs.Fronts.{AreTrueAfter, Entry, IsPush, IsWholeFront, edits_in}
use Rattle.lv_transcript.specs.Logs.{IsLogOfEdits, MayGoOn}

-- if none was there, a transcript is begun
pub no_log_goes_on : MayGoOn None
no_log_goes_on = record { all_true = tt; elements = omega arith }

-- edits, as entries
pub edits_of_edits : (edits : List Edit) → edits_in (map inl edits) ≡ edits
edits_of_edits [] = refl
edits_of_edits (e ∷ edits) = ap (λ (es : List Edit). e ∷ es) (edits_of_edits edits)

edits_true : (before : List Edit) (last : ℕ) (entries : List Entry) → AreTrueAfter before last entries → AreTrueAfter before 0 (map inl (edits_in entries))
edits_true before last [] holds = tt
edits_true before last (inl e ∷ entries) holds = (holds.0, holds.1, edits_true (before ++ e ∷ []) last entries holds.2)
edits_true before last (inr answer ∷ entries) holds = edits_true before answer.edit entries holds.2

-- the first of them are pushes, if the first entries are
record ArePushes (n : ℕ) (entries : List Entry) : Type 0 where
  all : All IsPush (take n entries)
  many : n ≤ length entries

edits_pushed : (n : ℕ) (entries : List Entry) → ArePushes n entries → ArePushes n (map inl (edits_in entries))
edits_pushed zero entries are = record { all = All-nil IsPush; many = omega arith }
edits_pushed (suc n) [] are = absurd (omega (arith, are.many))
edits_pushed (suc n) (inl e ∷ entries) are =
    let rest = edits_pushed n entries record { all = All-tail IsPush (inl e) (take n entries) are.all; many = omega (arith, are.many) } in
    record { all = All-cons IsPush (inl e) (take n (map inl (edits_in entries))) (All-head IsPush (inl e) (take n entries) are.all) rest.all; many = omega (arith, rest.many) }
edits_pushed (suc n) (inr answer ∷ entries) are = absurd (All-head IsPush (inr answer) (take n entries) are.all)

-- the edits of a log that was read may be gone on with
pub found_goes_on : (heading : LogHeading) (bytes : List ℕ) (entries : List Entry) (edits : List Edit) → IsWholeFront (Some heading) bytes entries → edits ≡ edits_in entries → IsLogOfEdits heading edits
found_goes_on heading bytes entries edits found same =
    let holds = found.front.all_true in
    let pushed = edits_pushed heading.elements entries record { all = holds.pushes; many = found.elements } in
    subst (IsLogOfEdits heading) (sym same) record {
      all_true = record { numbers = holds.numbers; all_true = edits_true [] 0 entries holds.all_true; pushes = pushed.all };
      elements = pushed.many;
    }
