-- What the results of a desk's calls say of its hub, given the results of its vector.
use Rattle.std.proofs.Common.{◌≡◌, ◌⊎◌, ℕ, ◌≤◌, Option, Some, None, Result, Ok, Err, IfOk, IfErr, IfSome, option_map, List, [], ◌∷◌, ◌++◌, All, length, map, refl, sym, ap, subst, ◌∙◌, inl, inr, arith}
use Rattle.std.specs.Prelude.{if◌then◌else◌, nat_lt}
use Rattle.std.specs.List.{slice_range}
use Rattle.std.proofs.lemmas.Bool.{le-ltb, cond-false}
use Rattle.std.proofs.lemmas.Option.{none-some}
use mathlib.Core.List.{IsPrefix}
use Rattle.lv_geometry.specs.Bounds.{Bounds}
use Rattle.lv_geometry.specs.Elements.{IsElement}
use Rattle.lv_geometry.specs.declared.refusals.Refusal.{Refusal}
use Rattle.lv_geometry.specs.declared.refusals.Refusal.TheVariants.{BadRange, NoMemory, OutOfRange, Stranger}
use Rattle.lv_bodies.specs.Plain.{plain_value}
use Rattle.lv_bodies.specs.declared.kinds.Kind.{Kind}
use Rattle.lv_edits.specs.declared.edit.Edit.{Edit}
use Rattle.lv_edits.specs.declared.receipt.Receipt.{Receipt}
use Rattle.lv_edits.specs.declared.receipt.Receipt.TheVariants.{Pushed, Popped, Written, Reserved, Swapped, Truncated}
use Rattle.lv_edits.specs.History.{History, list_of}
use Rattle.lv_edits.specs.Ranges.{range_refusal}
use Rattle.lv_edits.specs.Verdict.{Accepts, Answers, IsRefusal, Refuses, verdict_of}
use Rattle.lv_lines.specs.Texts.{numbered}
use Rattle.lv_reduce.specs.Answer.{IsScanRefusal}
use Rattle.lv_reduce.specs.Stretch.{IsStretch, StretchState}
use Rattle.lv_reduce.proofs.PieceLaws.{slice_range-whole}
use Rattle.lv_standing.specs.Queries.{IsValue}
use Rattle.lv_standing.specs.declared.notes.Answered.{Answered}
use Rattle.lv_hub.specs.declared.log_entry.LogEntry.{LogEntry}
use Rattle.lv_hub.specs.declared.tap.Came.{Came}
use Rattle.lv_hub.specs.Logging.{CameSince, entry_of}
use Rattle.lv_hub.specs.Renewing.{IsOfOneVector, StandsFor, receipt_with, renewed_after}
use Rattle.lv_hub.specs.Told.{history_of, receipt_at, valued_at}
use Rattle.lv_hub.specs.Work.{makes_work}
use Rattle.lv_history.proofs.PrefixLaws.{prefix_whole}
use Rattle.lv_hub.proofs.RenewalLaws.{EditStands, HasEditsLeft, stands_alone, verdict_stands}

-- ---- edits

-- a greater capacity in a receipt makes no other work
pub same_work : (least : ℕ) (receipt : Receipt) → makes_work (Ok (receipt_with least receipt)) ≡ makes_work (Ok receipt)
same_work least (Pushed edit index) = refl
same_work least (Popped edit value) = refl
same_work least (Written edit before) = refl
same_work least (Reserved edit capacity) = refl
same_work least (Swapped edit first second) = refl
same_work least (Truncated edit dropped) = refl

-- an update that the vector accepts is accepted in the hub, with the hub's number
pub accepts_told : (limits : Bounds) (renewed capacity : ℕ) (edits more : List Edit) (e : Edit) (receipt told : Receipt) (new : History) → EditStands limits renewed capacity edits e receipt new → more ≡ edits ++ e ∷ [] → told ≡ receipt_with capacity receipt
    → Accepts (history_of limits edits) e (numbered (length more) told) (history_of limits more)
accepts_told limits renewed capacity edits more e receipt told new made is tells = record {
  verdict = made.verdict;
  receipt_is = ap (λ n. numbered n told) (ap length is) ∙ ap (numbered (length (edits ++ e ∷ []))) tells ∙ made.receipt_is;
  journal = ap (history_of limits) is;
}

pub number_told : (limits : Bounds) (renewed capacity : ℕ) (edits more : List Edit) (e : Edit) (receipt told : Receipt) (new : History) → EditStands limits renewed capacity edits e receipt new → more ≡ edits ++ e ∷ [] → told ≡ receipt_with capacity receipt
    → IsOfOneVector limits → told ≡ numbered (length more) told
number_told limits renewed capacity edits more e receipt told new made is tells one =
    tells ∙ made.number one ∙ sym (ap (λ n. numbered n told) (ap length is) ∙ ap (numbered (length (edits ++ e ∷ []))) tells)

-- an update that the vector refuses is refused in the hub
pub refuses_told : (most : ℕ) (limits : Bounds) (renewed capacity : ℕ) (edits : List Edit) (old : History) (e : Edit) (refusal : Refusal) → most ≤ 16777215 → StandsFor limits renewed capacity edits old → HasEditsLeft most limits edits old → IsRefusal (verdict_of old.limits old.journal e) refusal
    → IsRefusal (verdict_of limits edits e) refusal
refuses_told most limits renewed capacity edits old e refusal few stands left verdict =
    subst (λ v. IsRefusal v refusal) (verdict_stands most limits renewed capacity edits old e few stands left) verdict

pub refused_answer : (limits : Bounds) (edits after : List Edit) (e : Edit) (refusal : Refusal) (result : Result Receipt Refusal) → IsRefusal (verdict_of limits edits e) refusal → result ≡ Err refusal → after ≡ edits → Answers (history_of limits edits) e (receipt_at (length after) result) (history_of limits after)
refused_answer limits edits after e refusal result verdict is same =
    let refused : Refuses (history_of limits edits) e refusal (history_of limits after) = record { verdict = verdict; same = ap (history_of limits) same } in
    rw is refused

-- ---- values

-- two lists of updates with the same elements refuse the same ranges
pub range_alike : (es fs : List Edit) (lo hi : ℕ) → list_of es ≡ list_of fs → range_refusal es lo hi ≡ range_refusal fs lo hi
range_alike es fs lo hi same = ap (λ xs. if nat_lt hi lo then Some BadRange else (if nat_lt (length xs) hi then Some (OutOfRange (length xs)) else None)) same

-- they have the same values
value_alike : (es fs : List Edit) (kind : Kind) (lo hi : ℕ) (answered : Answered) → list_of es ≡ list_of fs → IsValue es kind lo hi answered → IsValue fs kind lo hi (valued_at (length fs) answered)
value_alike es fs kind lo hi answered same is = record {
  granted = sym (range_alike es fs lo hi same) ∙ is.granted;
  edit = refl;
  value = is.value ∙ ap (λ xs. plain_value kind (slice_range xs lo hi)) same;
}

pub values_alike : (es fs : List Edit) (kind : Kind) (lo hi : ℕ) (result : Result Answered Refusal) → list_of es ≡ list_of fs → IfOk result (λ answered. IsValue es kind lo hi answered) → IfOk result (λ answered. IsValue fs kind lo hi (valued_at (length fs) answered))
values_alike es fs kind lo hi (Ok answered) same is = value_alike es fs kind lo hi answered same is
values_alike es fs kind lo hi (Err refusal) same is = tt

pub refused_values_alike : (es fs : List Edit) (lo hi : ℕ) (result : Result Answered Refusal) → list_of es ≡ list_of fs → IfErr result (λ refusal. range_refusal es lo hi ≡ Some refusal) → IfErr result (λ refusal. range_refusal fs lo hi ≡ Some refusal)
refused_values_alike es fs lo hi (Ok answered) same is = tt
refused_values_alike es fs lo hi (Err refusal) same is = sym (range_alike es fs lo hi same) ∙ is

-- the number of a value is the hub's if its vector has as many updates
pub value_number : (es fs : List Edit) (kind : Kind) (lo hi : ℕ) (result : Result Answered Refusal) → length es ≡ length fs → IfOk result (λ answered. IsValue es kind lo hi answered) → IfOk result (λ answered. answered.edit ≡ length fs)
value_number es fs kind lo hi (Ok answered) same is = is.edit ∙ same
value_number es fs kind lo hi (Err refusal) same is = tt

-- the vector of a hub that is never made anew has as many updates
pub as_many_edits : (limits : Bounds) (renewed capacity : ℕ) (edits : List Edit) (h : History) → StandsFor limits renewed capacity edits h → IsOfOneVector limits → length h.journal ≡ length edits
as_many_edits limits renewed capacity edits h stands one = ap (λ h. length h.journal) (stands_alone limits renewed capacity edits h stands one)

-- ---- what came for a log

-- what was handed over came since that number of the vector's updates
pub came_after : (from : Option ℕ) (renewed given : ℕ) (result : Option Came) (journal edits : List Edit) (entries : List LogEntry) → result ≡ option_map (λ from. record { from = from; renewed = renewed; given = given }) from → journal ≡ renewed_after renewed edits
    → IfSome from (λ from. CameSince journal from (map entry_of entries)) → IfSome result (λ came. CameSince (renewed_after came.renewed edits) came.from (map entry_of entries))
came_after None renewed given result journal edits entries is journal_is came =
    subst (λ (o : Option Came). IfSome o (λ came. CameSince (renewed_after came.renewed edits) came.from (map entry_of entries))) (sym is) tt
came_after (Some from) renewed given result journal edits entries is journal_is came =
    subst (λ (o : Option Came). IfSome o (λ came. CameSince (renewed_after came.renewed edits) came.from (map entry_of entries))) (sym is)
    (subst (λ (es : List Edit). CameSince es from (map entry_of entries)) journal_is came)

pub renewed_before : (from : Option ℕ) (renewed given : ℕ) (result : Option Came) (edits : List Edit) → result ≡ option_map (λ from. record { from = from; renewed = renewed; given = given }) from → renewed ≤ length edits → IfSome result (λ came. came.renewed ≤ length edits)
renewed_before None renewed given result edits is some = subst (λ (o : Option Came). IfSome o (λ came. came.renewed ≤ length edits)) (sym is) tt
renewed_before (Some from) renewed given result edits is some = subst (λ (o : Option Came). IfSome o (λ came. came.renewed ≤ length edits)) (sym is) some

-- ---- elements that were copied

-- nothing refuses the range of all elements
all_granted : (es : List Edit) (n : ℕ) → n ≡ length (list_of es) → range_refusal es 0 n ≡ None
all_granted es n all = cond-false _ _ _ (le-ltb n 0 (omega arith)) ∙ cond-false _ _ _ (le-ltb (length (list_of es)) n (omega (arith, all)))

-- the copy of all elements has the elements of the hub
pub copied_all : {B : Type 0} (es fs : List Edit) (n : ℕ) (result : Result (StretchState B) Refusal) → n ≡ length (list_of es) → list_of es ≡ list_of fs → IfOk result (λ stretch. IsStretch es 0 n stretch) → IfOk result (λ copied. copied.elements ≡ list_of fs)
copied_all es fs n (Ok stretch) all same is = is.elements ∙ ap (slice_range (list_of es) 0) all ∙ slice_range-whole (list_of es) ∙ same
copied_all es fs n (Err refusal) all same is = tt

pub copied_few : {B : Type 0} (fs : List Edit) (result : Result (StretchState B) Refusal) → length (list_of fs) ≤ 1048568 → IfOk result (λ copied. copied.elements ≡ list_of fs) → IfOk result (λ copied. length copied.elements ≤ 1048568)
copied_few fs (Ok stretch) few is = omega (arith, ap length is, few)
copied_few fs (Err refusal) few is = tt

pub copied_elements : {B : Type 0} (fs : List Edit) (result : Result (StretchState B) Refusal) → All IsElement (list_of fs) → IfOk result (λ copied. copied.elements ≡ list_of fs) → IfOk result (λ copied. All IsElement copied.elements)
copied_elements fs (Ok stretch) all is = subst (All IsElement) (sym is) all
copied_elements fs (Err refusal) all is = tt

no_memory : (known : Option Refusal) (refusal : Refusal) → known ≡ None → IsRefusal known refusal → refusal ≡ NoMemory
no_memory known refusal none (inl is) = absurd (none-some refusal (sym none ∙ is))
no_memory known refusal none (inr is) = is.1

pub copy_refused : {B : Type 0} (es : List Edit) (n : ℕ) (result : Result (StretchState B) Refusal) → n ≡ length (list_of es) → IfErr result (λ refusal. IsScanRefusal es 0 n refusal) → IfErr result (λ refusal. (refusal ≡ Stranger) ⊎ (refusal ≡ NoMemory))
copy_refused es n (Ok stretch) all is = tt
copy_refused es n (Err refusal) all is = inr (no_memory (range_refusal es 0 n) refusal (all_granted es n all) is)

-- a prefix of a list that is as long as the list is the list
pub same_as_all : (seen edits : List Edit) (n m : ℕ) → IsPrefix seen edits → n ≡ length seen → m ≡ length edits → n ≡ m → seen ≡ edits
same_as_all seen edits n m begins one other same = prefix_whole seen edits begins (omega (arith, one, other, same))
