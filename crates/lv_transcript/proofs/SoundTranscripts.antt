-- Edits that are accepted and answers that are true: their lines, and their order.
use Rattle.std.proofs.Common.{◌≡◌, ℕ, zero, suc, ◌-◌, ◌^◌, ◌<◌, ◌≤◌, Bool, true, List, [], ◌∷◌, ◌++◌, length, get_or, take, drop, slice_range, codes, nat_le, All, None, lit≤, refl, sym, subst, arith, append_assoc, append-nil, length-append}
use Rattle.std.specs.Prelude.{decimal}
use Rattle.std.specs.List.{list_all}
use Rattle.std.proofs.lemmas.Bool.{and_parts, leb-true}
use Rattle.std.proofs.lemmas.Fmt.{length-decimal-le}
use Rattle.std.proofs.lemmas.List.{length-take, length-drop, take_all}
use Rattle.std.proofs.lemmas.List.Elements.{All-nil, All-cons, All-head, All-tail, All-take, All-drop, All-append}
use Rattle.lv_geometry.specs.Elements.{IsElement}
use Rattle.lv_bodies.specs.declared.kinds.Kind.{Kind}
use Rattle.lv_bodies.specs.Body.{CanFold}
use Rattle.lv_edits.specs.declared.edit.Edit.{Edit}
use Rattle.lv_edits.specs.declared.edit.Edit.TheVariants.{Push, Pop, Write, Reserve, Swap, Truncate}
use Rattle.lv_edits.specs.History.{list_of}
use Rattle.lv_edits.specs.Kept.{CarriesElement, IsLegalInLimits}
use Rattle.lv_edits.specs.Verdict.{verdict_of}
use Rattle.lv_edits.proofs.HistoryLaws.{IsLegalInLimits-empty, IsLegalInLimits-snoc, not_refused, unrefused_reserve, unrefused_swap, unrefused_truncate, unrefused_write}
use Rattle.lv_lines.specs.declared.command.Command.TheVariants as commands
use Rattle.lv_lines.specs.Printed.{printed}
use Rattle.lv_lines.specs.Grammar.{kind_name}
use Rattle.lv_lines.specs.Texts.{shown_text}
use Rattle.lv_lines.proofs.PrintedWords.{IsPrintable, no_control, plain_number}
use Rattle.lv_lines.proofs.ReadAgain.{length-printed, plain_kind, printed_printable}
use Rattle.lv_transcript.specs.declared.claimed.Claimed.{Claimed}
use Rattle.lv_transcript.specs.Transcript.{answer_line, edit_line, greatest, question_text, AreAcceptedAfter, AreInOrder, IsEdit, IsTrueAnswer}
use Rattle.lv_transcript.specs.Auditing.{IsQuestion, question_of}
use Rattle.lv_transcript.proofs.ShownTexts.{IsShownText, shown_plain}

-- ---- edits that are accepted

-- a journal within the greatest limits
abbrev pub IsWithin : List Edit → Type 0
IsWithin journal = IsLegalInLimits record { limits = greatest; journal = journal }

-- no edits are
pub within_none : IsWithin []
within_none = IsLegalInLimits-empty greatest record { some_buckets = lit≤ tt; few_buckets = lit≤ tt; some_edits = lit≤ tt; few_edits = lit≤ tt }

-- one more edit that is accepted
within_more : (journal : List Edit) (e : Edit) → IsWithin journal → verdict_of greatest journal e ≡ None → CarriesElement e → IsWithin (journal ++ e ∷ [])
within_more journal e within free carried = IsLegalInLimits-snoc record { limits = greatest; journal = journal } e within free carried

-- the numbers of an accepted edit have their bits
pub accepted_fits : (journal : List Edit) (e : Edit) → IsWithin journal → verdict_of greatest journal e ≡ None → CarriesElement e → IsEdit e
accepted_fits journal (Push x) within free carried = carried
accepted_fits journal Pop within free carried = tt
accepted_fits journal (Write i x) within free carried =
    (omega (arith, within.few, unrefused_write greatest (list_of journal) i x (not_refused greatest journal (Write i x) free).1), carried)
accepted_fits journal (Reserve n) within free carried =
    omega (arith, unrefused_reserve greatest (list_of journal) n (not_refused greatest journal (Reserve n) free).1)
accepted_fits journal (Swap i j) within free carried =
    let below = unrefused_swap greatest (list_of journal) i j (not_refused greatest journal (Swap i j) free).1 in
    (omega (arith, within.few, below.0), omega (arith, within.few, below.1))
accepted_fits journal (Truncate n) within free carried =
    omega (arith, within.few, unrefused_truncate greatest (list_of journal) n (not_refused greatest journal (Truncate n) free).1)

-- an edit whose numbers have their bits carries an element
pub carries_of_fits : (e : Edit) → IsEdit e → CarriesElement e
carries_of_fits (Push x) fits = fits
carries_of_fits Pop fits = tt
carries_of_fits (Write i x) fits = fits.1
carries_of_fits (Reserve n) fits = tt
carries_of_fits (Swap i j) fits = tt
carries_of_fits (Truncate n) fits = tt

-- one edit more is accepted after those that are
pub accepted_more : (before edits : List Edit) (e : Edit) → AreAcceptedAfter greatest before edits → verdict_of greatest (before ++ edits) e ≡ None → AreAcceptedAfter greatest before (edits ++ e ∷ [])
accepted_more before [] e accepted free = (subst (λ (js : List Edit). verdict_of greatest js e ≡ None) (append-nil before) free, tt)
accepted_more before (first ∷ edits) e accepted free =
    (accepted.0, accepted_more (before ++ first ∷ []) edits e accepted.1 (subst (λ (js : List Edit). verdict_of greatest js e ≡ None) (sym (append_assoc before (first ∷ []) edits)) free))

-- each beginning of accepted edits is within the limits
pub beginnings_within : (before edits : List Edit) (k : ℕ) → IsWithin before → AreAcceptedAfter greatest before edits → All CarriesElement edits → IsWithin (before ++ take k edits)
beginnings_within before edits zero within accepted carry = rw (append-nil before) within
beginnings_within before [] (suc k) within accepted carry = rw (append-nil before) within
beginnings_within before (e ∷ edits) (suc k) within accepted carry =
    let next = within_more before e within accepted.0 (All-head CarriesElement e edits carry) in
    subst (λ (js : List Edit). IsWithin js) (append_assoc before (e ∷ []) (take k edits))
    (beginnings_within (before ++ e ∷ []) edits k next accepted.1 (All-tail CarriesElement e edits carry))

-- ---- lines

-- whether no byte is below the space
abbrev is_printable : List ℕ → Bool
is_printable bytes = list_all (λ b. nat_le 32 b) bytes

-- bytes that pass
printable_bytes : (bytes : List ℕ) → is_printable bytes ≡ true → All IsPrintable bytes
printable_bytes [] h = All-nil IsPrintable
printable_bytes (b ∷ bytes) h =
    let parts = and_parts (nat_le 32 b) _ h in
    All-cons IsPrintable b bytes (leb-true 32 b parts.0) (printable_bytes bytes parts.1)

-- a line of a transcript: at most 120 bytes, none below the space
pub record IsLine (line : List ℕ) : Type 0 where
  pub short : length line ≤ 120
  pub printable : All IsPrintable line

-- the line of an edit
pub line_of_edit : (e : Edit) → IsEdit e → IsLine (edit_line e)
line_of_edit e fits =
    let command = commands.Edit e in
    record {
      short = omega (arith, length-printed command fits);
      printable = All-append IsPrintable (codes "j ") (printed command) (printable_bytes (codes "j ") refl) (printed_printable command fits);
    }

-- the beginning of an answer's line has at most 56 bytes
record IsBeginning (text : List ℕ) : Type 0 where
  short : length text ≤ 56
  printable : All IsPrintable text

-- two texts that are printable are so together
both : (xs ys : List ℕ) → All IsPrintable xs → All IsPrintable ys → All IsPrintable (xs ++ ys)
both xs ys p q = All-append IsPrintable xs ys p q

-- a question's text is such
beginning_of_answer : (edit : ℕ) (kind : Kind) (lo hi : ℕ) → edit < 2 ^ 32 → lo < 2 ^ 32 → hi < 2 ^ 32 → IsBeginning (question_text edit kind lo hi)
beginning_of_answer edit kind lo hi p q r =
    let e = decimal edit in
    let k = kind_name kind in
    let l = decimal lo in
    let h = decimal hi in
    let s = codes " " in
    let few_e : length e ≤ 10 = length-decimal-le 10 edit (omega arith) (omega arith) (omega arith) in
    let few_l : length l ≤ 10 = length-decimal-le 10 lo (omega arith) (omega arith) (omega arith) in
    let few_h : length h ≤ 10 = length-decimal-le 10 hi (omega arith) (omega arith) (omega arith) in
    let space : All IsPrintable s = printable_bytes s refl in
    let t1 = codes "a " ++ e in
    let t2 = t1 ++ s in
    let t3 = t2 ++ k in
    let t4 = t3 ++ s in
    let t5 = t4 ++ l in
    let t6 = t5 ++ s in
    let t7 = t6 ++ h in
    let a1 : All IsPrintable t1 = both (codes "a ") e (printable_bytes (codes "a ") refl) (no_control e (plain_number edit p)) in
    let a3 : All IsPrintable t3 = both t2 k (both t1 s a1 space) (no_control k (plain_kind kind)) in
    let a5 : All IsPrintable t5 = both t4 l (both t3 s a3 space) (no_control l (plain_number lo q)) in
    let a7 : All IsPrintable t7 = both t6 h (both t5 s a5 space) (no_control h (plain_number hi r)) in
    record {
      short = omega (arith, few_e, few_l, few_h, (plain_kind kind).short, length-append t7 s, length-append t6 h, length-append t5 s, length-append t4 l, length-append t3 s, length-append t2 k, length-append t1 s, length-append (codes "a ") e);
      printable = both t7 s a7 space;
    }

-- a slice of a list within the limits may be folded
slice_folds : (journal : List Edit) (lo hi : ℕ) → IsWithin journal → CanFold (slice_range (list_of journal) lo hi)
slice_folds journal lo hi within =
    let xs = list_of journal in
    record {
      few = omega (arith, within.few, length-take (hi - lo) (drop lo xs), length-drop lo xs);
      elements = All-take IsElement (hi - lo) (drop lo xs) (All-drop IsElement lo xs within.elements);
    }

-- a true answer, as a line
pub record IsPlainAnswer (answer : Claimed) : Type 0 where
  pub fits : IsQuestion (question_of answer)
  pub line : IsLine (answer_line answer)

-- each true answer is one, if each beginning of the journal is within the limits
pub plain_answer : (edits : List Edit) → ((k : ℕ) → IsWithin (take k edits)) → (answer : Claimed) → IsTrueAnswer edits answer → IsPlainAnswer answer
plain_answer edits beginnings answer holds =
    let all : IsWithin edits = subst (λ (js : List Edit). IsWithin js) (take_all (length edits) edits (omega arith)) (beginnings (length edits)) in
    let then = beginnings answer.edit in
    let few : answer.edit < 2 ^ 32 = omega (arith, all.edits, holds.edit) in
    let near : answer.hi < 2 ^ 32 = omega (arith, then.few, holds.end) in
    let first : answer.lo < 2 ^ 32 = omega (arith, holds.range) in
    let begins = beginning_of_answer answer.edit answer.kind answer.lo answer.hi few first near in
    let shown : IsShownText (shown_text answer.value) =
    rw holds.value (shown_plain answer.kind _ (slice_folds (take answer.edit edits) answer.lo answer.hi then)) in
    let question = question_text answer.edit answer.kind answer.lo answer.hi in
    record {
      fits = record { edit = few; lo = first; hi = near };
      line = record {
        short = omega (arith, begins.short, shown.short, length-append question (shown_text answer.value));
        printable = both question (shown_text answer.value) begins.printable shown.printable;
      };
    }

-- ---- answers in order

-- answers that rise from an edit on
abbrev pub RiseFrom : ℕ → List Claimed → Type 0
RiseFrom last [] = Unit {0}
RiseFrom last (answer ∷ answers) = (last ≤ answer.edit) × RiseFrom answer.edit answers

-- answers in order rise from any edit that is not after the first
pub rise_in_order : (last : ℕ) (answers : List Claimed) → ((d : Claimed) → 0 < length answers → last ≤ (get_or answers 0 d).edit) → AreInOrder answers → RiseFrom last answers
rise_in_order last [] first order = tt
rise_in_order last (answer ∷ answers) first order =
    (first answer (omega arith), rise_in_order answer.edit answers (λ d some. order 0 1 d (omega arith) (omega arith)) (λ i j d le lt. order (suc i) (suc j) d (omega arith) (omega arith)))

-- the first of answers that rise is not before that edit, and no later one is
rise_above : (last : ℕ) (answers : List Claimed) → RiseFrom last answers → (j : ℕ) (d : Claimed) → j < length answers → last ≤ (get_or answers j d).edit
rise_above last [] rise j d lt = absurd (omega arith)
rise_above last (answer ∷ answers) rise zero d lt = rise.0
rise_above last (answer ∷ answers) rise (suc j) d lt = omega (arith, rise.0, rise_above answer.edit answers rise.1 j d (omega arith))

-- answers that rise are in order
pub in_order_of_rise : (last : ℕ) (answers : List Claimed) → RiseFrom last answers → AreInOrder answers
in_order_of_rise last [] rise i j d le lt = absurd (omega arith)
in_order_of_rise last (answer ∷ answers) rise zero zero d le lt = omega arith
in_order_of_rise last (answer ∷ answers) rise zero (suc j) d le lt = rise_above answer.edit answers rise.1 j d (omega arith)
in_order_of_rise last (answer ∷ answers) rise (suc i) zero d le lt = absurd (omega arith)
in_order_of_rise last (answer ∷ answers) rise (suc i) (suc j) d le lt = in_order_of_rise answer.edit answers rise.1 i j d (omega arith) (omega arith)
