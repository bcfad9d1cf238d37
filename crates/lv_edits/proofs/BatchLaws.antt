-- Many edits, one after another: the edits behind the first ones, and which of some writes is rejected first.
use Rattle.std.proofs.Common.{◌≡◌, ◌≢◌, ℕ, ℤ, zero, suc, ◌+◌, ◌-◌, ◌<◌, ◌≤◌, Some, None, Option, List, [], ◌∷◌, ◌++◌, length, length-drop, drop, get_or, nat_lt, if◌then◌else◌, refl, sym, ap, ◌∙◌, inl, inr, arith}
use Rattle.std.proofs.lemmas.Bool.{cases_lt, cond-false, cond-true, eq-eqb, le-ltb, lt-ltb, ne_eqb}
use Rattle.std.proofs.lemmas.List.{drop_all, drop_more, length_push, length-set}
use Rattle.lv_geometry.specs.declared.refusals.Refusal.{Refusal}
use Rattle.lv_geometry.specs.declared.refusals.Refusal.TheVariants.{OutOfRange, Worn}
use Rattle.lv_edits.specs.declared.edit.Edit.{Edit}
use Rattle.lv_edits.specs.declared.edit.Edit.TheVariants.{Write}
use Rattle.lv_edits.specs.Batches.{verdict_of_edits, with_edits, writes_at}
use Rattle.lv_edits.specs.History.{History, list_of, replayed, with_edit}
use Rattle.lv_edits.specs.Pushes.{first_refusal}
use Rattle.lv_edits.specs.Verdict.{verdict_of}
use Rattle.lv_edits.proofs.HistoryLaws.{applied_write, legal-snoc, list_of-snoc}
use Rattle.lv_edits.proofs.PushLaws.{neither}

-- writes from a place on are the one there, and those from the next place on
pub writes_more : (is : List ℕ) (xs : List ℤ) (k i : ℕ) (x : ℤ) → k < length is → k < length xs → writes_at (drop k is) (drop k xs) ≡ Write (get_or is k i) (get_or xs k x) ∷ writes_at (drop (k + 1) is) (drop (k + 1) xs)
writes_more is xs k i x within beside =
    ap (λ js. writes_at js (drop k xs)) (drop_more is k i within) ∙ ap (writes_at (get_or is k i ∷ drop (k + 1) is)) (drop_more xs k x beside)

-- there are as many as indices
pub length-writes : (is : List ℕ) (xs : List ℤ) → length is ≡ length xs → length (writes_at is xs) ≡ length is
length-writes [] xs paired = refl
length-writes (i ∷ is) [] paired = absurd (omega (arith, paired))
length-writes (i ∷ is) (x ∷ xs) paired = ap suc (length-writes is xs (omega (arith, paired)))

-- edits add as many to the journal, and leave the limits
pub length-edits : (h : History) (es : List Edit) → length (with_edits h es).journal ≡ length h.journal + length es
length-edits h [] = omega arith
length-edits h (e ∷ es) = omega (arith, length-edits (with_edit h e) es, length_push h.journal e)

pub limits-edits : (h : History) (es : List Edit) → (with_edits h es).limits ≡ h.limits
limits-edits h [] = refl
limits-edits h (e ∷ es) = limits-edits (with_edit h e) es

-- if no error applies to a list of edits, none applies to the first of them, and none to the others after it
pub free_parts : (h : History) (e : Edit) (es : List Edit) → verdict_of_edits h (e ∷ es) ≡ None → (verdict_of h.limits h.journal e ≡ None) × (verdict_of_edits (with_edit h e) es ≡ None)
free_parts h e es free = neither (verdict_of h.limits h.journal e) (verdict_of_edits (with_edit h e) es) free

-- the error of the first write that is rejected, given how many edits are left and how many elements there are
abbrev pub verdict_by : ℕ → ℕ → List ℕ → Option Refusal
verdict_by left size [] = None
verdict_by zero size (i ∷ is) = Some Worn
verdict_by (suc left) size (i ∷ is) = if nat_lt i size then verdict_by left size is else Some (OutOfRange size)

-- if no edit is left, the first write is rejected with `Worn`
pub verdict_by-worn : (size : ℕ) (is : List ℕ) → 0 < length is → verdict_by 0 size is ≡ Some Worn
verdict_by-worn size [] some = absurd (omega (arith, some))
verdict_by-worn size (i ∷ is) some = refl

-- if an edit is left, the first write is rejected for its index, or the writes behind it are judged
pub verdict_by-out : (left size i : ℕ) (is : List ℕ) → 0 < left → size ≤ i → verdict_by left size (i ∷ is) ≡ Some (OutOfRange size)
verdict_by-out zero size i is some out = absurd (omega (arith, some))
verdict_by-out (suc left) size i is some out = cond-false _ _ _ (le-ltb i size out)

pub verdict_by-in : (left rest size i : ℕ) (is : List ℕ) → left ≡ rest + 1 → i < size → verdict_by left size (i ∷ is) ≡ verdict_by rest size is
verdict_by-in zero rest size i is more inside = absurd (omega (arith, more))
verdict_by-in (suc left) rest size i is more inside =
    let same : left ≡ rest = omega (arith, more) in
    cond-true _ _ _ (lt-ltb i size inside) ∙ ap (λ n. verdict_by n size is) same

-- the list after one more write is as long
size_written : (h : History) (i : ℕ) (x : ℤ) → replayed h.journal ≡ Some (list_of h.journal) → i < length (list_of h.journal) → length (list_of (h.journal ++ Write i x ∷ [])) ≡ length (list_of h.journal)
size_written h i x legal inside =
    ap length (list_of-snoc h.journal (Write i x) _ legal (applied_write (list_of h.journal) i x inside)).1 ∙ length-set (list_of h.journal) i x

-- so it is of writes of any values
pub verdict_is : (left : ℕ) (h : History) (is : List ℕ) (xs : List ℤ) → replayed h.journal ≡ Some (list_of h.journal) → length h.journal + left ≡ h.limits.edits → length is ≡ length xs → verdict_by left (length (list_of h.journal)) is ≡ verdict_of_edits h (writes_at is xs)
verdict_is left h [] xs legal edits paired = refl
verdict_is left h (i ∷ is) [] legal edits paired = absurd (omega (arith, paired))
verdict_is zero h (i ∷ is) (x ∷ xs) legal edits paired =
    let worn : verdict_of h.limits h.journal (Write i x) ≡ Some Worn = cond-true _ _ _ (eq-eqb (length h.journal) h.limits.edits (omega (arith, edits))) in
    sym (ap (λ v. first_refusal v (verdict_of_edits (with_edit h (Write i x)) (writes_at is xs))) worn)
verdict_is (suc left) h (i ∷ is) (x ∷ xs) legal edits paired =
    let size = length (list_of h.journal) in
    let next = with_edit h (Write i x) in
    let after = verdict_of_edits next (writes_at is xs) in
    let some : length h.journal ≢ h.limits.edits = λ worn. omega (arith, worn, edits) in
    elim (cases_lt i size) [
      | inl inside ↦
          let free : verdict_of h.limits h.journal (Write i x) ≡ None = cond-false _ _ _ (ne_eqb _ _ some) ∙ cond-true _ _ _ (lt-ltb i size inside) in
          let legal_next = legal-snoc h.journal (Write i x) _ legal (applied_write (list_of h.journal) i x inside) in
          verdict_by-in (suc left) left size i is (omega arith) inside
          ∙ ap (λ n. verdict_by left n is) (sym (size_written h i x legal inside))
          ∙ verdict_is left next is xs legal_next (omega (arith, edits, length_push h.journal (Write i x))) (omega (arith, paired))
          ∙ sym (ap (λ v. first_refusal v after) free)
      | inr out ↦
          let refused : verdict_of h.limits h.journal (Write i x) ≡ Some (OutOfRange size) = cond-false _ _ _ (ne_eqb _ _ some) ∙ cond-false _ _ _ (le-ltb i size out) in
          verdict_by-out (suc left) size i is (omega arith) out ∙ sym (ap (λ v. first_refusal v after) refused)
    ]

-- at a place in a list of indices: the first of those that are left is the one there
pub verdict_by-worn_at : (left size place : ℕ) (is : List ℕ) → left ≡ place → place < length is → verdict_by (left - place) size (drop place is) ≡ Some Worn
verdict_by-worn_at left size place is worn within =
    let none : left - place ≡ 0 = omega (arith, worn) in
    ap (λ n. verdict_by n size (drop place is)) none ∙ verdict_by-worn size (drop place is) (omega (arith, length-drop place is))

pub verdict_by-out_at : (left size place : ℕ) (is : List ℕ) → place < left → place < length is → size ≤ get_or is place 0 → verdict_by (left - place) size (drop place is) ≡ Some (OutOfRange size)
verdict_by-out_at left size place is some within out =
    ap (verdict_by (left - place) size) (drop_more is place 0 within)
    ∙ verdict_by-out (left - place) size (get_or is place 0) (drop (place + 1) is) (omega arith) out

pub verdict_by-in_at : (left size place : ℕ) (is : List ℕ) → place < left → place < length is → get_or is place 0 < size → verdict_by (left - place) size (drop place is) ≡ verdict_by (left - (place + 1)) size (drop (place + 1) is)
verdict_by-in_at left size place is some within inside =
    ap (verdict_by (left - place) size) (drop_more is place 0 within)
    ∙ verdict_by-in (left - place) (left - (place + 1)) size (get_or is place 0) (drop (place + 1) is) (omega arith) inside

-- if no error applies to the writes from a place on, none applies to the write there, and none to those behind it
pub free_next : (h : History) (is : List ℕ) (xs : List ℤ) (k i : ℕ) (x : ℤ) → k < length is → k < length xs → verdict_of_edits h (writes_at (drop k is) (drop k xs)) ≡ None
    → (verdict_of h.limits h.journal (Write (get_or is k i) (get_or xs k x)) ≡ None) × (verdict_of_edits (with_edit h (Write (get_or is k i) (get_or xs k x))) (writes_at (drop (k + 1) is) (drop (k + 1) xs)) ≡ None)
free_next h is xs k i x within beside free =
    free_parts h (Write (get_or is k i) (get_or xs k x)) (writes_at (drop (k + 1) is) (drop (k + 1) xs)) (sym (ap (verdict_of_edits h) (writes_more is xs k i x within beside)) ∙ free)

-- the write at a place and then the writes behind it lead to the same history as the writes from that place on
pub left_next : (h : History) (is : List ℕ) (xs : List ℤ) (k i : ℕ) (x : ℤ) → k < length is → k < length xs → with_edits (with_edit h (Write (get_or is k i) (get_or xs k x))) (writes_at (drop (k + 1) is) (drop (k + 1) xs)) ≡ with_edits h (writes_at (drop k is) (drop k xs))
left_next h is xs k i x within beside = sym (ap (with_edits h) (writes_more is xs k i x within beside))

-- behind the last place none are left
pub left_none : (h : History) (is : List ℕ) (xs : List ℤ) (k : ℕ) → length is ≤ k → with_edits h (writes_at (drop k is) (drop k xs)) ≡ h
left_none h is xs k past = ap (λ js. with_edits h (writes_at js (drop k xs))) (drop_all k is past)

-- behind the last place no write is rejected
pub verdict_by-end : (left size place : ℕ) (is : List ℕ) → length is ≤ place → verdict_by (left - place) size (drop place is) ≡ None
verdict_by-end left size place is past = ap (verdict_by (left - place) size) (drop_all place is past)
