-- Many writes at once: which of them is refused first, and that they leave the limits.
use Rattle.std.proofs.Common.{◌≡◌, ◌≢◌, ℕ, ℤ, zero, suc, ◌+◌, ◌-◌, ◌<◌, ◌≤◌, Some, None, Option, Result, Ok, Err, List, [], ◌∷◌, ◌++◌, length, length-drop, drop, get_or, cond, is_some, nat_lt, if◌then◌else◌, refl, sym, ap, ◌∙◌, inl, inr, arith}
use Rattle.std.proofs.lemmas.Bool.{cases_lt, cond-false, cond-true, eq-eqb, le-ltb, lt-ltb, ne_eqb}
use Rattle.std.proofs.lemmas.List.{drop_all, drop_more, length_push}
use Rattle.lv_geometry.specs.declared.refusals.Refusal.{Refusal}
use Rattle.lv_geometry.specs.declared.refusals.Refusal.TheVariants.{OutOfRange, Worn}
use Rattle.lv_edits.specs.declared.edit.Edit.{Edit}
use Rattle.lv_edits.specs.declared.edit.Edit.TheVariants.{Write}
use Rattle.lv_edits.specs.Batches.{AnswersEdits, verdict_of_edits, writes_at}
use Rattle.lv_edits.specs.History.{History, list_of, replayed, with_edit}
use Rattle.lv_edits.specs.Verdict.{verdict_of}
use Rattle.lv_edits.proofs.BatchLaws.{limits-edits, verdict_by, verdict_by-end, verdict_by-in_at, verdict_by-out_at, verdict_by-worn_at, verdict_is}
use Rattle.lv_edits.proofs.HistoryLaws.{applied_write, legal-snoc}
use Rattle.lv_live.proofs.WrittenLaws.{size_written}
use Rattle.livevec_c.specs.Written.{accepted_before, place_refused}

-- edits leave the limits, whether they are accepted or not
pub limits_kept_by : (h new : History) (es : List Edit) (r : Result ℕ Refusal) → AnswersEdits h es r new → new.limits ≡ h.limits
limits_kept_by h new es (Ok edit) answer = ap (λ (g : History). g.limits) answer.journal ∙ limits-edits h es
limits_kept_by h new es (Err refusal) answer = ap (λ (g : History). g.limits) answer.same

-- how many writes are accepted before one is refused, if so many edits are left and there are so many elements
abbrev pub accepted_by : ℕ → ℕ → List ℕ → ℕ
accepted_by left size [] = 0
accepted_by zero size (i ∷ is) = 0
accepted_by (suc left) size (i ∷ is) = if nat_lt i size then accepted_by left size is + 1 else 0

-- that many are accepted of writes of any values
accepted_is : (left : ℕ) (h : History) (is : List ℕ) (xs : List ℤ) → replayed h.journal ≡ Some (list_of h.journal) → length h.journal + left ≡ h.limits.edits → length is ≡ length xs → accepted_by left (length (list_of h.journal)) is ≡ accepted_before h (writes_at is xs)
accepted_is left h [] xs legal edits paired = refl
accepted_is left h (i ∷ is) [] legal edits paired = absurd (omega (arith, paired))
accepted_is zero h (i ∷ is) (x ∷ xs) legal edits paired =
    let worn : verdict_of h.limits h.journal (Write i x) ≡ Some Worn = cond-true _ _ _ (eq-eqb (length h.journal) h.limits.edits (omega (arith, edits))) in
    sym (ap (λ v. cond (is_some v) 0 (accepted_before (with_edit h (Write i x)) (writes_at is xs) + 1)) worn)
accepted_is (suc left) h (i ∷ is) (x ∷ xs) legal edits paired =
    let size = length (list_of h.journal) in
    let next = with_edit h (Write i x) in
    let after = accepted_before next (writes_at is xs) + 1 in
    let some : length h.journal ≢ h.limits.edits = λ worn. omega (arith, worn, edits) in
    elim (cases_lt i size) [
      | inl inside ↦
          let free : verdict_of h.limits h.journal (Write i x) ≡ None = cond-false _ _ _ (ne_eqb _ _ some) ∙ cond-true _ _ _ (lt-ltb i size inside) in
          let legal_next = legal-snoc h.journal (Write i x) _ legal (applied_write (list_of h.journal) i x inside) in
          cond-true _ _ _ (lt-ltb i size inside)
          ∙ ap (λ n. accepted_by left n is + 1) (sym (size_written h i x legal inside))
          ∙ ap (λ n. n + 1) (accepted_is left next is xs legal_next (omega (arith, edits, length_push h.journal (Write i x))) (omega (arith, paired)))
          ∙ sym (ap (λ v. cond (is_some v) 0 after) free)
      | inr out ↦
          let refused : verdict_of h.limits h.journal (Write i x) ≡ Some (OutOfRange size) = cond-false _ _ _ (ne_eqb _ _ some) ∙ cond-false _ _ _ (le-ltb i size out) in
          cond-false _ _ _ (le-ltb i size out) ∙ sym (ap (λ v. cond (is_some v) 0 after) refused)
    ]

-- the first that is refused, by both
pub place_is : (left : ℕ) (h : History) (is : List ℕ) (xs : List ℤ) → replayed h.journal ≡ Some (list_of h.journal) → length h.journal + left ≡ h.limits.edits → length is ≡ length xs
    → cond (is_some (verdict_by left (length (list_of h.journal)) is)) (accepted_by left (length (list_of h.journal)) is) 0 ≡ place_refused h (writes_at is xs)
place_is left h is xs legal edits paired =
    ap (λ v. cond (is_some v) (accepted_by left (length (list_of h.journal)) is) 0) (verdict_is left h is xs legal edits paired)
    ∙ ap (λ n. cond (is_some (verdict_of_edits h (writes_at is xs))) n 0) (accepted_is left h is xs legal edits paired)

accepted_by-none : (left size : ℕ) (is : List ℕ) → left ≡ 0 → accepted_by left size is ≡ 0
accepted_by-none left size [] none = refl
accepted_by-none zero size (i ∷ is) none = refl
accepted_by-none (suc left) size (i ∷ is) none = absurd (omega (arith, none))

accepted_by-out : (left size i : ℕ) (is : List ℕ) → size ≤ i → accepted_by left size (i ∷ is) ≡ 0
accepted_by-out zero size i is out = refl
accepted_by-out (suc left) size i is out = cond-false _ _ _ (le-ltb i size out)

accepted_by-in : (left rest size i : ℕ) (is : List ℕ) → left ≡ rest + 1 → i < size → accepted_by left size (i ∷ is) ≡ accepted_by rest size is + 1
accepted_by-in zero rest size i is more inside = absurd (omega (arith, more))
accepted_by-in (suc left) rest size i is more inside =
    let same : left ≡ rest = omega (arith, more) in
    cond-true _ _ _ (lt-ltb i size inside) ∙ ap (λ n. accepted_by n size is + 1) same

-- at a place in a list of indices, before which no write is refused
pub record AreFreeBefore (left size place : ℕ) (is : List ℕ) : Type 0 where
  pub within : place ≤ left
  pub judged : verdict_by left size is ≡ verdict_by (left - place) size (drop place is)
  pub counted : accepted_by left size is ≡ place + accepted_by (left - place) size (drop place is)

pub free_before_first : (left size : ℕ) (is : List ℕ) → AreFreeBefore left size 0 is
free_before_first left size is =
    let all : left ≡ left - 0 = omega arith in
    record {
      within = omega arith;
      judged = ap (λ n. verdict_by n size is) all;
      counted = ap (λ n. accepted_by n size is) all ∙ omega arith;
    }

pub free_before_next : (left size place : ℕ) (is : List ℕ) → place ≢ left → place < length is → get_or is place 0 < size → AreFreeBefore left size place is → AreFreeBefore left size (place + 1) is
free_before_next left size place is some within inside free =
    let more : left - place ≡ left - (place + 1) + 1 = omega (arith, free.within, some) in
    let one = ap (accepted_by (left - place) size) (drop_more is place 0 within) ∙ accepted_by-in (left - place) (left - (place + 1)) size (get_or is place 0) (drop (place + 1) is) more inside in
    record {
      within = omega (arith, free.within, some);
      judged = free.judged ∙ verdict_by-in_at left size place is (omega (arith, free.within, some)) within inside;
      counted = omega (arith, free.counted, one);
    }

-- the first write that is refused is at that place, or none is
pub place_worn : (left size place : ℕ) (is : List ℕ) → place ≡ left → place < length is → AreFreeBefore left size place is → cond (is_some (verdict_by left size is)) (accepted_by left size is) 0 ≡ place
place_worn left size place is worn within free =
    ap (λ v. cond (is_some v) (accepted_by left size is) 0) (free.judged ∙ verdict_by-worn_at left size place is (sym worn) within)
    ∙ omega (arith, free.counted, accepted_by-none (left - place) size (drop place is) (omega (arith, worn)))

pub place_out : (left size place : ℕ) (is : List ℕ) → place ≢ left → place < length is → size ≤ get_or is place 0 → AreFreeBefore left size place is → cond (is_some (verdict_by left size is)) (accepted_by left size is) 0 ≡ place
place_out left size place is some within out free =
    ap (λ v. cond (is_some v) (accepted_by left size is) 0) (free.judged ∙ verdict_by-out_at left size place is (omega (arith, free.within, some)) within out)
    ∙ omega (arith, free.counted, ap (accepted_by (left - place) size) (drop_more is place 0 within) ∙ accepted_by-out (left - place) size (get_or is place 0) (drop (place + 1) is) out)

pub place_none : (left size place : ℕ) (is : List ℕ) → length is ≤ place → AreFreeBefore left size place is → cond (is_some (verdict_by left size is)) (accepted_by left size is) 0 ≡ 0
place_none left size place is past free =
    ap (λ v. cond (is_some v) (accepted_by left size is) 0) (free.judged ∙ verdict_by-end left size place is past)
