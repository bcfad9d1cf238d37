-- Proof of `are_in_order`: whether answers are in the rising order of their versions.
use Rattle.std.proofs.Common.{◌≡◌, ℕ, zero, suc, ◌+◌, ◌-◌, ◌<◌, ◌≤◌, List, length, get_or, refl, sym, ap, ◌∙◌, inl, inr, arith}
use Rattle.std.specs.List.{AllAdjacentBelow}
use Rattle.std.proofs.lemmas.Bool.{cases_lt, true≢false}
use Rattle.std.proofs.lemmas.List.{get_or_default}
use Rattle.std.proofs.lemmas.List.Sorted.{IsNonDecreasingBy-from_all_adjacent}
use Rattle.lv_transcript.specs.declared.claimed.Claimed.{Claimed}
use Rattle.lv_transcript.specs.Transcript.{AreInOrder}
use Rattle.lv_transcript.proofs.text_buffers.are_in_order.Goals as goal

module _ (xs : List Claimed) where
  -- one answer more that is not below the last
  rises : (i last : ℕ) (d₀ : Claimed) → i < length xs → AllAdjacentBelow (λ (x : Claimed) y. x.edit ≤ y.edit) xs i → ((d : Claimed) → 0 < i → last ≡ (get_or xs (i - 1) d).edit)
      → last ≤ (get_or xs i d₀).edit → AllAdjacentBelow (λ (x : Claimed) y. x.edit ≤ y.edit) xs (i + 1)
  rises i last d₀ within rise known below k d lt =
      elim (cases_lt (k + 1) i) [
        | inl before ↦ rise k d before
        | inr after ↦
            let here : k + 1 ≡ i = omega arith in
            let one_before : i - 1 ≡ k = omega arith in
            omega (arith, below, known d (omega arith), ap (λ j. (get_or xs j d).edit) one_before, ap (λ j. (get_or xs j d).edit) here, ap (λ (x : Claimed). x.edit) (get_or_default xs i d d₀ within))
      ]

  -- the answer that was looked at last is the last one
  latest : (i : ℕ) (d₀ d : Claimed) → i < length xs → (get_or xs i d₀).edit ≡ (get_or xs (i + 1 - 1) d).edit
  latest i d₀ d within =
      let same : i ≡ i + 1 - 1 = omega arith in
      ap (λ (x : Claimed). x.edit) (get_or_default xs i d₀ d within) ∙ ap (λ j. (get_or xs j d).edit) same

  -- one that is below the last is out of order
  falls : (i last : ℕ) (d₀ : Claimed) → i < length xs → ((d : Claimed) → 0 < i → last ≡ (get_or xs (i - 1) d).edit) → (i ≡ 0 → last ≡ 0) → (get_or xs i d₀).edit < last → AreInOrder xs → ⊥
  falls zero last d₀ within known none below order = omega (arith, none refl, below)
  falls (suc i) last d₀ within known none below order =
      let one_before : suc i - 1 ≡ i = omega arith in
      omega (arith, known d₀ (omega arith), ap (λ j. (get_or xs j d₀).edit) one_before, order i (suc i) d₀ (omega arith) within, below)

pub loop-answer-preserved : goal.loop-answer-preserved
loop-answer-preserved c =
    let xs = c.args.answers.now in
    let i = c.loop-answer.answer-index in
    let kept = c.loop-answer.invariant in
    record {
      rise = rises xs i c.loop-answer.last _ c.loop-answer-test.true kept.rise kept.last c.if-answer-last.false;
      last = λ d some. latest xs i _ d c.loop-answer-test.true;
      none = λ is. absurd (omega (arith, is));
    }

pub returns-then-answer-last : goal.returns-then-answer-last
returns-then-answer-last c =
    let kept = c.loop-answer.invariant in
    (λ yes. elim (true≢false (sym yes)) [ ], λ order. elim (falls c.args.answers.now c.loop-answer.answer-index c.loop-answer.last _ c.loop-answer-test.true kept.last kept.none c.if-answer-last.true order) [ ])

pub returns : goal.returns
returns c =
    let xs = c.args.answers.now in
    let all : AllAdjacentBelow (λ (x : Claimed) y. x.edit ≤ y.edit) xs (length xs) = λ k d lt. c.loop-answer.invariant.rise k d (omega (arith, lt, c.loop-answer-test.false)) in
    (λ yes. IsNonDecreasingBy-from_all_adjacent (λ (x : Claimed). x.edit) xs all, λ order. refl)
