-- What a vector answers by all six kinds, each asked by its own tree.
use Rattle.std.proofs.Common.{◌≡◌, ℕ, Ok, Err, Some, refl, ap, ◌∙◌}
use Rattle.lv_geometry.specs.Numbers.{number_of}
use Rattle.lv_geometry.specs.declared.refusals.Refusal.{Refusal}
use Rattle.lv_bodies.specs.Automata.{table_of}
use Rattle.lv_bodies.specs.Body.{fold_of}
use Rattle.lv_bodies.specs.Six.{six_operations_by}
use Rattle.lv_bodies.specs.declared.kinds.Kind.{Kind}
use Rattle.lv_bodies.specs.declared.kinds.Kind.TheVariants.{Sum, Least, Greatest, Best, Affine, Automaton}
use Rattle.lv_edits.specs.Kept.{IsLegalInLimits}
use Rattle.lv_edits.specs.Ranges.{range_refusal, slice_of}
use Rattle.lv_tree.specs.Asked.{IsKindAnswer}
use Rattle.lv_tree.specs.KindSummaries.{summary_by}
use Rattle.lv_tree.specs.declared.kind_summaries.KindSummary.{KindSummary}
use Rattle.lv_tree.specs.declared.kinds.KindAnswer.{KindAnswer}
use Rattle.livevec_c.specs.declared.results.Reduced.{Reduced}
use Rattle.livevec_c.specs.declared.values.PlainValues.{PlainValues}
use Rattle.livevec_c.specs.Answers.{detail_of, spread, unreduced, with_part}
use Rattle.livevec_c.specs.Behind.{AsksVector, State}

-- the summary of a range by a kind
abbrev pub part_at : Kind → ℕ → ℕ → State → KindSummary
part_at kind lo hi state = summary_by (table_of state.body.automaton) kind (slice_of state.history.journal lo hi)

-- six summaries, put among plain values one after another, while the vector stays as it is
pub six_put : (lo hi : ℕ) (s s1 s2 s3 s4 : State) (p : KindSummary) (v v1 v2 v3 v4 v5 v6 : PlainValues) → p ≡ part_at Sum lo hi s → s1 ≡ s → s2 ≡ s1 → s3 ≡ s2 → s4 ≡ s3
    → v1 ≡ with_part p v → v2 ≡ with_part (part_at Least lo hi s) v1 → v3 ≡ with_part (part_at Greatest lo hi s1) v2 → v4 ≡ with_part (part_at Best lo hi s2) v3 → v5 ≡ with_part (part_at Affine lo hi s3) v4 → v6 ≡ with_part (part_at Automaton lo hi s4) v5
    → v6 ≡ spread (fold_of (six_operations_by (table_of s.body.automaton)) (slice_of s.history.journal lo hi))
six_put lo hi s s1 s2 s3 s4 p v v1 v2 v3 v4 v5 v6 sum one two three four put put2 put3 put4 put5 put6 =
    let second = two ∙ one in
    let third = three ∙ second in
    let at : Kind → PlainValues → PlainValues = λ kind. with_part (part_at kind lo hi s) in
    let up_to_least = put2 ∙ ap (at Least) (put ∙ ap (λ q. with_part q v) sum) in
    let up_to_greatest = put3 ∙ ap (λ t. with_part (part_at Greatest lo hi t) v2) one ∙ ap (at Greatest) up_to_least in
    let up_to_best = put4 ∙ ap (λ t. with_part (part_at Best lo hi t) v3) second ∙ ap (at Best) up_to_greatest in
    let up_to_affine = put5 ∙ ap (λ t. with_part (part_at Affine lo hi t) v4) third ∙ ap (at Affine) up_to_best in
    put6 ∙ ap (λ t. with_part (part_at Automaton lo hi t) v5) (four ∙ third) ∙ ap (at Automaton) up_to_affine

-- a vector that is asked by all six kinds
pub asks_six : (lo hi : ℕ) (s : State) (answer : KindAnswer) (values : PlainValues) (told : Reduced) → IsKindAnswer (table_of s.body.automaton) s.history.journal Sum lo hi answer → IsLegalInLimits s.history
    → values ≡ spread (fold_of (six_operations_by (table_of s.body.automaton)) (slice_of s.history.journal lo hi)) → told ≡ record { refusal = 0; detail = 0; edit = answer.edit; cells = 0; summaries = 0; values = values } → AsksVector lo hi told s
asks_six lo hi s answer values told is legal plain tells =
    let six = fold_of (six_operations_by (table_of s.body.automaton)) (slice_of s.history.journal lo hi) in
    record {
      r = Ok (record { edit = answer.edit; value = six; cells_read = 0; summaries_read = 0 });
      answer_is = tells ∙ ap (λ v. record { refusal = 0; detail = 0; edit = answer.edit; cells = 0; summaries = 0; values = v }) plain;
      ok = record { granted = is.granted; edit = is.edit; value = refl };
      err = tt;
      within = legal;
    }

-- a range that is refused to a query by all six kinds
pub refuses_six : (lo hi : ℕ) (s : State) (refusal : Refusal) (told : Reduced) → range_refusal s.history.journal lo hi ≡ Some refusal → IsLegalInLimits s.history → told ≡ unreduced (number_of refusal) (detail_of refusal) → AsksVector lo hi told s
refuses_six lo hi s refusal told why legal tells = record { r = Err refusal; answer_is = tells; ok = tt; err = why; within = legal }
