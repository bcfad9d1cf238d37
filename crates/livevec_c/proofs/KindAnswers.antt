-- The answer of a query by one kind is the plain value of its range.
use Rattle.std.proofs.Common.{◌≡◌, ℕ, Some, None, length, sym, ap, ◌∙◌}
use Rattle.std.specs.Prelude.{nat_lt}
use Rattle.lv_geometry.specs.Numbers.{number_of}
use Rattle.lv_geometry.specs.declared.refusals.Refusal.{Refusal}
use Rattle.lv_bodies.specs.Automata.{table_of}
use Rattle.lv_bodies.specs.Plain.{plain_value_with}
use Rattle.lv_bodies.specs.declared.kinds.Kind.{Kind}
use Rattle.lv_bodies.specs.declared.kinds.Shown.{Shown}
use Rattle.lv_edits.specs.Ranges.{range_refusal, slice_of}
use Rattle.lv_tree.specs.declared.kinds.KindAnswer.{KindAnswer}
use Rattle.lv_tree.specs.Asked.{IsKindAnswer}
use Rattle.lv_tree.specs.KindSummaries.{shown_of}
use Rattle.livevec_c.specs.declared.results.Reduced.{Reduced}
use Rattle.livevec_c.specs.Answers.{detail_of, unreduced}
use Rattle.livevec_c.specs.Behind.{State}
use Rattle.livevec_c.specs.SpreadLaws.{shown-plain}
use Rattle.livevec_c.specs.Valued.{value_of, valued}

-- an answer, as it is shown, is the plain value after the last edit
pub answers_value : (kind : Kind) (lo hi : ℕ) (state : State) (answer : KindAnswer) (shown : Shown) (told : Reduced) → IsKindAnswer (table_of state.body.automaton) state.history.journal kind lo hi answer → shown ≡ shown_of answer.summary → told ≡ valued None answer.edit (nat_lt lo hi) shown → told ≡ value_of kind lo hi state
answers_value kind lo hi state answer shown told is shows tells =
    let es = state.history.journal in
    let table = table_of state.body.automaton in
    let xs = slice_of es lo hi in
    let plain : shown ≡ plain_value_with table kind xs = shows ∙ ap shown_of is.summary ∙ shown-plain table xs kind in
    tells
    ∙ ap (λ edit. valued None edit (nat_lt lo hi) shown) is.edit
    ∙ ap (valued None (length es) (nat_lt lo hi)) plain
    ∙ ap (λ r. valued r (length es) (nat_lt lo hi) (plain_value_with table kind xs)) (sym is.granted)

-- a range that is refused has the refusal for its answer
pub refuses_value : (kind : Kind) (lo hi : ℕ) (state : State) (refusal : Refusal) (told : Reduced) → range_refusal state.history.journal lo hi ≡ Some refusal → told ≡ unreduced (number_of refusal) (detail_of refusal) → told ≡ value_of kind lo hi state
refuses_value kind lo hi state refusal told why tells =
    let es = state.history.journal in
    tells ∙ ap (λ r. valued r (length es) (nat_lt lo hi) (plain_value_with (table_of state.body.automaton) kind (slice_of es lo hi))) (sym why)
