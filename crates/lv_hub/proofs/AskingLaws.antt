-- The questions that were read from a subscriber's file.
use Rattle.std.proofs.Common.{ℕ, Option, Result, Ok, Err, List, subst}
use Rattle.std.specs.Prelude.{Vec}
use Rattle.lv_standing.specs.declared.queries.Query.{Query}
use Rattle.lv_hub.specs.Asking.{Asked, AsksAll, Finds, ReadsQuestions}
use Rattle.lv_hub.specs.declared.questions.Damage as damages
use Rattle.lv_hub.specs.declared.questions.Unasked.{Unasked}
use Rattle.lv_hub.specs.declared.questions.Unasked.TheVariants.{Damage, Fault}

-- the result of reading
pub read_so : {Z : Type 0} (old new : Option (List ℕ)) (asked : Asked) (result : Result (Vec Query Z) Unasked) → Finds asked result → AsksAll {T = Unit {0}} old new asked (Ok tt) → ReadsQuestions old new result
read_so old new asked (Ok questions) found all = subst (λ (asked : Asked). AsksAll {T = Unit {0}} old new asked (Ok tt)) found all
read_so old new asked (Err (Damage damage)) found all =
    (asked.questions, subst (λ (d : Option damages.Damage). AsksAll {T = Unit {0}} old new (record { questions = asked.questions; damage = d }) (Ok tt)) found all)
read_so old new asked (Err (Fault fault)) found all = absurd found
