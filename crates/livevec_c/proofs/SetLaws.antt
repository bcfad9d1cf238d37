-- Sets of standing queries, by what contracts see of them.
use Rattle.std.proofs.Common.{◌≡◌, ◌∙◌, None, Result, Ok, Err, OnOk, ap, subst}
use Rattle.lv_bodies.specs.declared.kinds.Shown.{Shown}
use Rattle.lv_standing.specs.QuerySets.{QuerySetState, refusal_of, with_query}
use Rattle.livevec_c.specs.declared.set_queries.SetQuery.{SetQuery}
use Rattle.livevec_c.specs.Queries.{QueriesState, question_refusal, terms_of, untold, with_question}

-- what contracts see of a set
abbrev pub seen_of : QuerySetState SetQuery → QueriesState
seen_of s = record { questions = s.queries; told = s.told }

-- a question was registered in a set of at most 64, and its answer of no elements counts as reported
pub set_watched : {T E : Type 0} (result : Result T E) (old new : QuerySetState SetQuery) (q : SetQuery) (told : Shown) → old.most ≡ 64 → told ≡ untold q
    → OnOk result ((refusal_of terms_of old.most old.queries q ≡ None) × (new ≡ with_query old q told)) → OnOk result ((question_refusal old.queries q ≡ None) × (seen_of new ≡ with_question (seen_of old) q))
set_watched (Ok _) old new q told most untold_is met =
    (subst (λ m. refusal_of terms_of m old.queries q ≡ None) most met.0, ap seen_of met.1 ∙ ap (λ t. seen_of (with_query old q t)) untold_is)
set_watched (Err _) old new q told most untold_is met = tt
