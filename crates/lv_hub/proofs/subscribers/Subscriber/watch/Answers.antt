-- Proof of `Subscriber::watch`: registers a question, which takes part from the next look that finds an update.
use Rattle.std.proofs.Common.{◌≡◌, ◌++◌, ◌∷◌, [], None, OnOk, Result, Ok, Err, ap, subst, ◌∙◌}
use Rattle.lv_geometry.specs.declared.refusals.Refusal.{Refusal}
use Rattle.lv_bodies.specs.declared.kinds.Shown.{Shown}
use Rattle.lv_standing.specs.declared.queries.Query.{Query}
use Rattle.lv_standing.specs.Queries.{query_refusal, watch_answer}
use Rattle.lv_standing.specs.QuerySets.{QuerySetState, with_query}
use Rattle.lv_hub.specs.Notes.{question_refusal}
use Rattle.lv_hub.proofs.subscribers.Subscriber.watch.Goals as goal

-- what a set of at most 64 queries accepts, a subscriber accepts
taken : (set new : QuerySetState Query) (q : Query) (told answer : Shown) (result : Result (Unit {0}) Refusal) → set.most ≡ 64 → told ≡ answer
    → OnOk result ((query_refusal set.most set.queries q ≡ None) × (new ≡ with_query set q told))
    → OnOk result ((question_refusal set.queries q ≡ None) × (new.queries ≡ set.queries ++ q ∷ []) × (new.told ≡ set.told ++ answer ∷ []))
taken set new q told answer (Ok done) most same takes =
    (subst (λ n. query_refusal n set.queries q ≡ None) most takes.0, ap (λ s. s.queries) takes.1, ap (λ s. s.told) takes.1 ∙ ap (λ t. set.told ++ t ∷ []) same)
taken set new q told answer (Err refusal) most same takes = takes

pub returns-in-Ok-clause-ok : goal.returns-in-Ok-clause-ok
returns-in-Ok-clause-ok g c =
    subst (λ s. OnOk c.watch.result ((question_refusal s.questions c.args.question.now ≡ None)
    × (c.watch.new.self.queries ≡ s.questions ++ c.args.question.now ∷ [])
    × (c.watch.new.self.told ≡ s.told ++ watch_answer [] c.args.question.now ∷ [])))
    c.self.view_is
    (taken c.self.inside.queries c.watch.new.self c.args.question.now c.untold.result (watch_answer [] c.args.question.now) c.watch.result c.self.invariant.0 c.untold.ensures.none c.watch.ensures.ok)
