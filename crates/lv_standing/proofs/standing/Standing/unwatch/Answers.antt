-- Proof of `Standing::unwatch`: forgets a query; the others keep their order.
use Rattle.std.proofs.Common.{◌≡◌, ◌≢◌, ◌∙◌, ap, sym, refl, remove, subst, arith, length, map, IsSome, Some, []}
use Rattle.std.proofs.lemmas.List.Edits.{length-remove}
use Rattle.std.proofs.lemmas.List.Quantifiers.{all_pairs_remove}
use Rattle.lv_bodies.specs.declared.kinds.Shown.TheVariants.{Sum}
use Rattle.lv_standing.specs.declared.queries.Query.{Query}
use Rattle.lv_standing.specs.QuerySets.{QuerySetState}
use Rattle.lv_standing.specs.Queries.{watch_answer}
use Rattle.lv_standing.specs.Standings.{HaveOwnNames, summary_at}
use Rattle.lv_standing.proofs.QueryLaws.{map_remove, not_placed, place_within, placed, without_placed}
use Rattle.lv_standing.proofs.standing.Standing.unwatch.Goals as goal

-- a query that is there
there : (q : Query) → IsSome (Some q)
there q = refl

pub returns-in_default-clause-err : goal.returns-in_default-clause-err
returns-in_default-clause-err c = rw (← c.self.view_is) (not_placed c.args.name c.self.inside.set.queries (sym c.in_default.ensures), refl)

pub invariant_of-self : goal.invariant_of-self
invariant_of-self c =
    let set = c.self.inside.set in
    let new = c.self.inside.live.history.journal in
    let i = c.in-Some.place in
    let inside = place_within c.args.name set.queries i (sym c.in-Some.ensures) in
    let queries : c.forget.new.self.queries ≡ remove set.queries i = ap (λ (s : QuerySetState Query). s.queries) c.forget.ensures in
    record {
      limits = c.self.invariant.limits;
      most = ap (λ (s : QuerySetState Query). s.most) c.forget.ensures ∙ c.self.invariant.most;
      few = omega (arith, ap length queries, length-remove set.queries i inside, c.self.invariant.few);
      apart = subst HaveOwnNames (sym queries) (all_pairs_remove (λ a b. a.name ≢ b.name) set.queries i inside c.self.invariant.apart);
      told = ap (λ (s : QuerySetState Query). s.told) c.forget.ensures ∙ ap (λ vs. remove vs i) c.self.invariant.told ∙ map_remove (watch_answer new) set.queries i ∙ ap (map (watch_answer new)) (sym queries);
      summaries_are = c.remove.ensures.items ∙ ap (λ vs. remove vs i) c.self.invariant.summaries_are ∙ map_remove (summary_at new) set.queries i ∙ ap (map (summary_at new)) (sym queries);
      kept = c.self.invariant.kept;
    }

pub returns-clause-ok : goal.returns-clause-ok
returns-clause-ok c =
    let set = c.self.inside.set in
    let here = placed c.args.name (watch_answer []) set.queries c.in-Some.place (Sum 0) (sym c.in-Some.ensures) in
    rw (← c.self.view_is) (
      subst IsSome (sym here.1) (there here.0),
      ap (λ (s : QuerySetState Query). s.queries) c.forget.ensures ∙ without_placed c.args.name set.queries c.in-Some.place c.self.invariant.apart (sym c.in-Some.ensures),
    )
