-- Proof of `Standing::watch_query`: registers a query.
use Rattle.std.proofs.Common.{◌≡◌, ◌∙◌, [], ◌∷◌, ◌++◌, ap, ap₂, sym, subst, arith, length, length-append, map}
use Rattle.std.proofs.lemmas.List.{map-append}
use Rattle.lv_edits.specs.History.{list_of}
use Rattle.lv_summary.proofs.FoldableLaws.{can_fold}
use Rattle.lv_tree.proofs.KindLaws.{shown_is_plain}
use Rattle.lv_tree.specs.KindSummaries.{shown_of}
use Rattle.lv_standing.specs.declared.queries.Query.{Query}
use Rattle.lv_standing.specs.Queries.{span_of, watch_answer}
use Rattle.lv_standing.specs.QuerySets.{QuerySetState}
use Rattle.lv_standing.specs.Standings.{HaveOwnNames, summary_at}
use Rattle.lv_standing.proofs.QueryLaws.{apart_more, new_name}
use Rattle.lv_standing.proofs.RangeLaws.{span_can_fold}
use Rattle.lv_standing.proofs.standing.Standing.watch_query.Goals as goal

pub invariant_of-self-in-Ok-watch : goal.invariant_of-self-in-Ok-watch
invariant_of-self-in-Ok-watch c =
    let h = c.self.inside.live.history in
    let set = c.self.inside.set in
    let q = c.args.query.now in
    let added = c.in-Ok-watch.ensures.ok in
    let queries : c.watch.new.self.queries ≡ set.queries ++ q ∷ [] = ap (λ (s : QuerySetState Query). s.queries) added.1 in
    let told : c.watch.new.self.told ≡ set.told ++ c.shown.result ∷ [] = ap (λ (s : QuerySetState Query). s.told) added.1 in
    let answer = c.shown.ensures ∙ ap shown_of c.ask_span-summary.ensures.value ∙ shown_is_plain q.kind (span_of q.span (list_of h.journal)) (span_can_fold (list_of h.journal) q.span (can_fold h c.self.invariant.limits)) in
    record {
      limits = c.self.invariant.limits;
      most = ap (λ (s : QuerySetState Query). s.most) added.1 ∙ c.self.invariant.most;
      few = omega (arith, ap length queries, length-append set.queries (q ∷ []), c.refusal.ensures.few c.in_default.is, c.self.invariant.most);
      apart = subst HaveOwnNames (sym queries) (apart_more set.queries q c.self.invariant.apart (new_name set.most set.queries q.name q.span added.0));
      told = told ∙ ap₂ (λ vs v. vs ++ v ∷ []) c.self.invariant.told answer ∙ sym (map-append (watch_answer h.journal) set.queries (q ∷ [])) ∙ ap (map (watch_answer h.journal)) (sym queries);
      summaries_are = c.push_reserved.ensures.items ∙ ap₂ (λ vs v. vs ++ v ∷ []) (c.reserve.ensures.items ∙ c.self.invariant.summaries_are) c.ask_span-summary.ensures.value ∙ sym (map-append (summary_at h.journal) set.queries (q ∷ [])) ∙ ap (map (summary_at h.journal)) (sym queries);
      kept = c.ask_span-summary.ensures.kept;
    }
