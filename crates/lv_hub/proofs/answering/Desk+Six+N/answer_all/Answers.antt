-- Proof of `Desk::answer_all`.
use Rattle.std.proofs.Common.{◌∙◌, ap, map, subst, sym}
use Rattle.lv_bodies.specs.Plain.{plain_value, program_table}
use Rattle.lv_edits.specs.History.{list_of}
use Rattle.lv_standing.specs.Queries.{span_of}
use Rattle.lv_standing.specs.QuerySets.{with_answers}
use Rattle.lv_standing.proofs.AskableLaws.{all_answered}
use Rattle.lv_hub.specs.Renewing.{IsRun}
use Rattle.lv_hub.proofs.RenewalLaws.{stands_list}
use Rattle.lv_hub.proofs.answering.Desk+Six+N.answer_all.Goals as goal

pub returns-clause-within : goal.returns-clause-within
returns-clause-within g c = subst (IsRun g.N.Naming.limits) (sym (ap (λ h. h.seen) c.see.ensures.seen)) c.self.invariant.1.run

pub returns-clause-answers : goal.returns-clause-answers
returns-clause-answers g c =
    let set = c.args.set.now in
    let s = c.self.inside in
    let seen = ap (λ h. h.seen) c.see.ensures.seen in
    let list = stands_list g.N.Naming.limits s.renewed s.capacity s.head s.live.history c.self.invariant.1 ∙ ap list_of (sym seen) in
    c.ask.ensures.answers
    ∙ ap (with_answers set) (all_answered program_table s.live.history.journal set.queries)
    ∙ ap (λ xs. with_answers set (map (λ q. plain_value q.kind (span_of q.span xs)) set.queries)) list
