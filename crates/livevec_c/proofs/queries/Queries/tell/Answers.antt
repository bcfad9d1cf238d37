-- Proof of `Queries::tell`: reports each question for whose answer a note is due.
use Rattle.std.proofs.Common.{◌∙◌, refl, ap, arith}
use Rattle.lv_standing.specs.QuerySets.{with_told}
use Rattle.livevec_c.proofs.NotingLaws.{tells_all}
use Rattle.livevec_c.proofs.SetLaws.{seen_of}
use Rattle.livevec_c.proofs.queries.Queries.tell.Goals as goal

pub returns-clause-told : goal.returns-clause-told
returns-clause-told g c =
    let seen = g.A.Target.seen in
    let set = c.self.inside.set in
    let asked = c.ask.ensures.answers in
    rw (← c.self.view_is) (tells_all (seen_of set) (seen c.args.asked.now) (seen c.ask.new.asked) (ap seen c.ask.ensures.same) (seen_of c.mark_told.new.self) c.queries-questions.result.now c.told-told.result.now c.answers-answers.result.now _ c.note_all-count.new.notes c.args.notes.now c.note_all.new.notes
    c.note_all-count.result c.note_all.result c.edits-edit.result c.note_all-count.result _ c.note_all-count.ensures c.note_all.ensures (c.queries-questions.ensures.queries ∙ ap (λ s. s.queries) asked) (c.told-told.ensures.told ∙ ap (λ s. s.told) asked) (c.answers-answers.ensures ∙ ap (λ s. s.answers) asked)
    (omega arith) c.edits-edit.ensures refl refl (ap (λ s. s.queries) (c.mark_told.ensures ∙ ap with_told asked)) (ap (λ s. s.told) (c.mark_told.ensures ∙ ap with_told asked)))
