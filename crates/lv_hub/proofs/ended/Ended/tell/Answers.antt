-- Proof of `Ended::tell`: the last notification, from the vector of the hub that was closed after this many updates.
use Rattle.std.proofs.Common.{◌∙◌, ap, map}
use Rattle.lv_bodies.specs.Plain.{program_table}
use Rattle.lv_standing.specs.Queries.{watch_answer}
use Rattle.lv_standing.specs.QuerySets.{with_answers}
use Rattle.lv_standing.proofs.AskableLaws.{all_answered}
use Rattle.lv_hub.proofs.SubscriberLaws.{each_answered, notes_put}
use Rattle.lv_hub.proofs.ended.Ended.tell.Goals as goal

pub put_due-requires-clause-asked : goal.put_due-requires-clause-asked
put_due-requires-clause-asked c =
    let set = c.self.inside.queries in
    let edits = c.args.live.now.history.journal in
    each_answered set c.ask.new.self (watch_answer edits) (c.ask.ensures.answers ∙ ap (with_answers set) (all_answered program_table edits set.queries))

pub returns-clause-notes : goal.returns-clause-notes
returns-clause-notes c =
    let set = c.self.inside.queries in
    let edits = c.args.live.now.history.journal in
    let asked = c.ask.ensures.answers ∙ ap (with_answers set) (all_answered program_table edits set.queries) in
    rw (← c.self.view_is) (notes_put set c.ask.new.self (map (watch_answer edits) set.queries) c.clear.new.self.items c.put_due.new.notes.items asked c.clear.ensures.items c.put_due.ensures.notes)
