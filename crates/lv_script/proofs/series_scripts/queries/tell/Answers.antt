-- Proof of `tell`: asks all queries once, and lists the notes that are due.
use Rattle.lv_script.proofs.Notes.{notes_due}
use Rattle.lv_script.proofs.series_scripts.queries.tell.Goals as goal

pub returns-clause-notes : goal.returns-clause-notes
returns-clause-notes c =
    notes_due c.args.series.now.held c.args.queries.now c.ask_all.new.queries c.clear.new.self.items c.put_due.new.notes.items c.ask_all.ensures.answers c.clear.ensures.items c.put_due.ensures.notes
