-- The ghost that is handed on in `make_noted`: the journal before the edit.
use Rattle.lv_standing.proofs.edits.make_noted.Given as goal

abbrev pub ghost-tell : goal.ghost-tell
ghost-tell g a = g.before.journal
