-- The ghost that is handed on in `push_noted`: the history before the edit.
use Rattle.lv_standing.proofs.edits.push_noted.Given as goal

abbrev pub ghost-make_noted : goal.ghost-make_noted
ghost-make_noted a = a.live.now.history
