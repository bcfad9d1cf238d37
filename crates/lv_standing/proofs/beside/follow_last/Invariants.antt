-- The ghost that is handed on in `follow_last`: the history before the edit.
use Rattle.lv_standing.proofs.beside.follow_last.Given as goal

abbrev pub ghost-follow_made : goal.ghost-follow_made
ghost-follow_made g a = g.before
