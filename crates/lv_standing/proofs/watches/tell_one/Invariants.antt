-- The ghost that is handed on in `tell_one`: the journal before the edit.
use Rattle.lv_standing.proofs.watches.tell_one.Given as goal

abbrev pub ghost-summary_after : goal.ghost-summary_after
ghost-summary_after g a = g.old
