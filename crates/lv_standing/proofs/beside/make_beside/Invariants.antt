-- The ghost that is handed on in `make_beside`: the history before the edit.
use Rattle.lv_standing.proofs.BesideLaws.{before_last}
use Rattle.lv_standing.proofs.beside.make_beside.Given as goal

abbrev pub ghost-follow_last : goal.ghost-follow_last
ghost-follow_last g a = before_last a._cells.now
