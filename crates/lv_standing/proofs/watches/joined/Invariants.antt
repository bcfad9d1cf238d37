-- The ghost that is handed on in `joined`: the elements before.
use Rattle.lv_standing.proofs.watches.joined.Given as goal

abbrev pub ghost-with_last : goal.ghost-with_last
ghost-with_last g a = g.before
