-- Proof of `reachable_words_show_history`: the words of every state that allowed steps reach show its history: the descriptor, each cell and
-- mark, and each part.
use Rattle.lv_machine.proofs.MoveLaws.{reachable_shows}
use Rattle.lv_machine.proofs.laws.reachable_words_show_history.Goals as goal

pub returns : goal.returns
returns c = reachable_shows
