-- Proof of `replies_are_true_of_one_list`: sessions share one list of updates.
use Rattle.lv_hub.proofs.AsScriptsLaws.{as_scripts}
use Rattle.lv_hub.proofs.PlainSessionLaws.{lines_go_on, lines_true}
use Rattle.lv_hub.proofs.laws.replies_are_true_of_one_list.Goals as goal

pub returns-clause-replies : goal.returns-clause-replies
returns-clause-replies c = λ limits numbers edits old new lines text. lines_true limits numbers edits old new 1 lines text

pub returns-clause-forward : goal.returns-clause-forward
returns-clause-forward c = λ limits numbers old new lines text. lines_go_on limits numbers old new 1 lines text

pub returns-clause-scripted : goal.returns-clause-scripted
returns-clause-scripted c = as_scripts
