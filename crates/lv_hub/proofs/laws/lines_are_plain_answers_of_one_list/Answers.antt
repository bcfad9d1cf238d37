-- Proof of `lines_are_plain_answers_of_one_list`: the lines of subscribers are of one list of updates, if these began with `subscribe_all`, ran,
-- were taken back by `leave_all`, and got their last notification.
use Rattle.lv_hub.proofs.WatchedLaws.{watched_of_one_list}
use Rattle.lv_hub.proofs.laws.lines_are_plain_answers_of_one_list.Goals as goal

pub returns : goal.returns
returns c = λ limits numbers old new edits watches watchers left told. watched_of_one_list limits numbers old new edits watches watchers left told
