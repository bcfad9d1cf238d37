-- Proof of `shards_come_to_the_fold_of_all`: an answer joined of shards, each after an edit of its own, is that of the elements of all of them end
-- to end, as they were after those edits.
use Rattle.std.proofs.Common.{Ok, []}
use Rattle.lv_shards.specs.Summaries.{empty_of, leads_of}
use Rattle.lv_shards.proofs.InOrder.{is_of_nothing, shards_from}
use Rattle.lv_shards.proofs.laws.shards_come_to_the_fold_of_all.Goals as goal

pub returns : goal.returns
returns c = λ table shards parts valid of. shards_from table [] (Ok (empty_of (leads_of table))) shards parts (is_of_nothing table valid) of
