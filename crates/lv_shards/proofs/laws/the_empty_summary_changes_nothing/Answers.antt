-- Proof of `the_empty_summary_changes_nothing`: the summary of no elements, combined on either side, changes nothing but the version, which is none.
use Rattle.lv_shards.proofs.Grouping.{empty_left, empty_right}
use Rattle.lv_shards.proofs.laws.the_empty_summary_changes_nothing.Goals as goal

pub returns-clause-left : goal.returns-clause-left
returns-clause-left c = empty_left

pub returns-clause-right : goal.returns-clause-right
returns-clause-right c = empty_right
