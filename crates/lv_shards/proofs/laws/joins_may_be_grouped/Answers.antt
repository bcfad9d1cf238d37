-- Proof of `joins_may_be_grouped`: three summaries are joined to the same, whichever two are joined first.
use Rattle.lv_shards.proofs.Grouping.{may_be_grouped}
use Rattle.lv_shards.proofs.laws.joins_may_be_grouped.Goals as goal

pub returns : goal.returns
returns c = may_be_grouped
