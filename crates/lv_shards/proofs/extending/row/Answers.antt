-- Proof of `row`: where a state leads by each remainder.
use Rattle.lv_shards.proofs.Tables.{row_is}
use Rattle.lv_shards.proofs.extending.row.Goals as goal

pub returns : goal.returns
returns c = row_is c.args.leads.now c.args.q c.told-leads
