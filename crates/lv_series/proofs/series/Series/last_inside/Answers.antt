-- Proof of `Series::last_inside`.
use Rattle.lv_series.proofs.PlaceLaws.{last_in}
use Rattle.lv_series.proofs.series.Series.last_inside.Goals as goal

pub returns : goal.returns
returns c = last_in c.args.self.now.held c.args.lo c.args.hi c.requires.granted c.args.bound c.sought.result c.sought.ensures c.find.result c.find.ensures
