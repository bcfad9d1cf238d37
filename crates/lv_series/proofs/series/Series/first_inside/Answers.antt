-- Proof of `Series::first_inside`.
use Rattle.lv_series.proofs.PlaceLaws.{first_in}
use Rattle.lv_series.proofs.series.Series.first_inside.Goals as goal

pub returns-in-Some : goal.returns-in-Some
returns-in-Some c = first_in c.args.self.now.held c.args.lo c.args.hi c.requires.granted c.args.bound c.sought.result c.sought.ensures c.in-Some.end c.in-Some.ensures
