-- Proof of `prepare`: makes the tree of a kind, if there is memory for it.
use Rattle.lv_script.proofs.ValueLaws.{prepared}
use Rattle.lv_script.proofs.series_scripts.values.prepare.Goals as goal

pub returns : goal.returns
returns c = prepared c.args.series.now c.prepare.new.self c.args.kind c.prepare.result c.prepare.ensures.ok c.prepare.ensures.same
