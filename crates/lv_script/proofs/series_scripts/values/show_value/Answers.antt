-- Proof of `show_value`: the value of a kind over a range, or why the range is rejected.
use Rattle.std.proofs.Common.{◌∙◌}
use Rattle.lv_script.proofs.ValueLaws.{value_refused, value_shown}
use Rattle.lv_script.proofs.series_scripts.values.show_value.Goals as goal

pub returns-in-Ok-clause-value : goal.returns-in-Ok-clause-value
returns-in-Ok-clause-value c =
    let shows = value_shown c.args.series.now c.prepare.new.series c.prepare.ensures c.args.kind c.args.lo c.args.hi c.in-Ok.answer c.requires.table c.in-Ok.ensures in
    (shows.0, c.shown.ensures ∙ shows.1)

pub returns-in-Err-clause-value : goal.returns-in-Err-clause-value
returns-in-Err-clause-value c = value_refused c.args.series.now c.prepare.new.series c.prepare.ensures c.args.kind c.args.lo c.args.hi c.in-Err.refusal c.in-Err.ensures
