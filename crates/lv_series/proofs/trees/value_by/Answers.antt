-- Proof of `value_by`: the fold of a range gives the summary of its kind.
use Rattle.std.proofs.Common.{slice_range}
use Rattle.lv_bodies.specs.Automata.{table_of}
use Rattle.lv_series.proofs.LayerLaws.{range_elements, some_in_range}
use Rattle.lv_series.proofs.trees.value_by.Goals as goal

pub returns : goal.returns
returns g c =
    let xs = c.args.elements.now in
    let all = range_elements xs c.args.from c.args.to c.requires.window.all in
    c.tell.ensures c.args.layer.now.body (table_of c.args._by) (slice_range xs c.args.from c.args.to) c.requires.fits all (some_in_range xs c.args.from c.args.to c.requires.order c.requires.high) c.fold.ensures
