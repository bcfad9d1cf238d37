-- Proof of `write_each`.
use Rattle.std.proofs.Common.{fold, ap, ◌∙◌, arith}
use Rattle.std.proofs.lemmas.List.{take_all}
use Rattle.lv_series.specs.Batches.{writes_at}
use Rattle.lv_series.specs.Series.{changed, held_in}
use Rattle.lv_series.proofs.WriteLaws.{count_writes}
use Rattle.lv_series.proofs.batches.write_each.Goals as goal

pub returns-clause-written : goal.returns-clause-written
returns-clause-written c =
    let es = writes_at c.args.indices.now c.args.values.now in
    c.loop-k.invariant.made ∙ ap (fold changed (held_in c.args.base c.args.first c.args.elements.now.items)) (take_all c.loop-k.k es (omega (arith, c.loop-k-test.false, count_writes c.args.indices.now c.args.values.now c.requires.paired)))
