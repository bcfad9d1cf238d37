-- Proof of `greatest_fresh`: the greatest fresh node that begins at index `at` and ends at or before `hi`, or none.
use Rattle.std.proofs.Common.{◌-◌, ap, sym, ◌∙◌, arith}
use Rattle.lv_geometry.specs.Nodes.{over}
use Rattle.lv_summary.specs.Table.{entry_in}
use Rattle.lv_reduce.proofs.GreatestLaws.{none_at_next, stale_of_none}
use Rattle.lv_reduce.proofs.NodeLaws.{lesser_fits}
use Rattle.lv_reduce.proofs.reductions.greatest_fresh.Goals as goal

pub loop-level-init : goal.loop-level-init
loop-level-init g c = record {
  none = λ above more few fits. absurd (omega (arith, c.greatest_level-level.ensures.greatest above few fits));
  low = c.greatest_level-level.ensures.bound;
  fits = c.greatest_level-level.ensures.fits;
}

pub returns-in-Some-clause-some : goal.returns-in-Some-clause-some
returns-in-Some-clause-some g c = record {
  low = omega arith;
  high = omega arith;
  fits = c.loop-level.invariant.fits;
  entry = sym (ap (entry_in c.args.table.now) c.over.ensures) ∙ sym c.entry.ensures ∙ c.in-Some.is;
  greatest = c.loop-level.invariant.none;
}

pub loop-level-preserved : goal.loop-level-preserved
loop-level-preserved g c =
    let entry = sym (ap (entry_in c.args.table.now) c.over.ensures) ∙ sym c.entry.ensures ∙ c.in_default.is in
    let stale = stale_of_none c.args.table.now (over c.loop-level.level c.args.at) entry in
    record {
      none = none_at_next c.args.table.now c.args.at c.args.hi c.loop-level.level c.loop-level.invariant.none (omega arith) stale;
      low = omega arith;
      fits = lesser_fits c.args.at c.args.hi (c.loop-level.level - 1) c.loop-level.level (omega arith) c.loop-level.invariant.fits;
    }

pub returns-clause-none : goal.returns-clause-none
returns-clause-none g c = λ above more few fits. c.loop-level.invariant.none above (omega arith) few fits
