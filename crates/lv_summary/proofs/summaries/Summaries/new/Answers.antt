-- Proof of `Summaries::new`: a table with no rows, for a vector with no element.
use Rattle.std.proofs.Common.{refl}
use Rattle.lv_geometry.proofs.NodeLaws.{at_each_level}
use Rattle.lv_summary.proofs.Growth.{IsSound-empty, blocks_in-empty, kept_in-empty, touched_in-empty}
use Rattle.lv_summary.proofs.summaries.Summaries.new.Goals as goal

pub invariant_of-result : goal.invariant_of-result
invariant_of-result g c =
    IsSound-empty refl (at_each_level _ c.new.ensures.rows c.new-2.ensures.rows c.new-3.ensures.rows c.new-4.ensures.rows c.new-5.ensures.rows c.new-6.ensures.rows)

pub returns-clause-blocks : goal.returns-clause-blocks
returns-clause-blocks g c =
    blocks_in-empty _ (at_each_level _ c.new.ensures.rows c.new-2.ensures.rows c.new-3.ensures.rows c.new-4.ensures.rows c.new-5.ensures.rows c.new-6.ensures.rows)

pub returns-clause-untouched : goal.returns-clause-untouched
returns-clause-untouched g c =
    touched_in-empty _ (at_each_level _ c.new.ensures.rows c.new-2.ensures.rows c.new-3.ensures.rows c.new-4.ensures.rows c.new-5.ensures.rows c.new-6.ensures.rows)

pub returns-clause-nothing_kept : goal.returns-clause-nothing_kept
returns-clause-nothing_kept g c =
    kept_in-empty _ (at_each_level _ c.new.ensures.rows c.new-2.ensures.rows c.new-3.ensures.rows c.new-4.ensures.rows c.new-5.ensures.rows c.new-6.ensures.rows)
