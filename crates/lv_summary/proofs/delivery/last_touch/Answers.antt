-- Proof of `last_touch`: the number of the last edit that touched a node; 0 if none did, and outside the table.
use Rattle.std.proofs.Common.{ap, sym, ◌∙◌}
use Rattle.lv_summary.specs.Inner.{table_of}
use Rattle.lv_summary.proofs.LevelLaws.{touched_at}
use Rattle.lv_summary.proofs.NodeRows.{touched_in-inside, touched_in-outside}
use Rattle.lv_summary.proofs.delivery.last_touch.Goals as goal

pub returns-in-Some-clause-value : goal.returns-in-Some-clause-value
returns-in-Some-clause-value g c =
    let of = c.in-Some.ensures.some in
    c.touched.ensures ∙ ap (λ rows. touched_at rows c.args.node.number) of.level ∙ sym (touched_in-inside (table_of c.args.size c.args.levels.now) c.args.node of.member)

pub returns-in-None-clause-value : goal.returns-in-None-clause-value
returns-in-None-clause-value g c = sym (touched_in-outside (table_of c.args.size c.args.levels.now) c.args.node c.in-None.ensures.none)
