-- Proof of `keep`: keeps a summary of a version for a whole node.
use Rattle.std.proofs.Common.{refl, ap, ◌∙◌}
use Rattle.lv_summary.specs.Inner.{table_of, with_kept}
use Rattle.lv_summary.proofs.Changes.{HasRowsChanged-one, IsSound-kept, Keeps-at}
use Rattle.lv_summary.proofs.NodeRows.{levels_of_whole}
use Rattle.lv_summary.proofs.delivery.keep.Goals as goal

pub returns-clause-sound : goal.returns-clause-sound
returns-clause-sound g c =
    let levels = levels_of_whole (table_of c.args.size c.args.levels.now) c.args.node c.requires.whole in
    IsSound-kept c.requires.sound refl c.args.node c.args.node.level c.args.version c.args.s
    (HasRowsChanged-one c.args.size c.args.levels.now c.args.node.level c.keep.new.self (λ rows. with_kept rows c.args.node.number c.args.version c.args.s) levels.0 levels.1 (c.keep.ensures ∙ ap (λ changed. with_kept changed.rows c.args.node.number c.args.version c.args.s) c.at_mut.ensures.thing))

pub returns-clause-kept : goal.returns-clause-kept
returns-clause-kept g c =
    let levels = levels_of_whole (table_of c.args.size c.args.levels.now) c.args.node c.requires.whole in
    Keeps-at c.requires.sound refl c.args.node c.args.node.level c.args.version c.args.s c.requires.whole refl
    (HasRowsChanged-one c.args.size c.args.levels.now c.args.node.level c.keep.new.self (λ rows. with_kept rows c.args.node.number c.args.version c.args.s) levels.0 levels.1 (c.keep.ensures ∙ ap (λ changed. with_kept changed.rows c.args.node.number c.args.version c.args.s) c.at_mut.ensures.thing))
