-- Proof of `Summaries::install_due`: installs a summary that is known to be due, as `install` would.
use Rattle.std.proofs.Common.{refl, ap, ◌∙◌}
use Rattle.lv_summary.specs.Inner.{table_of, with_kept}
use Rattle.lv_summary.proofs.Changes.{HasRowsChanged-one, IsSound-kept, Keeps-at}
use Rattle.lv_summary.proofs.ChildLaws.{due_version}
use Rattle.lv_summary.proofs.NodeRows.{levels_of_whole}
use Rattle.lv_summary.proofs.TableLaws.{current_of_installed}
use Rattle.lv_summary.proofs.summaries.Summaries.install_due.Goals as goal

pub keep-requires-clause-version : goal.keep-requires-clause-version
keep-requires-clause-version g c = due_version (table_of c.self.inside.size c.self.inside.levels) c.args.node c.args.version c.self.invariant (rw (← c.self.view_is) at c.requires)

pub invariant_of-self : goal.invariant_of-self
invariant_of-self g c =
    let levels = levels_of_whole c.args.self.now c.args.node (current_of_installed c.args.self.now c.args.node c.args.version c.requires).0 in
    IsSound-kept c.self.invariant refl c.args.node c.args.node.level c.args.version c.args.s
    (HasRowsChanged-one c.self.inside.size c.self.inside.levels c.args.node.level c.keep.new.self (λ rows. with_kept rows c.args.node.number c.args.version c.args.s) levels.0 levels.1 (c.keep.ensures ∙ ap (λ changed. with_kept changed.rows c.args.node.number c.args.version c.args.s) c.at_mut.ensures.thing))

pub returns : goal.returns
returns g c =
    let levels = levels_of_whole c.args.self.now c.args.node (current_of_installed c.args.self.now c.args.node c.args.version c.requires).0 in
    rw (← c.self.view_is) (
    Keeps-at c.self.invariant refl c.args.node c.args.node.level c.args.version c.args.s (current_of_installed (table_of c.self.inside.size c.self.inside.levels) c.args.node c.args.version (rw (← c.self.view_is) at c.requires)).0 refl
    (HasRowsChanged-one c.self.inside.size c.self.inside.levels c.args.node.level c.keep.new.self (λ rows. with_kept rows c.args.node.number c.args.version c.args.s) levels.0 levels.1 (c.keep.ensures ∙ ap (λ changed. with_kept changed.rows c.args.node.number c.args.version c.args.s) c.at_mut.ensures.thing)))
