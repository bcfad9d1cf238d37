-- Proof of `four_children_of`: the summaries of four of a whole node's children, from one on; none if one of them is not fresh.
use Rattle.std.proofs.Common.{ap, sym, ◌∙◌}
use Rattle.std.proofs.lemmas.Bool.{and_parts}
use Rattle.lv_summary.specs.Table.{entry_in}
use Rattle.lv_refresh.proofs.GatherLaws.{four_fit, four_stale, four_stale-1, four_stale-2, four_stale-3}
use Rattle.lv_refresh.proofs.gathering.four_children_of.Goals as goal

pub child-requires : goal.child-requires
child-requires g c = record { above = c.requires.above; fits = (four_fit c.args.node c.args.table.now.size c.args.first (and_parts _ _ c.requires.whole).1 c.requires.above (rw c.size-size.ensures.value at c.size-size.type_inv) c.requires.few).0 }

pub child-requires-2 : goal.child-requires-2
child-requires-2 g c = record { above = c.requires.above; fits = (four_fit c.args.node c.args.table.now.size c.args.first (and_parts _ _ c.requires.whole).1 c.requires.above (rw c.size-size.ensures.value at c.size-size.type_inv) c.requires.few).1 }

pub child-requires-3 : goal.child-requires-3
child-requires-3 g c = record { above = c.requires.above; fits = (four_fit c.args.node c.args.table.now.size c.args.first (and_parts _ _ c.requires.whole).1 c.requires.above (rw c.size-size.ensures.value at c.size-size.type_inv) c.requires.few).2 }

pub child-requires-4 : goal.child-requires-4
child-requires-4 g c = record { above = c.requires.above; fits = (four_fit c.args.node c.args.table.now.size c.args.first (and_parts _ _ c.requires.whole).1 c.requires.above (rw c.size-size.ensures.value at c.size-size.type_inv) c.requires.few).3 }

pub returns : goal.returns
returns g c =
    record {
      some = record {
        a_is = sym c.in_ok-entry.was ∙ c.entry.ensures ∙ ap (entry_in c.args.table.now) c.child.ensures;
        b_is = sym c.in_ok-entry-2.was ∙ c.entry-2.ensures ∙ ap (entry_in c.args.table.now) c.child-2.ensures;
        c_is = sym c.in_ok-entry-3.was ∙ c.entry-3.ensures ∙ ap (entry_in c.args.table.now) c.child-3.ensures;
        d_is = sym c.in_ok-entry-4.was ∙ c.entry-4.ensures ∙ ap (entry_in c.args.table.now) c.child-4.ensures;
      };
      none = tt;
    }

pub returns-in_err-entry : goal.returns-in_err-entry
returns-in_err-entry g c =
    rw c.from_residual.ensures record { some = tt; none = four_stale c.args.table.now c.args.node c.args.first (sym (c.entry.ensures ∙ ap (entry_in c.args.table.now) c.child.ensures) ∙ c.in_err-entry.was) }

pub returns-in_err-entry-2 : goal.returns-in_err-entry-2
returns-in_err-entry-2 g c =
    rw c.from_residual-in_err-entry-2.ensures record { some = tt; none = four_stale-1 c.args.table.now c.args.node c.args.first (sym (c.entry-2.ensures ∙ ap (entry_in c.args.table.now) c.child-2.ensures) ∙ c.in_err-entry-2.was) }

pub returns-in_err-entry-3 : goal.returns-in_err-entry-3
returns-in_err-entry-3 g c =
    rw c.from_residual-in_err-entry-3.ensures record { some = tt; none = four_stale-2 c.args.table.now c.args.node c.args.first (sym (c.entry-3.ensures ∙ ap (entry_in c.args.table.now) c.child-3.ensures) ∙ c.in_err-entry-3.was) }

pub returns-in_err-entry-4 : goal.returns-in_err-entry-4
returns-in_err-entry-4 g c =
    rw c.from_residual-in_err-entry-4.ensures record { some = tt; none = four_stale-3 c.args.table.now c.args.node c.args.first (sym (c.entry-4.ensures ∙ ap (entry_in c.args.table.now) c.child-4.ensures) ∙ c.in_err-entry-4.was) }
