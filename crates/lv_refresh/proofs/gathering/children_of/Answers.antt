-- Proof of `children_of`: the summaries of a whole node's children; none if one of them is not fresh.
use Rattle.std.proofs.Common.{◌∙◌}
use Rattle.std.proofs.lemmas.Bool.{and_from, and_left, and_right}
use Rattle.lv_geometry.proofs.NodeLaws.{at_each_child}
use Rattle.lv_refresh.proofs.GatherLaws.{children_fresh-fours, four_fresh-entries}
use Rattle.lv_refresh.proofs.gathering.children_of.Goals as goal

pub returns-in_err-a : goal.returns-in_err-a
returns-in_err-a g c =
    rw c.from_residual.ensures record { some = tt; ready = tt; none = children_fresh-fours c.args.table.now c.args.node ∙ and_left _ _ c.in_err-a.ensures.none }

pub returns-in_err-e : goal.returns-in_err-e
returns-in_err-e g c =
    rw c.from_residual-in_err-e.ensures record { some = tt; ready = tt; none = children_fresh-fours c.args.table.now c.args.node ∙ and_right _ _ c.in_err-e.ensures.none }

pub returns : goal.returns
returns g c =
    let four = c.in_ok-a.ensures.some in
    let others = c.in_ok-e.ensures.some in
    record {
      some = at_each_child _ four.a_is four.b_is four.c_is four.d_is others.a_is others.b_is others.c_is others.d_is;
      ready = children_fresh-fours c.args.table.now c.args.node
          ∙ and_from _ _ (four_fresh-entries c.args.table.now c.args.node 0 _ _ _ _ four) (four_fresh-entries c.args.table.now c.args.node 4 _ _ _ _ others);
      none = tt;
    }
