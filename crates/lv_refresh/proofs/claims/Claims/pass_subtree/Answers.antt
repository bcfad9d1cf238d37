-- Proof of `Claims::pass_subtree`: takes note that every summary of a subtree was installed.
use Rattle.std.proofs.Common.{◌||◌, refl, ap, ◌∙◌}
use Rattle.lv_geometry.specs.Nodes.{parent, same_node}
use Rattle.lv_refresh.specs.Inner.{node_at}
use Rattle.lv_refresh.proofs.HintLaws.{hinted_there}
use Rattle.lv_refresh.proofs.SubtreeHints.{AreClaims-passed, claim_blocks-passed, claimed_in-passed, inside-passed, is_hinted-passed, words_inside}
use Rattle.lv_refresh.proofs.SweepLaws.{others_stay}
use Rattle.lv_refresh.proofs.claims.Claims.pass_subtree.Goals as goal

pub unhint_subtree-requires-clause-inside : goal.unhint_subtree-requires-clause-inside
unhint_subtree-requires-clause-inside c = (words_inside _ c.args.number c.self.invariant (rw (← c.self.view_is) at c.requires.inside)).0

pub unhint_subtree-requires-clause-few : goal.unhint_subtree-requires-clause-few
unhint_subtree-requires-clause-few c = (words_inside _ c.args.number c.self.invariant (rw (← c.self.view_is) at c.requires.inside)).1

pub invariant_of-self : goal.invariant_of-self
invariant_of-self c =
    AreClaims-passed _ _ c.args.number c.unhint_subtree.ensures (others_stay c.self.inside.levels c.unhint_subtree.new.rows) c.self.invariant

pub hint_above-requires-clause-inside : goal.hint_above-requires-clause-inside
hint_above-requires-clause-inside c =
    inside-passed _ _ c.args.number c.unhint_subtree.ensures (others_stay c.self.inside.levels c.unhint_subtree.new.rows) (node_at 4 c.args.number) (rw (← c.self.view_is) at c.requires.inside)

pub returns-clause-claimed : goal.returns-clause-claimed
returns-clause-claimed c =
    rw (← c.self.view_is) (λ n. c.hint_above.ensures.claimed n ∙ claimed_in-passed _ _ c.args.number c.unhint_subtree.ensures (others_stay c.self.inside.levels c.unhint_subtree.new.rows) n)

pub returns-clause-hints : goal.returns-clause-hints
returns-clause-hints c =
    rw (← c.self.view_is) (λ n.
    hinted_there _ _ (parent (node_at 4 c.args.number)) refl c.hint_above.ensures n
    ∙ ap (λ hinted. same_node n (parent (node_at 4 c.args.number)) || hinted) (is_hinted-passed _ _ c.args.number c.unhint_subtree.ensures (others_stay c.self.inside.levels c.unhint_subtree.new.rows) n))

pub returns-clause-blocks : goal.returns-clause-blocks
returns-clause-blocks c =
    rw (← c.self.view_is) (c.hint_above.ensures.blocks ∙ claim_blocks-passed _ _ c.args.number c.unhint_subtree.ensures (others_stay c.self.inside.levels c.unhint_subtree.new.rows))
