-- Proof of `elements_of`: the elements of a whole node of level 4, copied.
use Rattle.std.proofs.Common.{◌≡◌, ◌*◌, ◌++◌, length, take, sym, ap, ◌∙◌, arith}
use Rattle.lv_edits.specs.Touch.{elements_under}
use Rattle.lv_refresh.specs.Inner.{node_at}
use Rattle.lv_live.proofs.SubtreeElements.{all_in, block_in, eight_more, length_inside}
use Rattle.lv_live.proofs.live.subtrees.elements_of.Goals as goal

pub loop-k-preserved : goal.loop-k-preserved
loop-k-preserved c =
    let es = c.args.history.now.journal in
    let all = elements_under es (node_at 4 c.args.number) in
    c.in_ok-extend_from_slice.ensures.items
    ∙ ap (λ first. first ++ c.block.result) c.loop-k.invariant
    ∙ ap (λ next. take (8 * c.loop-k.k) all ++ next) (c.block.ensures.value ∙ block_in es c.args.number c.loop-k.k c.loop-k-test.true)
    ∙ sym (eight_more all c.loop-k.k)

pub returns-clause-elements : goal.returns-clause-elements
returns-clause-elements c =
    let end : c.loop-k.k ≡ 512 = omega (arith, c.loop-k.auto.k-end, c.loop-k-test.false) in
    c.loop-k.invariant ∙ all_in c.args.history.now.journal c.args.number c.loop-k.k end

pub returns-clause-many : goal.returns-clause-many
returns-clause-many c = ap length (returns-clause-elements c) ∙ length_inside c.args.history.now.journal c.args.number c.requires
