-- Proof of `first_words`: the words for this many elements: the descriptor, and a zero for each cell, part and mark.
use Rattle.std.proofs.Common.{◌∙◌, ap, ◌+◌, ◌*◌, ◌∷◌, replicate, slice_set, arith}
use Rattle.lv_machine.proofs.ListLaws.{first_written}
use Rattle.lv_machine.proofs.start.first_words.Goals as goal

pub returns : goal.returns
returns c =
    let zeros = 2 * c.args.capacity in
    ap (λ ws. slice_set ws 0 c.first_descriptor.result) (c.in_ok-words.ensures.items_if_clones_equal (λ y same. same))
    ∙ first_written (1 + zeros) zeros c.first_descriptor.result (omega arith)
    ∙ ap (λ first. first ∷ replicate zeros 0) c.first_descriptor.ensures
