-- Proof of `copy_elements`: the elements that there are after all edits, in order.
use Rattle.std.proofs.Common.{ap, sym, take, ◌∙◌}
use Rattle.lv_edits.specs.History.{list_of}
use Rattle.lv_transcript.proofs.ReplayLemmas.{list_of_none}
use Rattle.lv_transcript.proofs.compaction.copy_elements.Goals as goal

pub bring_up-requires-clause-list : goal.bring_up-requires-clause-list
bring_up-requires-clause-list c =
    c.new-replay.ensures.list ∙ sym list_of_none ∙ ap (λ n. list_of (take n c.journal.result.now)) (sym c.new-replay.ensures.edit)
