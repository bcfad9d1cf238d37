-- Proof of `Auditor::new`: before the first line.
use Rattle.std.proofs.Common.{ap, sym, take, ◌∙◌}
use Rattle.lv_edits.specs.History.{list_of}
use Rattle.lv_transcript.proofs.ReplayLemmas.{few_of_none, list_of_none}
use Rattle.lv_transcript.proofs.auditor.Auditor.new.Goals as goal

pub invariant_of-result-clause-replayed : goal.invariant_of-result-clause-replayed
invariant_of-result-clause-replayed c =
    c.new-2.ensures.list ∙ sym list_of_none ∙ ap (λ n. list_of (take n c.new.result.journal)) (sym c.new-2.ensures.edit)

pub invariant_of-result-clause-few : goal.invariant_of-result-clause-few
invariant_of-result-clause-few c = rw c.new.ensures.history few_of_none
