-- Proof of `empty_by_program`: the summary of no elements, by the program's automaton.
use Rattle.std.proofs.Common.{ap, ◌∙◌}
use Rattle.lv_shards.specs.Summaries.{empty_of, leads_of}
use Rattle.livevec_c.specs.Summed.{summarised}
use Rattle.livevec_c.proofs.summaries.empty_by_program.Goals as goal

pub returns : goal.returns
returns c = c.summary_answer.ensures ∙ ap summarised (c.empty.ensures.empty ∙ ap (λ table. empty_of (leads_of table)) c.program.ensures)
