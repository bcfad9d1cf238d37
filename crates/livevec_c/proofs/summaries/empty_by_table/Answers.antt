-- Proof of `empty_by_table`.
use Rattle.std.proofs.Common.{◌≡◌, true, false, refl, ap, ◌∙◌}
use Rattle.lv_shards.specs.Summaries.{empty_of, leads_of}
use Rattle.livevec_c.specs.Summed.{summarised}
use Rattle.livevec_c.proofs.summaries.empty_by_table.Goals as goal

pub returns-in-Err : goal.returns-in-Err
returns-in-Err c = record {
  taken = λ all. let t : false ≡ true = c.in-Err.ensures.taken.1 all in absurd (cc);
  refused = λ _. c.not_summarised.ensures;
}

pub returns-in-Ok : goal.returns-in-Ok
returns-in-Ok c = record {
  taken = λ _. c.summary_answer.ensures ∙ ap summarised (c.empty.ensures.empty ∙ ap (λ table. empty_of (leads_of table)) c.in-Ok.ensures.table);
  refused = λ not. elim (not (c.in-Ok.ensures.taken.0 refl)) [ ];
}
