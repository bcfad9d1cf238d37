-- Proof of `put_reads`: how many reads a reduction makes, or why its range is rejected.
use Rattle.std.proofs.Common.{Err}
use Rattle.lv_script.proofs.EventLaws.{tells_cost, tells_reads}
use Rattle.lv_script.proofs.answers.put_reads.Goals as goal

pub returns-in-Ok-clause-answer : goal.returns-in-Ok-clause-answer
returns-in-Ok-clause-answer c = (_, (λ jobs. tells_cost c.args.standing.now c.args.lo c.args.hi c.in-Ok.reads jobs c.in-Ok.ensures), c.put_cost.ensures.text)

pub returns-in-Err-clause-answer : goal.returns-in-Err-clause-answer
returns-in-Err-clause-answer c = (_, (λ jobs. tells_reads c.args.standing.now c.args.lo c.args.hi (Err c.in-Err.refusal) jobs c.in-Err.ensures), c.put_refusal.ensures.text)
