-- Proof of `put_delivery`: delivers the outcome of a job, if there is one of that number.
use Rattle.std.proofs.Common.{Err, Ok}
use Rattle.lv_script.proofs.EventLaws.{tells_delivery}
use Rattle.lv_script.proofs.job_answers.put_delivery.Goals as goal

pub returns-in-Ok-clause-answer : goal.returns-in-Ok-clause-answer
returns-in-Ok-clause-answer c =
    (_, tells_delivery c.args.standing.now c.deliver.new.self c.args.k (Ok c.in-Ok.accepted) c.args.issued.now.jobs c.in-Ok.ensures.step c.in-Ok.ensures.history c.in-Ok.ensures.queries, c.put_accepted.ensures.text)

pub returns-in-Err-clause-answer : goal.returns-in-Err-clause-answer
returns-in-Err-clause-answer c =
    (_, tells_delivery c.args.standing.now c.deliver.new.self c.args.k (Err c.in-Err.refusal) c.args.issued.now.jobs c.in-Err.ensures.step c.in-Err.ensures.history c.in-Err.ensures.queries, c.put_refusal.ensures.text)
