-- Proof of `put_next_job`: claims a job, and keeps it under its number.
use Rattle.std.proofs.Common.{None, Some}
use Rattle.lv_script.proofs.EventLaws.{tells_claim}
use Rattle.lv_script.proofs.job_answers.put_next_job.Goals as goal

pub returns-in-Some-clause-answer : goal.returns-in-Some-clause-answer
returns-in-Some-clause-answer c =
    (_, tells_claim c.args.standing.now c.claim_numbered.new.self (Some (c.in-Some.number, c.in-Some.node, c.in-Some.version)) c.args.issued.now.jobs c.claim_numbered.new.issued.jobs c.in-Some.ensures.step c.in-Some.ensures.history c.in-Some.ensures.queries, c.put_job.ensures.text)

pub returns-in-None-clause-answer : goal.returns-in-None-clause-answer
returns-in-None-clause-answer c =
    (_, tells_claim c.args.standing.now c.claim_numbered.new.self None c.args.issued.now.jobs c.claim_numbered.new.issued.jobs c.in-None.ensures.step c.in-None.ensures.history c.in-None.ensures.queries, c.put_idle.ensures.text)
