-- Proof of `Claims::claim`: the job of the least node that wants one, by level and then by number, which is claimed with it; none if no node
-- wants one.
use Rattle.std.proofs.Common.{None, Some}
use Rattle.lv_refresh.proofs.ComputeLaws.{whole_served}
use Rattle.lv_refresh.proofs.NextLaws.{AreHints-served, HintsWants-from, IsNextJob-job, IsNextJob-served, Stands-job, body-job, claimed-job, idle-job}
use Rattle.lv_refresh.proofs.claims.Claims.claim.Goals as goal

pub next-requires-clause-hints : goal.next-requires-clause-hints
next-requires-clause-hints g c = HintsWants-from _ _ _ c.requires.agrees _ c.requires.hints

pub returns-in-Some-clause-next : goal.returns-in-Some-clause-next
returns-in-Some-clause-next g c =
    IsNextJob-job _ _ c.args.table.now c.requires.agrees c.args.self.now c.next.new.self c.in-Some.node c.in-Some.version c.args.body c.in-Some.ensures c.job_of.result c.job_of.ensures.job c.job_of.ensures.none

pub returns-in-Some-clause-claimed : goal.returns-in-Some-clause-claimed
returns-in-Some-clause-claimed g c =
    claimed-job _ _ c.args.table.now c.requires.agrees c.args.self.now c.next.new.self c.in-Some.node c.in-Some.version c.args.body c.in-Some.ensures c.job_of.result c.job_of.ensures.job

pub returns-in-Some-clause-hints : goal.returns-in-Some-clause-hints
returns-in-Some-clause-hints g c = AreHints-served _ _ c.args.table.now c.requires.agrees c.args.self.now c.next.new.self (Some (c.in-Some.node, c.in-Some.version)) c.in-Some.ensures

pub returns-in-Some-clause-job : goal.returns-in-Some-clause-job
returns-in-Some-clause-job g c =
    Stands-job _ _ c.args.table.now c.requires.agrees c.args.self.now c.next.new.self c.in-Some.node c.in-Some.version c.args.body c.in-Some.ensures c.job_of.result c.job_of.ensures.job

pub returns-in-None-clause-next : goal.returns-in-None-clause-next
returns-in-None-clause-next g c = IsNextJob-served _ _ c.args.table.now c.requires.agrees c.args.self.now c.next.new.self None c.in-None.ensures

pub returns-in-None-clause-hints : goal.returns-in-None-clause-hints
returns-in-None-clause-hints g c = AreHints-served _ _ c.args.table.now c.requires.agrees c.args.self.now c.next.new.self None c.in-None.ensures

pub job_of-requires-clause-agrees : goal.job_of-requires-clause-agrees
job_of-requires-clause-agrees g c κs within = c.requires.agrees

pub job_of-requires-clause-whole : goal.job_of-requires-clause-whole
job_of-requires-clause-whole g c κs within = whole_served c.args.table.now c.args.self.now c.next.new.self (c.in-Some.node, c.in-Some.version) c.in-Some.ensures

pub returns-in-Some-clause-idle : goal.returns-in-Some-clause-idle
returns-in-Some-clause-idle g c =
    idle-job _ _ c.args.table.now c.requires.agrees c.args.self.now c.next.new.self c.in-Some.node c.in-Some.version c.args.body c.in-Some.ensures c.job_of.result c.job_of.ensures.none

pub returns-in-Some-clause-body : goal.returns-in-Some-clause-body
returns-in-Some-clause-body g c =
    body-job _ _ c.args.table.now c.requires.agrees c.args.self.now c.next.new.self c.in-Some.node c.in-Some.version c.args.body c.in-Some.ensures c.job_of.result c.job_of.ensures.job

pub returns-in-None-clause-idle : goal.returns-in-None-clause-idle
returns-in-None-clause-idle g c = c.in-None.ensures.claimed
