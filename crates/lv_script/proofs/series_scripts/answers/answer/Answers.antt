-- Proof of `answer`: answers a command.
use Rattle.std.proofs.Common.{sym, subst, vec_capacity}
use Rattle.lv_lines.specs.Output.{Puts, PutsFront}
use Rattle.lv_lines.proofs.OutputLemmas.{Writes-put}
use Rattle.lv_script.specs.declared.long_commands.LongCommand.TheVariants.{Scan}
use Rattle.lv_script.specs.Inside.{Told, known_of}
use Rattle.lv_script.proofs.KnownLaws.{told_err, told_ok}
use Rattle.lv_script.proofs.series_scripts.answers.answer.Goals as goal

pub returns-in-Reduce-clause-ready : goal.returns-in-Reduce-clause-ready
returns-in-Reduce-clause-ready g c = c.put_reduced.ensures.ready c.args.queries.now (vec_capacity c.args.notes.now) c.requires.ready

pub returns-in-Find-clause-ready : goal.returns-in-Find-clause-ready
returns-in-Find-clause-ready g c = c.put_index_of.ensures.ready c.args.queries.now (vec_capacity c.args.notes.now) c.requires.ready

pub returns-in-BestRun-clause-ready : goal.returns-in-BestRun-clause-ready
returns-in-BestRun-clause-ready g c = c.put_run_of.ensures.ready c.args.queries.now (vec_capacity c.args.notes.now) c.requires.ready

pub returns-in-Unwatch-clause-ready : goal.returns-in-Unwatch-clause-ready
returns-in-Unwatch-clause-ready g c = c.put_unwatch.ensures.ready c.args.series.now (vec_capacity c.args.notes.now) c.requires.ready

pub returns-in-Reduce-clause-ok : goal.returns-in-Reduce-clause-ok
returns-in-Reduce-clause-ok g c =
    let a = c.put_reduced.ensures.answer in
    (a.0, subst (λ command. Told (known_of c.args.series.now c.args.queries.now.queries) command a.0 (known_of c.put_reduced.new.series c.args.queries.now.queries)) (sym c.in-Reduce.is) (a.1 c.args.queries.now.queries), Writes-put _ _ _ _ a.2)

pub returns-in-Find-clause-ok : goal.returns-in-Find-clause-ok
returns-in-Find-clause-ok g c =
    let a = c.put_index_of.ensures.answer in
    (a.0, subst (λ command. Told (known_of c.args.series.now c.args.queries.now.queries) command a.0 (known_of c.put_index_of.new.series c.args.queries.now.queries)) (sym c.in-Find.is) (a.1 c.args.queries.now.queries), Writes-put _ _ _ _ a.2)

pub returns-in-BestRun-clause-ok : goal.returns-in-BestRun-clause-ok
returns-in-BestRun-clause-ok g c =
    let a = c.put_run_of.ensures.answer in
    (a.0, subst (λ command. Told (known_of c.args.series.now c.args.queries.now.queries) command a.0 (known_of c.put_run_of.new.series c.args.queries.now.queries)) (sym c.in-BestRun.is) (a.1 c.args.queries.now.queries), Writes-put _ _ _ _ a.2)

pub returns-in-Unwatch-clause-ok : goal.returns-in-Unwatch-clause-ok
returns-in-Unwatch-clause-ok g c =
    let a = c.put_unwatch.ensures.answer in
    (a.0, subst (λ command. Told (known_of c.args.series.now c.args.queries.now.queries) command a.0 (known_of c.args.series.now c.put_unwatch.new.queries.queries)) (sym c.in-Unwatch.is) (a.1 c.args.series.now), Writes-put _ _ _ _ a.2)

pub returns-in-Scan-clause-ok : goal.returns-in-Scan-clause-ok
returns-in-Scan-clause-ok g c =
    let s = c.args.series.now in
    told_ok (λ queries command reply. Told (known_of s queries) command reply (known_of s queries)) (Puts g.W.Write.contents c.args.buffer.now c.answer_scan.new.buffer) c.args.queries.now.queries c.args.command
    (Scan c.in-Scan.inclusive c.in-Scan.kind c.in-Scan.lo c.in-Scan.hi) c.in-Scan.is c.answer_scan.result c.answer_scan.ensures.ok

pub returns-in-Scan-clause-fault : goal.returns-in-Scan-clause-fault
returns-in-Scan-clause-fault g c =
    let s = c.args.series.now in
    told_err (λ queries command reply. Told (known_of s queries) command reply (known_of s queries)) (PutsFront g.W.Write.contents c.args.buffer.now c.answer_scan.new.buffer) c.args.queries.now.queries c.args.command
    (Scan c.in-Scan.inclusive c.in-Scan.kind c.in-Scan.lo c.in-Scan.hi) c.in-Scan.is c.answer_scan.result c.answer_scan.ensures.fault
