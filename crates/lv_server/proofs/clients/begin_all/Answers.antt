-- Proof of `begin_all`: gives each session a part of the hub that has seen what the share has.
use Rattle.std.proofs.Common.{◌≡◌, map, subst}
use Rattle.lv_server.specs.Tasks.{begun_at}
use Rattle.lv_server.proofs.clients.begin_all.Goals as goal

-- what the share has seen is as before
pub returns-clause-sessions : goal.returns-clause-sessions
returns-clause-sessions g c =
    subst (λ es. c.in_ok-tasks.tasks.items ≡ map (λ s. begun_at es (record { lines = g.F.Read.remaining s.lines; replies = g.F.Write.contents s.replies })) c.args.clients.streams.items)
    c.in_ok-watchers.ensures.seen c.in_ok-tasks.ensures.begun
