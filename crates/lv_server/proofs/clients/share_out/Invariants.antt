-- Loop invariants of `share_out`: gives each session a part of the hub, which has seen what the share has, and reserves memory for it.
use Rattle.std.proofs.Common.{◌≡◌, ◌+◌, vec_len, length, map}
use Rattle.lv_server.specs.Tasks.{begun_at}
use Rattle.lv_server.proofs.clients.share_out.Given as goal

abbrev pub invariant-loop-streams : goal.invariant-loop-streams
invariant-loop-streams g l =
    (goal.iterator-loop-streams g).can_next l.streams-iterator ×
    (goal.iterator-loop-streams g).is_finite l.streams-iterator ×
    (l.tasks.items ≡ map (λ s. begun_at l.fn.share.seen (record { lines = g.F.Read.remaining s.lines; replies = g.F.Write.contents s.replies })) l.yielded) ×
    (l.share.parts + length l.yielded ≡ vec_len l.fn.streams + 1) ×
    (l.share.count ≡ l.fn.share.count) ×
    (l.share.seen ≡ l.fn.share.seen)
