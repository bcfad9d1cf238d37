-- Loop invariants of `take_back`: takes the parts back, and collects the reductions in the order of the sessions in `room`, which is empty.
use Rattle.std.proofs.Common.{map}
use Rattle.lv_transcript.specs.Joined.{in_a_row}
use Rattle.lv_server.specs.Tasks.{TakesBack}
use Rattle.lv_server.proofs.clients.take_back.Given as goal

abbrev pub invariant-loop-session : goal.invariant-loop-session
invariant-loop-session g l =
    (goal.iterator-loop-session g).can_next l.session-iterator ×
    (goal.iterator-loop-session g).is_finite l.session-iterator ×
    TakesBack l.fn.share l.share l.yielded (in_a_row l.answers.items) (map (λ s. record { lines = g.F.Read.remaining s.lines; replies = g.F.Write.contents s.replies }) l.streams.items)
