-- Proof of `lesser`: the queue with the answer of the least edit, with one queue more.
use Rattle.lv_transcript.proofs.JoinedAnswers.{empty_fits, finds_kept, later_fits}
use Rattle.lv_transcript.proofs.queues.lesser.Goals as goal

pub returns-in_default : goal.returns-in_default
returns-in_default c = λ lists long found. finds_kept lists c.args.queue.now c.args.found found (empty_fits c.args.queue.now c.args.found c.in_default.ensures)

pub returns-then-least-edit : goal.returns-then-least-edit
returns-then-least-edit c = λ lists long found. finds_kept lists c.args.queue.now c.args.found found (rw c.in-Some-found.is (later_fits c.args.queue.now c.in-Some.edit c.in-Some-found.least c.in-Some.ensures c.if-least-edit.true))
