-- Proof of `take_least`: takes the answer of the least edit, that of the first queue if several have one.
use Rattle.std.proofs.Common.{subst}
use Rattle.lv_transcript.specs.LeastFirst.{IsLeast}
use Rattle.lv_transcript.proofs.JoinedAnswers.{least_taken, none_in_a_row}
use Rattle.lv_transcript.proofs.queues.take_least.Goals as goal

pub returns-in-Some : goal.returns-in-Some
returns-in-Some c =
    least_taken c.in-Some.index c.in-Some.field-0-1 c.args.queues.now.items c.index_mut.result.now c.take_first.new.self c.take_first.result
    (subst (IsLeast c.in-Some.index c.in-Some.field-0-1) c.as_slice.ensures.value c.in-Some.ensures) c.index_mut.ensures.value c.take_first.ensures

pub returns-in-None : goal.returns-in-None
returns-in-None c = none_in_a_row c.args.queues.now.items (rw c.as_slice.ensures.value at c.in-None.ensures)
