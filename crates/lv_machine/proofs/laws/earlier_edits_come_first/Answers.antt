-- Proof of `earlier_edits_come_first`: the updates of an earlier history are the first of those of a later one.
use Rattle.lv_machine.proofs.ReadLaws.{earlier_edits}
use Rattle.lv_machine.proofs.laws.earlier_edits_come_first.Goals as goal

pub returns : goal.returns
returns c = earlier_edits
