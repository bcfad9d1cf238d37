-- Proof of `descriptors_tell_the_edit`: the update between two successive descriptors is determined by these descriptors.
use Rattle.lv_machine.proofs.ReadLaws.{between}
use Rattle.lv_machine.proofs.laws.descriptors_tell_the_edit.Goals as goal

pub returns : goal.returns
returns c = between
