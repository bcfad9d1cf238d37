-- Proof of `make_room`: makes room for all that can be asked of `after` elements, if there are more of them than before.
use Rattle.lv_tree.proofs.KeptLaws.{HaveRoomFor-fewer, KeepsAlike-same}
use Rattle.lv_standing.proofs.beside.make_room.Goals as goal

pub returns-then-after-size-clause-alike : goal.returns-then-after-size-clause-alike
returns-then-after-size-clause-alike c = KeepsAlike-same c.args.kinds.now

pub returns-then-after-size-clause-ok : goal.returns-then-after-size-clause-ok
returns-then-after-size-clause-ok c = HaveRoomFor-fewer c.args.kinds.now c.args.size c.args.after c.if-after-size.true c.requires.room
