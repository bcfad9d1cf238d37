-- Proof of `Board::exchange_for`: the compare-and-swap for an update that nothing refuses at the look, whose pending write is complete.
use Rattle.std.proofs.Common.{subst}
use Rattle.lv_board.specs.Stands.{IsLook}
use Rattle.lv_board.proofs.Calling.{can_pack}
use Rattle.lv_board.proofs.board.Board.exchange_for.Goals as goal

pub look_after-new-requires : goal.look_after-new-requires
look_after-new-requires g c = can_pack c.args.self.now.terms c.args.seat.now.look c.args.seat.now.token.me.0.actor.seen c.args.edit c.args.self.now.basis (subst (λ z. IsLook z.buckets z.edits c.args.seat.now.look c.args.seat.now.token.me.0.actor.seen) c.requires.here.terms c.args.seat.now.looks) c.requires.short c.requires.index c.requires.free
