-- Proof of `Claims::refresh_each`.
use Rattle.std.proofs.Common.{◌+◌, arith}
use Rattle.lv_refresh.proofs.SweepLaws.{sweeps_then}
use Rattle.lv_refresh.proofs.claims.Claims.refresh_each.Goals as goal

pub loop-number-preserved : goal.loop-number-preserved
loop-number-preserved g c =
    record {
      sweeps = sweeps_then (g.B.Body.operations c.args.body.now) c.args.history.now.journal c.args.table.now c.loop-number.table c.refresh_block-done.new.table c.args.self.now c.loop-number.self c.refresh_block-done.new.self
          c.loop-number.done c.refresh_block-done.result c.loop-number.number (c.loop-number.number + 1) c.loop-number.invariant.sweeps c.refresh_block-done.ensures.sweeps;
      few = omega (arith, c.loop-number.invariant.few, c.refresh_block-done.ensures.few);
    }
