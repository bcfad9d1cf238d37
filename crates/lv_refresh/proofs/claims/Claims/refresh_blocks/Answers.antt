-- Proof of `Claims::refresh_blocks`.
use Rattle.std.proofs.Common.{◌≡◌, ◌+◌, ◌*◌, arith, sym, subst}
use Rattle.lv_refresh.specs.Sweep.{Sweeps}
use Rattle.lv_refresh.proofs.SweepLaws.{sweeps_start, sweeps_then}
use Rattle.lv_refresh.proofs.claims.Claims.refresh_blocks.Goals as goal

pub loop-word-init : goal.loop-word-init
loop-word-init g c =
    record {
      sweeps = sweeps_start (g.B.Body.operations c.args.body.now) c.args.history.now.journal c.args.table.now c.args.self.now _ c.in-Some.first (sym c.self.view_is) c.requires.agrees c.requires.hints c.requires.grown c.in-Some.ensures.some.least;
      few = omega arith;
    }

pub loop-word-preserved : goal.loop-word-preserved
loop-word-preserved g c =
    let next : 64 * c.loop-word.word + 64 ≡ 64 * (c.loop-word.word + 1) = omega arith in
    record {
      sweeps = subst (Sweeps (g.B.Body.operations c.args.body.now) c.args.history.now.journal c.args.table.now c.refresh_word-done.new.table c.args.self.now c.refresh_word-done.new.self (c.loop-word.done + c.refresh_word-done.result)) next (
          sweeps_then (g.B.Body.operations c.args.body.now) c.args.history.now.journal c.args.table.now c.loop-word.table c.refresh_word-done.new.table c.args.self.now c.loop-word.self c.refresh_word-done.new.self
          c.loop-word.done c.refresh_word-done.result (64 * c.loop-word.word) (64 * c.loop-word.word + 64) c.loop-word.invariant.sweeps c.refresh_word-done.ensures.sweeps);
      few = omega (arith, c.loop-word.invariant.few, c.if-jobs-done-lt64.false, c.refresh_word-done.ensures.few);
    }
