-- What the loop keeps in `WaitedWrite::flush`.
use Rattle.std.specs.Io.KnownBytes.{Keeps}
use Rattle.lv_files.proofs.waited.WaitedWrite.flush.Given as goal

-- nothing was lost so far
abbrev pub invariant-loop-times : goal.invariant-loop-times
invariant-loop-times g l = Keeps (g.W.Write.contents l.initial.self.stream) (g.W.Write.contents l.self.stream)
