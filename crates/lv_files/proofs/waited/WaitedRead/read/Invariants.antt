-- What the loop keeps in `WaitedRead::read`.
use Rattle.std.specs.Io.KnownBytes.{Keeps}
use Rattle.lv_files.proofs.waited.WaitedRead.read.Given as goal

-- nothing was read so far
abbrev pub invariant-loop-times : goal.invariant-loop-times
invariant-loop-times g l = Keeps (g.R.Read.remaining l.initial.self.stream) (g.R.Read.remaining l.self.stream)
