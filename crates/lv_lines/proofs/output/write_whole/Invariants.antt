-- What the loop keeps in `write_whole`: what went out and what is left are the bytes.
use Rattle.std.proofs.Common.{[], length}
use Rattle.lv_lines.specs.Output.{Writes}
use Rattle.lv_lines.proofs.output.write_whole.Given as goal

-- what was written, and then the rest, is all
abbrev pub invariant-loop-rest : goal.invariant-loop-rest
invariant-loop-rest g l = Writes (g.W.Write.contents l.fn.writer) l.bytes (g.W.Write.contents l.writer) l.rest []

abbrev pub decreases-loop-rest : goal.decreases-loop-rest
decreases-loop-rest g l = length l.rest
