-- What the loop keeps in `read_lines`: reads chunks, and has the lines that they end answered, up to the end of the input.
use Rattle.std.proofs.Common.{◌≡◌, ◌+◌, ℕ, List, length}
use Rattle.std.specs.Io.KnownBytes.{Consumes}
use Rattle.lv_lines.specs.LineReader.{IsReady, PushesBytes, point_of, start_of}
use Rattle.lv_lines.proofs.line_loop.read_lines.Given as goal

-- the bytes that were seen were fed
abbrev pub invariant-reading : goal.invariant-reading
invariant-reading g l =
    record {
      seen : List ℕ;
      read : Consumes (g.R.Read.remaining l.fn.reader) (g.R.Read.remaining l.reader) seen;
      count : length seen + l.left ≡ l.most + 1;
      fed : PushesBytes g.A.LineHandler.step (start_of (g.A.LineHandler.state l.fn.handler) (g.W.Write.contents l.fn.writer))
          (point_of (g.A.LineHandler.state l.handler) l.line_reader g.W.Write.contents l.buffer) seen;
      ready : IsReady l.line_reader;
      place : l.buffer.writer.ghost_name ≡ l.initial.buffer.writer.ghost_name;
    }

abbrev pub decreases-reading : goal.decreases-reading
decreases-reading g l = l.left
