-- What the loop keeps in `LineReader::push_bytes`: takes bytes of the input: has the lines that they end answered, and keeps what they leave.
use Rattle.std.proofs.Common.{◌≡◌, ◌+◌, ◌^◌, ◌<◌, ℕ, List, ◌++◌, length}
use Rattle.lv_lines.specs.Output.{SamePlaces}
use Rattle.lv_lines.specs.LineReader.{IsReady, PushesBytes, point_of}
use Rattle.lv_lines.proofs.line_reader.LineReader.push_bytes.Given as goal

-- the bytes before the rest were fed
abbrev pub invariant-loop-end : goal.invariant-loop-end
invariant-loop-end g l =
    record {
      done : List ℕ;
      cut : l.bytes ≡ done ++ l.rest;
      fed : PushesBytes g.A.LineHandler.step (point_of (g.A.LineHandler.state l.fn.handler) l.fn.self g.W.Write.contents l.fn.buffer)
          (point_of (g.A.LineHandler.state l.handler) l.self g.W.Write.contents l.buffer) done;
      ready : IsReady l.self;
      places : SamePlaces l.fn.buffer l.buffer;
      number : l.self.number + length l.rest < 2 ^ 32;
    }

abbrev pub decreases-loop-end : goal.decreases-loop-end
decreases-loop-end g l = length l.rest
