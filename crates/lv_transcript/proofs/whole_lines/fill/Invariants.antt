-- What the loop keeps in `fill`: reads until some text waits, or to the end.
use Rattle.std.proofs.Common.{◌≡◌, ◌≤◌, [], length}
use Rattle.std.specs.Prelude.{vec_len, vec_capacity}
use Rattle.std.specs.Io.KnownBytes.{Keeps}
use Rattle.lv_transcript.specs.Unsealing.{text_left}
use Rattle.lv_transcript.proofs.whole_lines.fill.Given as goal

-- nothing was given so far, and nothing lost
abbrev pub invariant-times : goal.invariant-times
invariant-times g l = record {
  text : Keeps (text_left l.fn.lines.form l.fn.lines.hash l.fn.lines.kept.items l.fn.lines.ready.items (g.R.Read.remaining l.fn.reader))
      (text_left l.lines.form l.lines.hash l.lines.kept.items l.lines.ready.items (g.R.Read.remaining l.reader));
  chunk : vec_len l.chunk ≡ 65536;
  room : 65685 ≤ vec_capacity l.lines.ready;
  none : l.lines.ready.items ≡ [];
}
