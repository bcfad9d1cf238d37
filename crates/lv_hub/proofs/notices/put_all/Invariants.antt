-- Loop invariants of `put_all`: puts the lines of notes at an edit number.
use Rattle.std.proofs.Common.{take}
use Rattle.lv_lines.specs.Output.{Puts, SamePlaces}
use Rattle.lv_hub.specs.Noticing.{notes_at}
use Rattle.lv_hub.proofs.notices.put_all.Given as goal

-- the lines so far are put
abbrev pub invariant-loop-note : goal.invariant-loop-note
invariant-loop-note g l = record {
  written : Puts g.W.Write.contents l.initial.buffer l.buffer (notes_at l.edit (take l.note-index l.notes));
  places : SamePlaces l.initial.buffer l.buffer;
}
