-- What the loop keeps in `note_all`, which notes each question for whose value a note is due, in the first of the notes' places, and returns how
-- many these are.
use Rattle.std.proofs.Common.{take}
use Rattle.livevec_c.specs.Queried.{NotesInto}
use Rattle.livevec_c.proofs.queries_notes.note_all.Given as goal

abbrev pub invariant-loop-i : goal.invariant-loop-i
invariant-loop-i g l = NotesInto (g.A.Target.seen l.asked) (take l.i l.questions) (take l.i l.told) (take l.i l.values) l.initial.notes l.count l.notes
