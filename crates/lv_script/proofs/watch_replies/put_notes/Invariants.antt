-- What the loop keeps in `put_notes`: each note on a line.
use Rattle.std.proofs.Common.{◌≡◌, ◌+◌, ◌-◌, ◌*◌, ◌≤◌, ◌++◌, length, take, vec_capacity, vec_len}
use Rattle.lv_script.specs.Script.{notes_text}
use Rattle.lv_script.proofs.watch_replies.put_notes.Given as goal

abbrev pub invariant-loop-note : goal.invariant-loop-note
invariant-loop-note l =
    (l.held.items ≡ l.initial.held.items ++ notes_text (take l.note-index l.notes))
    × (vec_len l.held + 256 * (length l.notes - l.note-index) ≤ vec_capacity l.held)
    × (vec_capacity l.initial.held ≤ vec_capacity l.held)
    × (l.notes ≡ l.initial.notes)
