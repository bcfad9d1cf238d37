-- What the loop keeps in `note_each`: a note of each query, in order, whose answer is due.
use Rattle.std.proofs.Common.{◌≡◌, ◌≤◌, ◌+◌, length, take, vec_capacity, vec_len}
use Rattle.lv_standing.specs.QuerySets.{AddsDue}
use Rattle.lv_standing.proofs.query_set.note_each.Given as goal

abbrev pub invariant-loop-i : goal.invariant-loop-i
invariant-loop-i g l = record {
  notes : AddsDue g.Q.Question.terms_of (take l.i l.queries) (take l.i l.told) (take l.i l.answers) l.fn.notes.items l.notes.items;
  few : vec_len l.notes ≤ vec_len l.fn.notes + l.i;
  room : vec_len l.fn.notes + length l.queries ≤ vec_capacity l.notes;
  capacity : vec_capacity l.notes ≡ vec_capacity l.fn.notes;
}
