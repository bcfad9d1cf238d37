-- The loop invariant of `tell`: the queries so far were brought up to the edit, and their answers reported.
use Rattle.std.proofs.Common.{◌≡◌, ◌+◌, ◌≤◌, length, drop, vec_capacity, vec_len}
use Rattle.lv_bodies.specs.Plain.{program_table}
use Rattle.lv_tree.specs.Kinds.{AreReady}
use Rattle.lv_standing.specs.Inner.{AddsNotesUpTo, AreToldUpTo, asked}
use Rattle.lv_standing.specs.Standings.{LeavesUnasked}
use Rattle.lv_standing.proofs.watches.tell.Given as goal

abbrev pub ghost-tell_one : goal.ghost-tell_one
ghost-tell_one g a = g.old

abbrev pub invariant-loop-i : goal.invariant-loop-i
invariant-loop-i g l =
    let new = l.live.history.journal in
    let queries = l.initial.set.queries in
    record {
      set : l.set ≡ record l.initial.set { told = l.set.told };
      told : AreToldUpTo g.old new l.i l.set l.summaries.items;
      notes : AddsNotesUpTo g.old new l.i queries l.initial.notes.items l.notes.items;
      room : vec_len l.notes + length (asked l.changed (drop l.i queries)) ≤ vec_capacity l.notes;
      kept : AreReady program_table new l.kinds;
      others : LeavesUnasked queries l.initial.kinds l.kinds;
    }
