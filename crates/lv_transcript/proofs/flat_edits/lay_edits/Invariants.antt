-- What the loop keeps in `lay_edits`: puts edits into places, one into each.
use Rattle.std.proofs.Common.{◌≡◌, length, map, take}
use Rattle.lv_transcript.specs.FlatEdits.{flat_edit}
use Rattle.lv_transcript.proofs.flat_edits.lay_edits.Given as goal

-- the edits so far
abbrev pub invariant-loop-k : goal.invariant-loop-k
invariant-loop-k l =
    record {
      edits : take l.k l.places ≡ map flat_edit (take l.k l.edits);
      len : length l.places ≡ length l.initial.places;
    }
