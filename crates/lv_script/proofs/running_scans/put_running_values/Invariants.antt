-- What the loop keeps in `put_running_values`: the value of the running fold by a body of one kind at each element, each on a line of its own.
use Rattle.std.proofs.Common.{◌≡◌, take}
use Rattle.lv_bodies.specs.Body.{fold_of}
use Rattle.lv_bodies.specs.Plain.{plain_value}
use Rattle.lv_lines.specs.Output.{Puts, SamePlaces}
use Rattle.lv_script.proofs.ScanLemmas.{values_before}
use Rattle.lv_script.proofs.running_scans.put_running_values.Given as goal

-- the fold of the elements so far, whose values are written
abbrev pub invariant-loop-i : goal.invariant-loop-i
invariant-loop-i g l = record {
  fold : l.sum ≡ fold_of (g.K.Body.operations l.body) (take l.i (g.E.Elements.list l.elements));
  written : Puts g.W.Write.contents l.initial.buffer l.buffer (values_before (plain_value g.K.OfKind.told_kind) l.inclusive (g.E.Elements.list l.elements) l.i);
  places : SamePlaces l.initial.buffer l.buffer;
}
