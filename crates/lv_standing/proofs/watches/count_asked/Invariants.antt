-- What the loop keeps in `count_asked`: how many queries have an element that changed.
use Rattle.std.proofs.Common.{◌≡◌, ◌≤◌, length, take}
use Rattle.lv_standing.specs.Inner.{asked}
use Rattle.lv_standing.proofs.watches.count_asked.Given as goal

abbrev pub invariant-loop-query : goal.invariant-loop-query
invariant-loop-query l = record {
  counted : l.count ≡ length (asked l.changed (take l.query-index l.queries));
  few : l.count ≤ l.query-index;
}
