-- What the loop keeps in `Directory::open_to`: opens buckets until so many are open, with a blank in each of their cells.
use Rattle.std.proofs.Common.{◌≡◌, ◌≤◌, max}
use Rattle.lv_store.specs.Directory.{with_buckets}
use Rattle.lv_store.proofs.directories.Directory.open_to.Given as goal

-- the buckets before the next are open
abbrev pub invariant-loop : goal.invariant-loop
invariant-loop g l = record {
  opened : l.self ≡ with_buckets l.fn.self l.counter l.blank;
  from : l.before ≤ l.counter;
  few : l.counter ≤ max l.before l.buckets;
}
