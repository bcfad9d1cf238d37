-- What the loop keeps in `put_all`: puts values into the cells from an index on, and the number of the edit of each for its block.
use Rattle.std.proofs.Common.{◌≡◌, take}
use Rattle.std.specs.Prelude.{All}
use Rattle.lv_geometry.specs.Elements.{IsElement}
use Rattle.lv_store.specs.Directory.{with_run}
use Rattle.lv_store.specs.State.{with_versions}
use Rattle.lv_store.proofs.pushing.put_all.Given as goal

-- the values so far are in their cells, and their edits' numbers at their blocks
abbrev pub invariant-loop-k : goal.invariant-loop-k
invariant-loop-k l = record {
  values : l.values ≡ record l.fn.values { cells = with_run l.fn.values.cells l.size (take l.k l.xs) };
  versions : l.versions.items ≡ with_versions l.fn.versions.items l.size l.edit (take l.k l.xs);
  elements : All IsElement (take l.k l.xs);
}
