-- What becomes of an outcome when it is delivered.
use Rattle.std.specs.Prelude.{ℕ, ◌&&◌, nat_eq, if◌then◌else◌}
use Rattle.lv_geometry.specs.declared.nodes.Node.{Node}
use Rattle.lv_summary.specs.declared.accepted.Accepted.{Accepted}
use Rattle.lv_summary.specs.declared.accepted.Accepted.TheVariants.{Installed, Held, Stale}
use Rattle.lv_edits.specs.Touch.{is_whole, touched_by}
use Rattle.lv_refresh.specs.Record.{Record, is_version}

-- stale if the node isn't whole, or was touched by another edit last; else held if the version is kept; else installed
abbrev pub delivery_of : Record → Node → ℕ → Accepted
delivery_of r n v =
    if is_whole r.edits n && nat_eq (touched_by r.edits n) v then (if is_version v (r.kept n) then Held else Installed) else Stale (touched_by r.edits n)
