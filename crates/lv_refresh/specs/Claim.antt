-- Which job comes next.
use Rattle.std.specs.Prelude.{◌≡◌, ℕ, ◌<◌, Bool, true, false, ◌&&◌, ◌||◌, not, Option, Some, None, ◌⊎◌, nat_eq}
use Rattle.std.specs.List.{list_all, range_with_len}
use Rattle.lv_geometry.specs.declared.nodes.Node.{Node}
use Rattle.lv_geometry.specs.Nodes.{child}
use Rattle.lv_edits.specs.Touch.{is_whole, touched_by}
use Rattle.lv_refresh.specs.Record.{Record, is_fresh, is_version}

-- whether all eight children of a node are fresh
abbrev pub children_fresh : Record → Node → Bool
children_fresh r n = list_all (λ k. is_fresh r (child n k)) (range_with_len 0 8)

-- whether a node wants a job: it is whole and not fresh, isn't claimed at the number of the edit that touched it last, and above level 1 its
-- eight children are fresh
abbrev pub wants_job : Record → Node → Bool
wants_job r n =
    is_whole r.edits n && not (is_fresh r n) && not (is_version (touched_by r.edits n) (r.claimed n)) && (nat_eq n.level 1 || children_fresh r n)

-- the order in which nodes are served: by level, and then by number
abbrev pub Before : Node → Node → Type 0
Before n m = (n.level < m.level) ⊎ ((n.level ≡ m.level) × (n.number < m.number))

-- the least node that wants a job, with the number of the edit that touched it last; none if no node wants one
abbrev pub IsNextJob : Record → Option (Node × ℕ) → Type 0
IsNextJob r None = (n : Node) → wants_job r n ≡ false
IsNextJob r (Some job) = (wants_job r job.0 ≡ true) × (job.1 ≡ touched_by r.edits job.0) × ((m : Node) → Before m job.0 → wants_job r m ≡ false)
