-- What the loop keeps in `reserve_later`: makes memory for the pieces behind the first that so many items need.
use Rattle.std.proofs.Common.{◌≡◌, ℕ, ◌+◌, length}
use Rattle.lv_summary.specs.Inner.{later_item}
use Rattle.lv_summary.proofs.late_rows.reserve_later.Given as goal

-- a piece was added each time, and nothing written
abbrev pub invariant-loop-piece : goal.invariant-loop-piece
invariant-loop-piece g l = record { same : (number : ℕ) (blank : g.row.S.Denot) → later_item l.later.items number blank ≡ later_item l.initial.later.items number blank; more : length l.later.items ≡ length l.initial.later.items + l._piece }
