-- What the loop keeps in `prepare_each`, which makes the missing trees of all kinds, and returns whether there was memory for them.
use Rattle.std.proofs.Common.{◌≡◌, take}
use Rattle.livevec_c.proofs.HeldLaws.{each_kind, with_trees}
use Rattle.livevec_c.proofs.series_asks.prepare_each.Given as goal

-- the kinds before have a tree
abbrev pub invariant-loop-kind : goal.invariant-loop-kind
invariant-loop-kind g l = l.held ≡ g.H.HasSeries.with_series (with_trees (take l.kind-index each_kind) (g.H.HasSeries.series_of l.fn.held)) l.fn.held
