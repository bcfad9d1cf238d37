-- What the loop keeps in `put_run`: puts summaries in rows side by side, from one on.
use Rattle.std.proofs.Common.{◌≡◌, slice_get}
use Rattle.lv_summary.specs.Inner.{HasItems}
use Rattle.lv_summary.proofs.level.put_run.Given as goal

-- the first k of them were put
abbrev pub invariant-loop-k : goal.invariant-loop-k
invariant-loop-k g l = record { put : HasItems l.initial.kept.items l.kept.items l.first l.k (slice_get l.summaries); blank : l.kept.blank ≡ l.initial.kept.blank }
