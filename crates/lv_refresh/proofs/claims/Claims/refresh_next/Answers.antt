-- Proof of `Claims::refresh_next`: refreshes the least node that wants a job: claims it, as `claim` would, keeps its summary, computed without
-- copying its contents, and hints at its parent.
use Rattle.std.proofs.Common.{None}
use Rattle.lv_refresh.proofs.ComputeLaws.{due_served, hints_refreshed, ready_served, refreshes}
use Rattle.lv_refresh.proofs.NextLaws.{AreHints-served, HintsWants-from, IsNextJob-served}
use Rattle.lv_refresh.proofs.claims.Claims.refresh_next.Goals as goal

pub next-requires-clause-hints : goal.next-requires-clause-hints
next-requires-clause-hints g c = HintsWants-from _ _ _ c.requires.agrees _ c.requires.hints

pub returns-in_default-clause-idle : goal.returns-in_default-clause-idle
returns-in_default-clause-idle g c = λ none. IsNextJob-served _ _ c.args.table.now c.requires.agrees c.args.self.now c.next.new.self None c.in_default.ensures

pub returns-in_default-clause-hints : goal.returns-in_default-clause-hints
returns-in_default-clause-hints g c = AreHints-served _ _ c.args.table.now c.requires.agrees c.args.self.now c.next.new.self None c.in_default.ensures

pub refresh_node-requires-clause-due : goal.refresh_node-requires-clause-due
refresh_node-requires-clause-due g c κs within = due_served c.args.table.now c.args.self.now c.next.new.self c.in-Some.node c.in-Some.version c.in-Some.ensures

pub refresh_node-requires-clause-ready : goal.refresh_node-requires-clause-ready
refresh_node-requires-clause-ready g c κs within = ready_served c.args.table.now c.args.self.now c.next.new.self (c.in-Some.node, c.in-Some.version) c.in-Some.ensures

pub returns-clause-refreshed : goal.returns-clause-refreshed
returns-clause-refreshed g c = λ some.
    refreshes _ _ c.args.table.now c.requires.agrees c.args.self.now c.next.new.self c.refresh_node.new.claims c.in-Some.node c.in-Some.version c.in-Some.ensures c.refresh_node.ensures.hinted c.refresh_node.new.table c.refresh_node.ensures.keeps

pub returns-clause-hints : goal.returns-clause-hints
returns-clause-hints g c =
    hints_refreshed _ _ c.args.table.now c.requires.agrees c.args.self.now c.next.new.self c.refresh_node.new.claims c.in-Some.node c.in-Some.version c.in-Some.ensures c.refresh_node.ensures.hinted
