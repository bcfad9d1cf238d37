-- Proof of `end_log`: closes a hub, and ends its log with all updates.
use Rattle.std.proofs.Common.{◌++◌, ◌∙◌, append_assoc, ap, sym}
use Rattle.hub_tests.proofs.common.end_log.Goals as goal

-- what was recorded begins what the share has seen, and that all edits
pub end-requires : goal.end-requires
end-requires g c =
    let p = c.show.ensures.seen in
    let q = c.finish-live.ensures.seen in
    (p.0 ++ q.0, sym (append_assoc c.args.log.seen p.0 q.0) ∙ (ap (λ w. w ++ q.0) p.1 ∙ q.1))
