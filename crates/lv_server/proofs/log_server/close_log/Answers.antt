-- Proof of `close_log`: closes a hub, ends its log, and returns the log's last file.
use Rattle.std.proofs.Common.{◌∙◌, ap, map, sym}
use Rattle.std.proofs.lemmas.Simd.{map-map}
use Rattle.lv_server.proofs.LogServedLaws.{closes_log, tells_once, well_logged}
use Rattle.lv_server.proofs.ServedLaws.{begins, if_some}
use Rattle.lv_server.proofs.log_server.close_log.Goals as goal

-- what was recorded is a prefix of the updates
pub end_log-file-requires : goal.end_log-file-requires
end_log-file-requires g c =
    if_some c.args.log
    (λ m begun. begins m.seen c.shown-share.result.seen c.finish-live.result.1 begun c.finish-live.ensures.seen)
    c.shown-share.ensures.recorded

pub returns-clause-closed : goal.returns-clause-closed
returns-clause-closed g c =
    well_logged _ c.end_log-file.result.1 c.logged.result c.logged.ensures
    (closes_log g.V.LogWriter.made g.V.Write.contents g.K.Begun.there g.K.Begun.start g.N.Naming.limits g.N.Naming.numbers c.args.share c.shown-share.result c.finish-live.result.0.history c.finish-live.result.1 c.args.leaving.left.items _ c.end_log-file.result.0 c.end_log-file.result.1
    c.finish-live.ensures.closed (ap (λ h. h.count) c.shown-share.ensures.same) c.shown-share.ensures.more c.finish-live.ensures.seen c.finish-live.ensures.counted
    (c.tell-watched.ensures.last c.finish-live.result.1 (sym c.count.ensures.count) c.finish-live.ensures.closed.list) c.end_log-file.ensures.ends)

-- no last note is sent unless its updates are recorded
pub returns-clause-waits : goal.returns-clause-waits
returns-clause-waits g c =
    let watched = c.tell-watched.result.items in
    tells_once g.V.LogWriter.made g.V.Write.contents g.K.Begun.there g.K.Begun.start g.N.Naming.limits g.N.Naming.numbers c.finish-live.result.1 c.args.leaving.left.items (map (λ w. w.notices) watched) c.end_log-file.result.0 c.end_log-file.result.1 c.is_ok.result
    c.is_ok.ensures.value (λ so. map-map (λ n. n.contents) (λ w. w.notices) watched ∙ c.tell-watched.ensures.unrecorded so)
    (c.tell-watched.ensures.last c.finish-live.result.1 (sym c.count.ensures.count) c.finish-live.ensures.closed.list) c.end_log-file.ensures.ends
