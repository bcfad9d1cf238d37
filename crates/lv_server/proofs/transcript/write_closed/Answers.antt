-- Proof of `write_closed`: closes a hub, writes its transcript with the writer that was made for it, ends its log, and returns the log's file.
use Rattle.std.proofs.Common.{◌≡◌, ◌∙◌, All, IfOk, IfSome, Option, ap, map, refl, subst, sym}
use Rattle.std.proofs.lemmas.Simd.{map-map}
use Rattle.lv_transcript.specs.Transcript.{AreAccepted, IsTrueAnswer, greatest}
use Rattle.lv_transcript.specs.Logs.{LogThere}
use Rattle.lv_hub.specs.Logging.{WroteWhole}
use Rattle.lv_hub.proofs.TruthLaws.{all_true_of_more}
use Rattle.lv_transcript.specs.Joined.{in_a_row}
use Rattle.lv_server.proofs.LogServedLaws.{tells_once}
use Rattle.lv_server.proofs.RecordingLaws.{records_so, whole_so}
use Rattle.lv_server.proofs.ServedLaws.{begins, closed_more, closed_so, closes_ill, closes_well, if_some}
use Rattle.lv_server.proofs.BesideLaws.{closes_telling}
use Rattle.lv_server.proofs.transcript.write_closed.Goals as goal

pub write_in_order-written-requires-clause-accepted : goal.write_in_order-written-requires-clause-accepted
write_in_order-written-requires-clause-accepted g c = subst (AreAccepted greatest) (sym c.journal.ensures) c.finish-live.ensures.closed.accepted

-- what is true of what the share has seen is true of the journal
pub write_in_order-written-requires-clause-all_true : goal.write_in_order-written-requires-clause-all_true
write_in_order-written-requires-clause-all_true g c =
    let share = c.args.share.seen in
    let edits = c.finish-live.result.1 in
    let same : c.journal.result.now ≡ edits = c.journal.ensures ∙ ap (λ h. h.journal) (c.finish-live.ensures.closed.one c.requires.one) in
    subst (λ es. All (IsTrueAnswer es) (in_a_row c.args.queues.now.items)) (sym same)
    (all_true_of_more share edits (in_a_row c.args.queues.now.items) (begins share c.shown-share.result.seen edits c.shown-share.ensures.more c.finish-live.ensures.seen) c.requires.all_true)

-- it was written if nothing failed
pub returns-clause-written : goal.returns-clause-written
returns-clause-written g c =
    let share = c.shown-share.result in
    let closed = closed_more g.N.Naming.limits c.args.share share (in_a_row c.args.queues.now.items) _ _ c.write_in_order-written.result (ap (λ h. h.count) c.shown-share.ensures.same) c.shown-share.ensures.more
    (closed_so g.N.Naming.limits share c.finish-live.result.0.history c.finish-live.result.1 (in_a_row c.args.queues.now.items) c.journal.result.now _ _ c.write_in_order-written.result c.requires.one c.finish-live.ensures.closed c.journal.ensures
    c.finish-live.ensures.seen c.finish-live.ensures.counted c.write_in_order-written.ensures) in
    closes_well g.N.Naming.limits c.args.share (in_a_row c.args.queues.now.items) _ _ c.write_in_order-written.result c.first_failure.result c.first_failure.ensures.well closed

-- and not if something failed
pub returns-clause-failed : goal.returns-clause-failed
returns-clause-failed g c =
    let share = c.shown-share.result in
    let closed = closed_more g.N.Naming.limits c.args.share share (in_a_row c.args.queues.now.items) _ _ c.write_in_order-written.result (ap (λ h. h.count) c.shown-share.ensures.same) c.shown-share.ensures.more
    (closed_so g.N.Naming.limits share c.finish-live.result.0.history c.finish-live.result.1 (in_a_row c.args.queues.now.items) c.journal.result.now _ _ c.write_in_order-written.result c.requires.one c.finish-live.ensures.closed c.journal.ensures
    c.finish-live.ensures.seen c.finish-live.ensures.counted c.write_in_order-written.ensures) in
    closes_ill (λ failure. failure.fault) g.N.Naming.limits c.args.share (in_a_row c.args.queues.now.items) _ _ c.write_in_order-written.result c.first_failure.result c.first_failure.ensures.failed closed

-- what was recorded is a prefix of the updates
pub end_log-file-requires : goal.end_log-file-requires
end_log-file-requires g c =
    if_some c.args.log
    (λ m begun. begins m.seen c.shown-share.result.seen c.finish-live.result.1 begun c.finish-live.ensures.seen)
    c.shown-share.ensures.recorded

pub tell-watched-requires-clause-legal : goal.tell-watched-requires-clause-legal
tell-watched-requires-clause-legal g c = c.finish-live.ensures.closed.legal

-- the file has the journal of the transcript
pub returns-clause-recorded : goal.returns-clause-recorded
returns-clause-recorded g c =
    let edits = c.finish-live.result.1 in
    let same : c.journal.result.now ≡ edits = c.journal.ensures ∙ ap (λ h. h.journal) (c.finish-live.ensures.closed.one c.requires.one) in
    let whole = whole_so g.V.LogWriter.made g.V.Write.contents g.N.Naming.limits g.N.Naming.numbers g.K.Begun.there g.K.Begun.start edits c.end_log-file.result.0 c.end_log-file.result.1 c.requires.one c.end_log-file.ensures.ends in
    λ transcript.
    records_so g.V.Write.contents g.K.Begun.start edits c.journal.result.now edits (in_a_row c.args.queues.now.items) _ _ c.write_in_order-written.result c.end_log-file.result.1 c.first_failure.result c.end_log-file.result.0
    same refl c.first_failure.ensures.well c.first_failure.ensures.both c.write_in_order-written.ensures (subst (λ (log : Option LogThere). IfOk c.end_log-file.result.1 (λ done. IfSome c.end_log-file.result.0 (λ file. WroteWhole log g.K.Begun.start (g.V.Write.contents file) edits))) transcript whole)

-- the last notifications are of the journal too
pub returns-clause-told : goal.returns-clause-told
returns-clause-told g c =
    let edits = c.finish-live.result.1 in
    let same : c.journal.result.now ≡ edits = c.journal.ensures ∙ ap (λ h. h.journal) (c.finish-live.ensures.closed.one c.requires.one) in
    closes_telling c.args.share c.shown-share.result.seen edits c.journal.result.now (in_a_row c.args.queues.now.items) c.args.leaving.left.items _ _ _ c.write_in_order-written.result c.first_failure.result
    same c.shown-share.ensures.more c.finish-live.ensures.seen (c.tell-watched.ensures.last edits (sym c.count.ensures.count) c.finish-live.ensures.closed.list) c.first_failure.ensures.well c.write_in_order-written.ensures

-- no last note is sent unless its updates are recorded
pub returns-clause-waits : goal.returns-clause-waits
returns-clause-waits g c =
    let watched = c.tell-watched.result.items in
    tells_once g.V.LogWriter.made g.V.Write.contents g.K.Begun.there g.K.Begun.start g.N.Naming.limits g.N.Naming.numbers c.finish-live.result.1 c.args.leaving.left.items (map (λ w. w.notices) watched) c.end_log-file.result.0 c.end_log-file.result.1 c.is_ok.result
    c.is_ok.ensures.value (λ so. map-map (λ n. n.contents) (λ w. w.notices) watched ∙ c.tell-watched.ensures.unrecorded so)
    (c.tell-watched.ensures.last c.finish-live.result.1 (sym c.count.ensures.count) c.finish-live.ensures.closed.list) c.end_log-file.ensures.ends
