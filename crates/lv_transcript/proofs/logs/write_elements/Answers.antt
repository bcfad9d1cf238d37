-- Proof of `write_elements`: writes a log by a writer that was given nothing yet.
use Rattle.std.proofs.Common.{sym, ◌∙◌}
use Rattle.lv_transcript.specs.Transcribing.{state_with}
use Rattle.lv_transcript.proofs.LogTexts.{log_given, log_unwritten, log_written}
use Rattle.lv_transcript.proofs.logs.write_elements.Goals as goal

pub returns-then-has_failed-clause-text : goal.returns-then-has_failed-clause-text
returns-then-has_failed-clause-text g c =
    let contents = g.W.Write.contents in
    let given = log_given c.args.heading c.args.elements.now (state_with (contents c.args.writer.now) c.args.log) (state_with (contents c.pushes.new.writer) c.pushes.new.self)
    (state_with (contents c.flush.new.writer) c.flush.new.self) (c.requires (contents c.args.writer.now)) c.pushes.ensures.added c.flush.ensures.rests in
    log_unwritten c.args.heading c.args.elements.now _ _ _ _ given

pub returns-clause-text : goal.returns-clause-text
returns-clause-text g c =
    let contents = g.W.Write.contents in
    let given = log_given c.args.heading c.args.elements.now (state_with (contents c.args.writer.now) c.args.log) (state_with (contents c.pushes.new.writer) c.pushes.new.self)
    (state_with (contents c.flush.new.writer) c.flush.new.self) (c.requires (contents c.args.writer.now)) c.pushes.ensures.added c.flush.ensures.rests in
    let fine = sym c.has_failed.ensures ∙ c.if-has_failed.false in
    log_written c.args.heading c.args.elements.now _ _ _ _ fine (c.flush.ensures.sent fine) given
