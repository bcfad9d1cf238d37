-- Proof of `OperationLog::new`: a log that was given nothing.
use Rattle.std.proofs.Common.{Option, ℕ, List, [], ◌∙◌, subst, sym}
use Rattle.lv_transcript.specs.Transcribing.{WasGivenOf, state_with}
use Rattle.lv_transcript.specs.Logs.{heading_of, there_of}
use Rattle.lv_hub.proofs.LogLaws.{in_file_begins}
use Rattle.lv_hub.proofs.operation_log.OperationLog.new.Goals as goal

pub invariant_of-result : goal.invariant_of-result
invariant_of-result g c =
    let log = g.K.Begun.there in
    let written = state_with (g.W.Write.contents c.with_first_line.new.writer) c.in_ok-transcript.transcript in (
      in_file_begins g.W.LogWriter.made g.N.Naming.limits g.N.Naming.numbers log g.K.Begun.start c.args.is_log written c.prefix.result c.requires.log c.requires.goes_on (c.prefix.ensures ∙ c.requires.seen)
          (subst (λ (k : Option (List ℕ)). WasGivenOf (heading_of log) (there_of log) k [] written) (sym c.requires.start) (c.in_ok-transcript.ensures.given log c.requires.log)),
      c.requires.log,
      c.requires.numbers,
      c.requires.lasts,
      c.in_ok-transcript.ensures.sent,
    )
