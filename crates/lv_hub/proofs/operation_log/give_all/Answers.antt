-- Proof of `give_all`: gives entries to a transcript writer.
use Rattle.std.proofs.Common.{arith, pos}
use Rattle.lv_edits.specs.declared.edit.Edit.TheVariants.{Push}
use Rattle.lv_hub.specs.declared.log_entry.LogEntry.{LogEntry}
use Rattle.lv_hub.specs.declared.log_entry.LogEntry.TheVariants as logged
use Rattle.lv_hub.specs.Logging.{entry_of}
use Rattle.lv_transcript.proofs.TranscribedFronts.{adds_next}
use Rattle.lv_hub.proofs.operation_log.give_all.Goals as goal

-- the value that is taken for an entry past the end
abbrev past : LogEntry
past = logged.Edit (Push (pos 0))

pub loop-entry-preserved : goal.loop-entry-preserved
loop-entry-preserved g c =
    adds_next entry_of c.args.entries.now c.loop-entry.entry-index past _ _ _ (omega arith) c.loop-entry.invariant c.give.ensures
