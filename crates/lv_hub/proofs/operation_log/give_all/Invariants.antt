-- Loop invariants of `give_all`: gives entries to a transcript writer.
use Rattle.std.proofs.Common.{map, take}
use Rattle.lv_transcript.specs.Transcribing.{Adds, state_with}
use Rattle.lv_hub.specs.Logging.{entry_of}
use Rattle.lv_hub.proofs.operation_log.give_all.Given as goal

-- the entries so far were given
abbrev pub invariant-loop-entry : goal.invariant-loop-entry
invariant-loop-entry g l =
    Adds (state_with (g.W.Write.contents l.initial.writer) l.initial.transcript) (map entry_of (take l.entry-index l.entries)) (state_with (g.W.Write.contents l.writer) l.transcript)
