-- Proof of `compact_log`: writes a log of exactly the elements that there are after all edits that were found.
use Rattle.lv_transcript.proofs.Compactions.{goes_on}
use Rattle.lv_transcript.proofs.compaction.compact_log.Goals as goal

pub returns-in-Ok-clause-goes_on : goal.returns-in-Ok-clause-goes_on
returns-in-Ok-clause-goes_on g c = goes_on c.args.found.now.heading c.args.found.now.edits.journal

pub returns-in-Err-clause-goes_on : goal.returns-in-Err-clause-goes_on
returns-in-Err-clause-goes_on g c = goes_on c.args.found.now.heading c.args.found.now.edits.journal
