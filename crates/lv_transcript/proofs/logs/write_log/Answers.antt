-- Proof of `write_log`: writes a log of elements, without edits after.
use Rattle.std.proofs.lemmas.Result.{on_ok_weaker}
use Rattle.lv_transcript.proofs.LogTexts.{log_is_sound}
use Rattle.lv_transcript.proofs.logs.write_log.Goals as goal

pub returns-in-Ok-clause-sound : goal.returns-in-Ok-clause-sound
returns-in-Ok-clause-sound g c =
    on_ok_weaker c.write_elements.result (log_is_sound c.args.heading c.args.elements.now c.in-Ok.ensures.numbers c.requires.count c.requires.few) c.write_elements.ensures.elements
