-- Proof of `Replay::make`: makes an edit that is possible.
use Rattle.lv_transcript.proofs.KeptLaws.{kept-push}
use Rattle.lv_transcript.proofs.plain_ranges.Replay.make.Goals as goal

pub returns-in_ok-push-in-Push-clause-kept : goal.returns-in_ok-push-in-Push-clause-kept
returns-in_ok-push-in-Push-clause-kept c = rw c.in_ok-push-in-Push.ensures.items (kept-push _ _ _ c.requires.kept)
