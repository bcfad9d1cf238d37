-- Proof of `hold_counted`: does this at a hub with a log, which it closes, and ends the log.
use Rattle.std.proofs.Common.{◌∙◌, ap, arith, is_some, subst, sym}
use Rattle.lv_transcript.specs.Logs.{MayGoOn, edits_there}
use Rattle.hub_tests.proofs.counted_flushes.hold_counted.Goals as goal

-- no log was there
pub begin-requires-clause-log : goal.begin-requires-clause-log
begin-requires-clause-log g c = sym (ap is_some c.requires.there)

pub begin-requires-clause-goes_on : goal.begin-requires-clause-goes_on
begin-requires-clause-goes_on g c = subst MayGoOn (sym c.requires.there) record { all_true = tt; elements = omega arith }

pub begin-requires-clause-seen : goal.begin-requires-clause-seen
begin-requires-clause-seen g c = ap (λ s. s.seen) c.new-hub.ensures.share ∙ sym (ap edits_there c.requires.there)
