-- Proof of `run_script`: answers a script: reads its lines, and writes the reply to each.
use Rattle.lv_script.proofs.scripts.run_script.Goals as goal

pub returns-clause-seen : goal.returns-clause-seen
returns-clause-seen g c =
    let seen = c.run_script_within.ensures.seen in (seen.0, seen.1, seen.2, seen.4)
