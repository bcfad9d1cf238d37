-- Proof of `restore_script`: makes the edits of a transcript's front anew, then answers a script as `run_script` does, from these edits on.
use Rattle.std.proofs.Common.{refl}
use Rattle.lv_script.proofs.restored.restore_script.Goals as goal

pub resume_found-requires : goal.resume_found-requires
resume_found-requires g c = let r = c.in-Ok.ensures in (r.0, r.1.seen, r.1.ends)

pub returns-in-Ok : goal.returns-in-Ok
returns-in-Ok g c =
    let r = c.in-Ok.ensures in
    record { rest = r.0; seen = r.1.seen; read = r.1.read; few = r.1.few; ends = c.resume_found.ensures r.0 r.1.seen r.1.ends }

pub returns-in-Err : goal.returns-in-Err
returns-in-Err g c =
    let r = c.in-Err.ensures in
    record { rest = r.0; seen = r.1.seen; read = r.1.read; few = r.1.few; ends = (r.1.ends, (refl, refl)) }
