-- Proof of `refresh_of`: a refresh of an object.
use Rattle.std.proofs.Common.{refl}
use Rattle.livevec_c.proofs.jobs.refresh_of.Goals as goal

pub returns-in-Vector : goal.returns-in-Vector
returns-in-Vector c =
    let e = c.refresh.ensures in
    rw c.in-Vector.is (c.refresh.new.self, refl, record { granted = refl; turns = e.turns; most = e.most; idle = e.idle })
