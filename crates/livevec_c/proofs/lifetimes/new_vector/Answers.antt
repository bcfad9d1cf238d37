-- Proof of `new_vector`: a new vector in a place of its own, of one kind or of all six.
use Rattle.livevec_c.proofs.lifetimes.new_vector.Goals as goal

pub returns : goal.returns
returns c =
    let e = c.new.ensures in
    (c.new.result, c.in_ok-new.ensures.ok, record { table_is = e.table; history = e.history; within = e.limits; unclaimed = e.unclaimed; nothing_kept = e.nothing_kept })
