-- Proof of the closure that `scan_pieces` hands to `par_chunks_mut_for_each`, called by `FnOnce`.
use Rattle.lv_reduce.proofs.parallel.slices.fn.scan_pieces.par_chunks_mut_for_each+FnOnce.call_once.Goals as goal

-- what the closure asks is what this call of it asks
pub par_chunks_mut_for_each-requires : goal.par_chunks_mut_for_each-requires
par_chunks_mut_for_each-requires g c =
    let asked = c.requires.1.1 in
    let sends = asked.1 in
    (sends.0, (sends.1, (sends.2, (sends.3, asked.0))))
