-- Proof of the closure that `fold_pieces` hands to `fold`, called by `FnOnce`.
use Rattle.lv_reduce.proofs.parallel.slices.fn.fold_pieces.fold+FnOnce.call_once.Goals as goal

-- what the closure asks is what this call of it asks
pub fold-requires : goal.fold-requires
fold-requires g c =
    let asked = c.requires.1.1 in
    let sends = asked.1 in
    (sends.0, (sends.1, (sends.2, (sends.3, asked.0))))
