-- Proof of `Live::keeps`: says what every vector keeps, to a caller who sees no invariant: it is a live one.
use Rattle.lv_live.proofs.live.Live.keeps.Goals as goal

pub returns : goal.returns
returns g c = rw (← c.self.view_is) c.self.invariant
