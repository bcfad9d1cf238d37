-- Proof of `Standing::vet`: whether an outcome may be accepted.
use Rattle.lv_standing.proofs.standing.Standing.vet.Goals as goal

pub returns : goal.returns
returns c = rw (← c.self.view_is) c.vet.ensures
