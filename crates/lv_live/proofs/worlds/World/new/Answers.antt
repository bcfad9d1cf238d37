-- Proof of `World::new`: an empty vector, and no jobs.
use Rattle.std.proofs.lemmas.List.Elements.{All-nil}
use Rattle.lv_live.proofs.worlds.World.new.Goals as goal

pub invariant_of-result : goal.invariant_of-result
invariant_of-result g c = record { limits = c.new.ensures.limits; own = rw c.new-2.ensures.jobs (All-nil _) }
