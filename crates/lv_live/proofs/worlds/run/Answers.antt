-- Proof of `run`: plays a list of events, and gives the reply to each.
use Rattle.std.proofs.Common.{ap, ◌∙◌}
use Rattle.lv_live.proofs.worlds.run.Goals as goal

-- the room that was made is for jobs, and of no world a part
pub invariant_of-world : goal.invariant_of-world
invariant_of-world g c = rw c.make_room.ensures.jobs c.world.invariant

pub returns-in_default-make_room-clause-unchanged : goal.returns-in_default-make_room-clause-unchanged
returns-in_default-make_room-clause-unchanged g c =
    ap (λ jobs. record { live = c.world.inside.live; jobs = jobs }) c.make_room.ensures.jobs ∙ c.world.view_is
