-- Proof of `deliver`: delivers what the job of a number gave, however late, and however often.
use Rattle.std.proofs.Common.{◌∙◌, sym}
use Rattle.lv_live.proofs.WorldLaws.{remade_job, step_delivery, step_no_job, world_delivery}
use Rattle.lv_live.proofs.playing.deliver.Goals as goal

pub deliver-requires-after_bounds : goal.deliver-requires-after_bounds
deliver-requires-after_bounds g c κs within =
    remade_job (g.B.Body.operations c.args.live.now.body) c.args.live.now c.args.issued.now.jobs c.args.k (c.in-Some.node, c.in-Some.version) c.requires.world (sym c.named.ensures ∙ c.in-Some.is)

pub returns-in-Some-clause-step : goal.returns-in-Some-clause-step
returns-in-Some-clause-step g c =
    rw (← c.deliver.ensures.accepted) at (step_delivery (g.B.Body.operations c.args.live.now.body) c.args.live.now c.deliver.new.self c.args.k (c.in-Some.node, c.in-Some.version) c.args.issued.now.jobs (sym c.named.ensures ∙ c.in-Some.is) (rw c.deliver.ensures.accepted at c.deliver.ensures.delivered))

pub returns-in-Some-clause-world : goal.returns-in-Some-clause-world
returns-in-Some-clause-world g c =
    world_delivery (g.B.Body.operations c.args.live.now.body) c.args.live.now c.deliver.new.self c.in-Some.node c.in-Some.version c.args.issued.now.jobs (rw c.deliver.ensures.accepted at c.deliver.ensures.delivered) c.requires.world

pub returns-in-None-clause-step : goal.returns-in-None-clause-step
returns-in-None-clause-step g c =
    step_no_job (g.B.Body.operations c.args.live.now.body) c.args.live.now c.args.k c.args.issued.now.jobs (sym c.named.ensures ∙ c.in-None.is)
