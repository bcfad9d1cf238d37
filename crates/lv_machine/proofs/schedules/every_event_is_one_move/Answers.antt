-- Proof of `every_event_is_one_move`: a list of events from the start has one history: the updates whose compare-and-swap found the actor's look,
-- each with its actor.
use Rattle.lv_bodies.specs.Parts.{HasParts}
use Rattle.lv_machine.proofs.ScheduleLaws.{every_event_moves, histories_grow}
use Rattle.lv_machine.proofs.schedules.every_event_is_one_move.Goals as goal

pub returns-clause-moves : goal.returns-clause-moves
returns-clause-moves g c = λ body.
    let has : HasParts g.B.Parted.parts_of g.B.Parted.whole_of (g.B.Body.operations body) = (g.met.B.Parted g.world.𝓛 g.world.𝓜 g.world.𝓡 ((λ s x. x), (λ p. p), (λ n s. n s), (λ p. p))).has_parts body in
    every_event_moves (g.B.Body.operations body) (g.B.Body.is_within body) (g.B.Body.laws body) g.B.Parted.PARTS g.B.Parted.some.0 g.B.Parted.parts_of g.B.Parted.whole_of g.B.Parted.are_parts has body g.B.Parted.some.1

pub returns-clause-grows : goal.returns-clause-grows
returns-clause-grows g c = λ body.
    let has : HasParts g.B.Parted.parts_of g.B.Parted.whole_of (g.B.Body.operations body) = (g.met.B.Parted g.world.𝓛 g.world.𝓜 g.world.𝓡 ((λ s x. x), (λ p. p), (λ n s. n s), (λ p. p))).has_parts body in
    histories_grow (g.B.Body.operations body) (g.B.Body.is_within body) (g.B.Body.laws body) g.B.Parted.PARTS g.B.Parted.some.0 g.B.Parted.parts_of g.B.Parted.whole_of g.B.Parted.are_parts has
