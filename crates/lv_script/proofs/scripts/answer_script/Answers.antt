-- Proof of `answer_script`: answers a script on a vector with standing queries; no task has been claimed, and at most so many may be.
use Rattle.std.proofs.Common.{[], refl, arith}
use Rattle.std.proofs.lemmas.List.Elements.{All-nil}
use Rattle.lv_bodies.specs.Six.{six_operations}
use Rattle.lv_live.specs.Kept.{IsOwn}
use Rattle.lv_script.specs.Scripted.{Bounded, state_of}
use Rattle.lv_script.proofs.BoundedLaws.{lines_served_within}
use Rattle.lv_script.proofs.scripts.answer_script.Goals as goal

pub invariant_of-script : goal.invariant_of-script
invariant_of-script g c = rw c.at_most.ensures.jobs (record { limits = c.requires; own = All-nil (IsOwn six_operations c.args.standing.live) })

pub returns : goal.returns
returns g c =
    let first : Bounded = record { script = state_of c.args.standing []; most = c.args.jobs } in
    lines_served_within c.args.jobs first _ _ _ _ _ _ refl (omega arith) (rw c.at_most.ensures.jobs at (rw c.at_most.ensures.most at c.serve_lines-ended.ensures.served))
