-- Proof of `idle_actors`: this many actors at the start.
use Rattle.std.proofs.Common.{◌≡◌, ◌∙◌, ap, replicate, arith}
use Rattle.lv_machine.specs.Machine.{idle}
use Rattle.lv_machine.proofs.ListLaws.{idle_more}
use Rattle.lv_machine.proofs.machines.idle_actors.Goals as goal

pub loop-number-preserved : goal.loop-number-preserved
loop-number-preserved g c =
    let i = c.loop-number.invariant in
    let pushed = c.push_reserved.ensures in
    record {
      items = idle_more c.loop-number._number c.first_descriptor.result c.loop-number.actors.items _ c.first_descriptor.ensures i.items pushed.items;
      room = omega (arith, i.room, pushed.len, pushed.capacity, c.loop-number-test.true);
    }

pub returns : goal.returns
returns g c =
    let all : c.loop-number._number ≡ c.args.count = omega arith in
    c.loop-number.invariant.items ∙ ap (λ n. replicate n idle) all
