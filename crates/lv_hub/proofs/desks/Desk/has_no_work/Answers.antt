-- Proof of `Desk::has_no_work`: whether a worker that waits is to sleep, which then counts as asleep.
use Rattle.std.proofs.Common.{◌∙◌, ap, arith, length, sym}
use Rattle.std.proofs.lemmas.Bool.{ltb-true}
use Rattle.lv_edits.specs.History.{list_of}
use Rattle.lv_live.specs.State.{recorded}
use Rattle.lv_hub.proofs.WorkLaws.{nothing_without_a_block}
use Rattle.lv_hub.proofs.desks.Desk.has_no_work.Goals as goal
use Rattle.lv_hub.proofs.desks.Desk.has_no_work.Goals.{else-size-lt8, then-size-lt8}

pub returns-then-sleeps-clause-idle : goal.returns-then-sleeps-clause-idle
returns-then-sleeps-clause-idle g c sleeps n =
    let size = ap (λ d. length (list_of d.history.journal)) c.live.ensures.same in
    elim c.if-size-lt8.branch [
      | then-size-lt8 w ↦ nothing_without_a_block (recorded c.args.self.now.live) n (omega (arith, w.if-size-lt8, c.size.ensures, size))
      | else-size-lt8 w ↦ nothing_without_a_block (recorded c.args.self.now.live) n (omega (arith, ltb-true _ _ (sym w.sleeps-is ∙ sleeps), c.size.ensures, size))
    ]
