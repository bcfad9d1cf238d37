-- Proof of `ask_by_kind`: the summary by a kind of the elements from index `lo` up to `hi`.
use Rattle.std.proofs.Common.{subst}
use Rattle.std.specs.Prelude.{IfOk}
use Rattle.lv_bodies.specs.Plain.{program_table}
use Rattle.lv_tree.specs.Asked.{IsKindAnswer}
use Rattle.lv_tree.proofs.KeptLaws.{AreKept-by, AreReady-asked}
use Rattle.lv_standing.proofs.asking.ask_by_kind.Goals as goal

pub ask-requires-clause-kept : goal.ask-requires-clause-kept
ask-requires-clause-kept g c = rw c.view.ensures.cells (AreKept-by program_table c.args.live.now.history.journal c.args.kinds.now c.requires.kept)

pub returns-clause-ok : goal.returns-clause-ok
returns-clause-ok g c =
    let by_table = rw c.view.ensures.cells at c.ask.ensures.ok in
    subst (λ t. IfOk c.ask.result (λ answer. IsKindAnswer t c.args.live.now.history.journal c.args.kind c.args.lo c.args.hi answer)) c.requires.kept.table_is by_table

pub returns-clause-kept : goal.returns-clause-kept
returns-clause-kept g c =
    let kept = rw c.view.ensures.cells at c.ask.ensures.kept in
    AreReady-asked program_table c.args.live.now.history.journal c.args.kind c.args.kinds.now c.ask.new.self c.requires c.ask.ensures.others kept
