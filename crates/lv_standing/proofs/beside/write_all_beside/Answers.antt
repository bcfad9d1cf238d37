-- Proof of `write_all_beside`: writes values at indices, all of them or none; what is stored by kind stays right.
use Rattle.std.proofs.Common.{subst, sym}
use Rattle.lv_tree.specs.Kinds.{AreReady}
use Rattle.lv_tree.proofs.KeptLaws.{LeavesAll-same}
use Rattle.lv_standing.proofs.BesideLaws.{ready_overwritten}
use Rattle.lv_standing.proofs.beside.write_all_beside.Goals as goal

pub returns-in-Ok-clause-kept : goal.returns-in-Ok-clause-kept
returns-in-Ok-clause-kept g c =
    let answer = c.in-Ok.ensures.answer in
    ready_overwritten c.args.live.now.history c.write_all.new.self.history c.args.indices.now c.args.values.now c.args.kinds.now c.forget_sum.new.self c.keeps.ensures.limits c.requires.paired answer.verdict answer.journal
    c.forget_sum.ensures.kept c.forget_sum.ensures.leaves c.requires.kept

pub returns-in-Err-clause-kept : goal.returns-in-Err-clause-kept
returns-in-Err-clause-kept g c =
    let kinds = c.args.kinds.now in
    subst (λ h. AreReady kinds.table h.journal kinds) (sym c.in-Err.ensures.answer.same) c.requires.kept

pub returns-in-Err-clause-leaves : goal.returns-in-Err-clause-leaves
returns-in-Err-clause-leaves g c = LeavesAll-same c.args.kinds.now
