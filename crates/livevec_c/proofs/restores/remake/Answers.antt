-- Proof of `remake`: makes edits one after the other, up to the first that is refused.
use Rattle.std.proofs.Common.{◌+◌, drop, length, pos, sym, ap, ◌∙◌}
use Rattle.lv_edits.specs.declared.edit.Edit.{Edit}
use Rattle.lv_edits.specs.declared.edit.Edit.TheVariants.{Push}
use Rattle.lv_edits.specs.Batches.{verdict_of_edits, with_edits}
use Rattle.lv_edits.specs.History.{History}
use Rattle.livevec_c.specs.Written.{accepted_before}
use Rattle.livevec_c.proofs.RemadeLaws.{count_next, left_next, made_all, made_next, stopped_at}
use Rattle.livevec_c.proofs.restores.remake.Goals as goal

-- the edit that is read at a place past the end
abbrev first : Edit
first = Push (pos 0)

pub loop-edit-preserved : goal.loop-edit-preserved
loop-edit-preserved c =
    let loop = c.loop-edit.invariant in
    let step = c.in-Ok.ensures in
    let h = c.loop-edit.vector.history in
    let es = c.args.edits.now in
    let i = c.loop-edit.edit-index in
    let within = c.loop-edit-test.true in
    let rest = drop (i + 1) es in
    record {
      left = ap (λ (g : History). verdict_of_edits g rest) step.answer.journal ∙ sym (left_next h es i first within step.answer.verdict) ∙ loop.left;
      made = ap (λ (g : History). with_edits g rest) step.answer.journal ∙ sym (made_next h es i first within) ∙ loop.made;
      count = ap (λ (g : History). length g.journal + accepted_before g rest) step.answer.journal ∙ count_next h es i first within step.answer.verdict ∙ loop.count;
      refresh = record {
        body = step.refresh.body ∙ loop.refresh.body;
        claimed = λ n. step.refresh.claimed n ∙ loop.refresh.claimed n;
        kept = λ n. step.refresh.kept n ∙ loop.refresh.kept n;
      };
      limits = step.limits;
    }

pub returns-in-Err-clause-edits : goal.returns-in-Err-clause-edits
returns-in-Err-clause-edits c =
    let loop = c.loop-edit.invariant in
    stopped_at c.loop-edit.vector.history c.args.edits.now c.loop-edit.edit-index first c.loop-edit-test.true _ _ _ loop.left loop.count c.in-Err.ensures.answer

pub returns-in-Err-clause-refresh : goal.returns-in-Err-clause-refresh
returns-in-Err-clause-refresh c =
    let loop = c.loop-edit.invariant in
    let step = c.in-Err.ensures in
    record {
      body = step.refresh.body ∙ loop.refresh.body;
      claimed = λ n. step.refresh.claimed n ∙ loop.refresh.claimed n;
      kept = λ n. step.refresh.kept n ∙ loop.refresh.kept n;
    }

pub returns-clause-edits : goal.returns-clause-edits
returns-clause-edits c =
    let loop = c.loop-edit.invariant in
    made_all c.args.vector.now.history c.loop-edit.vector.history c.args.edits.now c.loop-edit.edit-index c.loop-edit-test.false loop.left loop.made
