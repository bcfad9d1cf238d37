-- Proof of `Replay::bring_up`: makes the edits of a journal up to one of them.
use Rattle.std.proofs.Common.{pos, refl, sym, ap, arith, slice_index_or, ◌∙◌}
use Rattle.std.proofs.lemmas.Option.{same_Some}
use Rattle.lv_edits.specs.declared.edit.Edit.TheVariants.{Push}
use Rattle.lv_edits.specs.History.{applied}
use Rattle.lv_transcript.proofs.ReplayLemmas.{next_list}
use Rattle.lv_transcript.proofs.plain_ranges.Replay.bring_up.Goals as goal

pub make-requires-clause-possible : goal.make-requires-clause-possible
make-requires-clause-possible c =
    let next = next_list c.args.journal.now c.loop-i.i (Push (pos 0)) (omega (arith, c.requires.within)) c.requires.legal in
    rw (c.loop-i.invariant.list, next) refl

pub make-requires-clause-kept : goal.make-requires-clause-kept
make-requires-clause-kept c = c.loop-i.invariant.kept

pub loop-i-preserved : goal.loop-i-preserved
loop-i-preserved c =
    let next = next_list c.args.journal.now c.loop-i.i (Push (pos 0)) (omega (arith, c.requires.within)) c.requires.legal in
    let edit = slice_index_or c.args.journal.now c.loop-i.i (Push (pos 0)) in
    record {
      reached = refl;
      list = same_Some _ _ (sym c.in_ok-make.ensures.ok ∙ ap (λ xs. applied xs edit) c.loop-i.invariant.list ∙ next);
      kept = c.in_ok-make.ensures.kept;
    }
