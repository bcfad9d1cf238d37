-- Proof of `fold_block`: the fold of a block: what is known, or else computed from its elements, and kept.
use Rattle.std.proofs.Common.{None, sym, ◌∙◌, arith}
use Rattle.std.proofs.lemmas.List.{get_or_read}
use Rattle.lv_transcript.proofs.block_folds.fold_block.Goals as goal

pub returns-in-Some-clause-fold : goal.returns-in-Some-clause-fold
returns-in-Some-clause-fold g c =
    c.requires.folds.right c.args.block c.in-Some.fold (sym (get_or_read c.args.folds.now.items c.args.block c.index.result.now (omega (arith, c.requires.room, c.args.folds.now.ok.0)) c.index.ensures None) ∙ c.in-Some.is)

pub returns-clause-fold : goal.returns-clause-fold
returns-clause-fold g c = record { fold = c.fold_slice-fold.ensures.fold; elements = c.fold_slice-fold.ensures.elements }
