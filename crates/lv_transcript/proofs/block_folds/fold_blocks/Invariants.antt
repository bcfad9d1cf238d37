-- What the loop keeps in `fold_blocks`: the fold of the elements from an index up to the end of a block.
use Rattle.std.proofs.Common.{◌≡◌, ◌*◌, slice_range, vec_len}
use Rattle.lv_transcript.specs.Blocks.{AreFolds, IsFold}
use Rattle.lv_transcript.proofs.block_folds.fold_blocks.Given as goal

-- the fold of the elements before the block
abbrev pub invariant-loop-block : goal.invariant-loop-block
invariant-loop-block g l =
    let o = g.B.Body.operations l.body in
    record {
      fold : IsFold o (slice_range l.list l.lo (l.block * 1024)) l.sum;
      folds : AreFolds o l.list l.folds.items;
      room : vec_len l.folds ≡ vec_len l.initial.folds;
    }
