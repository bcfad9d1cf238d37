-- Proof of `fold_blocks`: the fold of the elements from an index up to the end of a block.
use Rattle.std.proofs.Common.{◌*◌, ◌+◌, ◌∙◌, refl, arith}
use Rattle.lv_transcript.proofs.BlockLaws.{slice-joined, slices_can_join}
use Rattle.lv_transcript.proofs.block_folds.fold_blocks.Goals as goal

pub loop-block-init : goal.loop-block-init
loop-block-init g c = record {
  fold = record { fold = c.fold_slice-sum.ensures.fold; elements = c.fold_slice-sum.ensures.elements };
  folds = c.requires.folds;
  room = refl;
}

pub combine-sum-requires : goal.combine-sum-requires
combine-sum-requires g c =
    let body = c.args.body.now in
    let block = c.loop-block.block in
    slices_can_join (g.B.Body.operations body) (g.B.Body.is_within body) (g.B.Body.laws c.args.body.now) c.args.list.now c.requires.few c.args.lo (block * 1024) ((block + 1) * 1024)
    (omega (arith, c.requires.before, c.loop-block.auto.block)) (omega arith) (omega (arith, c.requires.inside, c.loop-block-test.true))
    c.loop-block.sum c.fold_block-next.result c.loop-block.invariant.fold c.fold_block-next.ensures.fold

pub loop-block-preserved : goal.loop-block-preserved
loop-block-preserved g c =
    let body = c.args.body.now in
    let block = c.loop-block.block in
    record {
      fold = slice-joined (g.B.Body.operations body) (g.B.Body.is_within body) (g.B.Body.laws c.args.body.now) c.args.list.now c.requires.few c.args.lo (block * 1024) ((block + 1) * 1024)
          (omega (arith, c.requires.before, c.loop-block.auto.block)) (omega arith) (omega (arith, c.requires.inside, c.loop-block-test.true))
          c.loop-block.sum c.fold_block-next.result c.loop-block.invariant.fold c.fold_block-next.ensures.fold c.combine-sum.result c.combine-sum.ensures;
      folds = c.fold_block-next.ensures.folds;
      room = c.fold_block-next.ensures.room ∙ c.loop-block.invariant.room;
    }
