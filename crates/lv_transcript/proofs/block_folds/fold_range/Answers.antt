-- Proof of `fold_range`: the fold of the elements from index `lo` up to `hi`, from the folds of the blocks between them.
use Rattle.std.proofs.Common.{◌*◌, ◌/◌, arith}
use Rattle.lv_transcript.proofs.BlockLaws.{folds-places, slice-joined, slices_can_join}
use Rattle.lv_transcript.proofs.block_folds.fold_range.Goals as goal

pub returns-then-last-first-clause-fold : goal.returns-then-last-first-clause-fold
returns-then-last-first-clause-fold g c = record { fold = c.fold_slice.ensures.fold; elements = c.fold_slice.ensures.elements }

pub fold_blocks-sum-requires-clause-folds : goal.fold_blocks-sum-requires-clause-folds
fold_blocks-sum-requires-clause-folds g c κs lives =
    rw c.in_ok-make_room.ensures.items
    (folds-places (g.B.Body.operations c.args.body.now) c.args.list.now c.args.folds.now.items c.requires.folds (c.args.hi / 1024) (omega (arith, c.requires.inside)))

pub combine-requires : goal.combine-requires
combine-requires g c =
    let body = c.args.body.now in
    let last = c.args.hi / 1024 in
    slices_can_join (g.B.Body.operations body) (g.B.Body.is_within body) (g.B.Body.laws c.args.body.now) c.args.list.now c.requires.few c.args.lo (last * 1024) c.args.hi
    (omega (arith, c.div_ceil-first.ensures, c.if-last-first.false)) (omega arith) c.requires.inside
    c.fold_blocks-sum.result c.fold_slice-rest.result c.fold_blocks-sum.ensures.fold record { fold = c.fold_slice-rest.ensures.fold; elements = c.fold_slice-rest.ensures.elements }

pub returns-clause-fold : goal.returns-clause-fold
returns-clause-fold g c =
    let body = c.args.body.now in
    let last = c.args.hi / 1024 in
    slice-joined (g.B.Body.operations body) (g.B.Body.is_within body) (g.B.Body.laws c.args.body.now) c.args.list.now c.requires.few c.args.lo (last * 1024) c.args.hi
    (omega (arith, c.div_ceil-first.ensures, c.if-last-first.false)) (omega arith) c.requires.inside
    c.fold_blocks-sum.result c.fold_slice-rest.result c.fold_blocks-sum.ensures.fold record { fold = c.fold_slice-rest.ensures.fold; elements = c.fold_slice-rest.ensures.elements } c.combine.result c.combine.ensures
