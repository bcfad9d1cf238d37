-- Proof of `copy_vector`: copies blocks of a vector into an empty slot.
use Rattle.livevec_c.proofs.BlockLaws.{copies_are_few}
use Rattle.livevec_c.proofs.blocks.copy_vector.Goals as goal

pub keep_copies-requires-clause-few : goal.keep_copies-requires-clause-few
keep_copies-requires-clause-few c = copies_are_few c.args.first c.args.limit c.args.live.now c.in-Ok.batch c.ranges.limit.fits c.in-Ok.ensures.ok
