-- Proof of `Directory::open_to`: opens buckets until so many are open, with a blank in each of their cells.
use Rattle.std.proofs.Common.{arith, ◌∙◌}
use Rattle.lv_store.proofs.BucketLaws.{as_many, buckets_of_more, closed_again, with_bucket_more}
use Rattle.lv_store.proofs.directories.Directory.open_to.Goals as goal

pub open-requires : goal.open-requires
open-requires g c =
    record { room = omega (arith, buckets_of_more c.args.self.now c.loop.self c.loop.counter c.args.blank c.loop.invariant.opened) }

pub loop-preserved : goal.loop-preserved
loop-preserved g c = record {
  opened = c.in_default.ensures.ok ∙ with_bucket_more c.args.self.now c.loop.self c.loop.counter c.args.blank (omega arith) c.loop.invariant.opened;
  from = omega arith;
  few = omega arith;
}

pub returns-clause-ok : goal.returns-clause-ok
returns-clause-ok g c =
    as_many c.args.self.now c.loop.self c.loop.counter c.args.buckets c.args.blank c.loop-test.false (omega arith) (omega arith) c.loop.invariant.opened

pub returns-in-Err-clause-unchanged : goal.returns-in-Err-clause-unchanged
returns-in-Err-clause-unchanged g c =
    c.close_to.ensures ∙ closed_again c.args.self.now c.open.new.self c.buckets-before.result c.loop.counter c.args.blank
    c.buckets-before.ensures.value c.buckets-before.ensures.cells (c.in-Err.ensures.unchanged ∙ c.loop.invariant.opened)
