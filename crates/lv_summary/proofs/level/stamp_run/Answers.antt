-- Proof of `stamp_run`: notes that summaries of the touched numbers were delivered for so many nodes, from one on.
use Rattle.std.proofs.Common.{◌+◌, ◌≡◌, Some, arith, refl, slice_index, subst}
use Rattle.lv_summary.specs.Inner.{HasItems}
use Rattle.lv_summary.proofs.RunLaws.{HasItems-more, HasItems-none}
use Rattle.lv_summary.proofs.level.stamp_run.Goals as goal

pub loop-k-init : goal.loop-k-init
loop-k-init c = HasItems-none c.args.stamps.now.items c.args.first (λ k. Some (slice_index c.args.touched.now (c.args.first + k) + 1))

pub loop-k-preserved : goal.loop-k-preserved
loop-k-preserved c =
    HasItems-more c.args.stamps.now.items c.loop-k.stamps.items c.args.first c.loop-k.k (λ k. Some (slice_index c.args.touched.now (c.args.first + k) + 1)) (slice_index c.args.touched.now (c.args.first + c.loop-k.k) + 1) c.loop-k.invariant (omega (arith, c.requires.stamps, c.loop-k-test.true)) refl

pub returns : goal.returns
returns c =
    let all : c.loop-k.k ≡ c.args.count = omega (arith, c.loop-k-test.false, c.loop-k.auto.k-end) in
    subst (λ n. HasItems c.args.stamps.now.items c.loop-k.stamps.items c.args.first n (λ k. Some (slice_index c.args.touched.now (c.args.first + k) + 1))) all c.loop-k.invariant
