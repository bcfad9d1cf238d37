-- Proof of `Directory::block`: the contents of the eight cells of a block, all open.
use Rattle.std.proofs.Common.{◌*◌, ◌<◌, ◌≤◌, ap, arith, length, ◌∙◌, take, drop}
use Rattle.std.proofs.Math.Nat.{lt_of_le_of_lt, mul-le-mul_right}
use Rattle.lv_store.proofs.BucketLaws.{block_in_bucket, bucket_open, cells_few, part_read, size_of_read}
use Rattle.lv_store.proofs.directories.Directory.block.Given.{Over}
use Rattle.lv_store.proofs.directories.Directory.block.Goals as goal
use Rattle.lv_store.proofs.directories.Directory.block.Goals.{After-place-place}

pub overflow_mul-block : goal.overflow_mul-block
overflow_mul-block g c =
    let inside = rw (← c.self.view_is) at c.requires.inside in
    omega (arith, inside, cells_few (λ b. b.items) c.self.inside.buckets.items c.self.invariant)

pub place-place-requires : goal.place-place-requires
place-place-requires g c =
    let inside = rw (← c.self.view_is) at c.requires.inside in
    omega (arith, inside, cells_few (λ b. b.items) c.self.inside.buckets.items c.self.invariant)

-- the bucket of the block is open
within : (g : Over) (c : After-place-place g) → c.place-place.result.bucket < length c.self.inside.buckets.items
within g c =
    let inside = rw (← c.self.view_is) at c.requires.inside in
    bucket_open (λ b. b.items) c.self.inside.buckets.items c.place-place.result (omega (arith, inside, c.place-place.ensures.back)) c.self.invariant

pub index-requires : goal.index-requires
index-requires g c = omega (arith, within g (goal.at.index-requires g c).After-place-place, c.self.inside.buckets.ok.0)

pub eight_from-requires : goal.eight_from-requires
eight_from-requires g c =
    let long = ap length c.deref.ensures.value ∙ size_of_read (λ b. b.items) c.self.inside.buckets.items c.place-place.result c.index.result.now (within g (goal.at.eight_from-requires g c).After-place-place) c.index.ensures c.self.invariant in
    let inside = block_in_bucket c.args.block c.place-place.result c.place-place.ensures.cell c.place-place.ensures.back in
    let eight : 8 ≤ length c.deref.result.now = omega arith in
    (lt_of_le_of_lt (mul-le-mul_right _ eight) c.deref.type_inv.1, omega arith)

pub returns : goal.returns
returns g c =
    rw (← c.self.view_is)
    (c.eight_from.ensures
    ∙ ap (λ xs. take 8 (drop c.place-place.result.cell xs)) c.deref.ensures.value
    ∙ part_read (λ b. b.items) c.self.inside.buckets.items (8 * c.args.block) 8 c.place-place.result c.index.result.now (within g (goal.at.returns g c).After-place-place) (block_in_bucket c.args.block c.place-place.result c.place-place.ensures.cell c.place-place.ensures.back) c.place-place.ensures.back c.index.ensures c.self.invariant)
