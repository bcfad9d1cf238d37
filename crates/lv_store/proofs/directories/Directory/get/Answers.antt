-- Proof of `Directory::get`: what is in the cell of an index.
use Rattle.std.proofs.Common.{◌<◌, arith, length}
use Rattle.lv_store.proofs.BucketLaws.{bucket_open, cells_few, read_at, size_of_read}
use Rattle.lv_store.proofs.directories.Directory.get.Given.{Over}
use Rattle.lv_store.proofs.directories.Directory.get.Goals as goal
use Rattle.lv_store.proofs.directories.Directory.get.Goals.{After-place-place}

pub place-place-requires : goal.place-place-requires
place-place-requires g c =
    let inside = rw (← c.self.view_is) at c.requires.inside in
    omega (arith, inside, cells_few (λ b. b.items) c.self.inside.buckets.items c.self.invariant)

-- the bucket of the index is open
within : (g : Over) (c : After-place-place g) → c.place-place.result.bucket < length c.self.inside.buckets.items
within g c =
    let inside = rw (← c.self.view_is) at c.requires.inside in
    bucket_open (λ b. b.items) c.self.inside.buckets.items c.place-place.result (omega (arith, inside, c.place-place.ensures.back)) c.self.invariant

pub index-requires : goal.index-requires
index-requires g c = omega (arith, within g (goal.at.index-requires g c).After-place-place, c.self.inside.buckets.ok.0)

pub index-requires-2 : goal.index-requires-2
index-requires-2 g c =
    let size = size_of_read (λ b. b.items) c.self.inside.buckets.items c.place-place.result c.index.result.now (within g (goal.at.index-requires-2 g c).After-place-place) c.index.ensures c.self.invariant in
    omega (arith, size, c.index.result.now.ok.0, c.place-place.ensures.cell)

pub returns : goal.returns
returns g c =
    rw (← c.self.view_is)
    (read_at (λ b. b.items) c.self.inside.buckets.items c.args.i c.place-place.result c.index.result.now c.index-2.result.now (within g (goal.at.returns g c).After-place-place) c.place-place.ensures.cell c.place-place.ensures.back c.index.ensures c.index-2.ensures c.self.invariant)
