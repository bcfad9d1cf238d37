-- Proof of `Directory::set`: puts a value into the cell of an index.
use Rattle.std.proofs.Common.{◌<◌, arith, length, refl}
use Rattle.std.specs.Vec.{with_item}
use Rattle.std.proofs.lemmas.List.{length-set}
use Rattle.lv_store.proofs.BucketLaws.{AreBuckets-put, bucket_open, cells_few, put_at, same_cells, size_of_read}
use Rattle.lv_store.proofs.directories.Directory.set.Given.{Over}
use Rattle.lv_store.proofs.directories.Directory.set.Goals as goal
use Rattle.lv_store.proofs.directories.Directory.set.Goals.{After-place-place}

pub place-place-requires : goal.place-place-requires
place-place-requires g c =
    let inside = rw (← c.self.view_is) at c.requires.inside in
    omega (arith, inside, cells_few (λ b. b.items) c.self.inside.buckets.items c.self.invariant)

-- the bucket of the index is open
within : (g : Over) (c : After-place-place g) → c.place-place.result.bucket < length c.self.inside.buckets.items
within g c =
    let inside = rw (← c.self.view_is) at c.requires.inside in
    bucket_open (λ b. b.items) c.self.inside.buckets.items c.place-place.result (omega (arith, inside, c.place-place.ensures.back)) c.self.invariant

pub index_mut-bucket-requires : goal.index_mut-bucket-requires
index_mut-bucket-requires g c = omega (arith, within g (goal.at.index_mut-bucket-requires g c).After-place-place, c.self.inside.buckets.ok.0)

pub index_mut-requires : goal.index_mut-requires
index_mut-requires g c =
    let size = size_of_read (λ b. b.items) c.self.inside.buckets.items c.place-place.result c.index_mut-bucket.result.now (within g (goal.at.index_mut-requires g c).After-place-place) c.index_mut-bucket.ensures.value c.self.invariant in
    omega (arith, size, c.index_mut-bucket.result.now.ok.0, c.place-place.ensures.cell)

pub invariant_of-self : goal.invariant_of-self
invariant_of-self g c =
    AreBuckets-put (λ b. b.items) c.self.inside.buckets.items c.place-place.result c.index_mut-bucket.result.now (with_item c.index_mut-bucket.result.now c.place-place.result.cell c.args.x) c.args.x (within g (goal.at.invariant_of-self g c).After-place-place) c.index_mut-bucket.ensures.value refl c.self.invariant

pub returns : goal.returns
returns g c =
    let long = length-set c.self.inside.buckets.items c.place-place.result.bucket (with_item c.index_mut-bucket.result.now c.place-place.result.cell c.args.x) in
    let cells = put_at (λ b. b.items) c.self.inside.buckets.items c.args.i c.place-place.result c.index_mut-bucket.result.now (with_item c.index_mut-bucket.result.now c.place-place.result.cell c.args.x) c.args.x (within g (goal.at.returns g c).After-place-place) c.place-place.ensures.cell c.place-place.ensures.back c.index_mut-bucket.ensures.value refl c.self.invariant in
    rw (← c.self.view_is) (same_cells _ _ _ _ long cells)
