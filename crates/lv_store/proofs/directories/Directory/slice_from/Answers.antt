-- Proof of `Directory::slice_from`: a slice of the cells from an index to the end of its bucket, but at most `most` of them.
use Rattle.std.proofs.Common.{◌≡◌, ◌+◌, ◌-◌, ◌<◌, ◌≤◌, ap, arith, drop, length, min, sym, take, ◌∙◌}
use Rattle.std.specs.List.{flat_map}
use Rattle.std.proofs.lemmas.List.{length-drop, length-take-le}
use Rattle.lv_geometry.proofs.Capacities.{cells_in}
use Rattle.lv_store.proofs.BucketLaws.{bucket_open, cells_few, part_read, size_of_read}
use Rattle.lv_store.proofs.directories.Directory.slice_from.Given.{Over}
use Rattle.lv_store.proofs.directories.Directory.slice_from.Goals as goal
use Rattle.lv_store.proofs.directories.Directory.slice_from.Goals.{After-deref, After-neighbours, After-place-place}

pub place-place-requires : goal.place-place-requires
place-place-requires g c =
    let inside = rw (← c.self.view_is) at c.requires.open in
    omega (arith, inside, cells_few (λ b. b.items) c.self.inside.buckets.items c.self.invariant)

-- the bucket of the index is open
within : (g : Over) (c : After-place-place g) → c.place-place.result.bucket < length c.self.inside.buckets.items
within g c =
    let inside = rw (← c.self.view_is) at c.requires.open in
    bucket_open (λ b. b.items) c.self.inside.buckets.items c.place-place.result (omega (arith, inside, c.place-place.ensures.back)) c.self.invariant

pub index-requires : goal.index-requires
index-requires g c = omega (arith, within g (goal.at.index-requires g c).After-place-place, c.self.inside.buckets.ok.0)

-- the bucket has its size
size : (g : Over) (c : After-deref g) → c.place-place.result.bucket < length c.self.inside.buckets.items → length c.deref.result.now ≡ cells_in c.place-place.result.bucket
size g c inside =
    ap length c.deref.ensures.value
    ∙ size_of_read (λ b. b.items) c.self.inside.buckets.items c.place-place.result c.index.result.now inside c.index.ensures c.self.invariant

pub neighbours-requires : goal.neighbours-requires
neighbours-requires g c =
    let at = goal.at.neighbours-requires g c in
    omega (arith, size g at.After-deref (within g at.After-place-place), c.place-place.ensures.cell)

-- how many are lent: as many as are wanted, or those to the end of the bucket
long : (g : Over) (c : After-neighbours g) → length c.neighbours.result.now ≡ min c.args.most (length c.deref.result.now - c.place-place.result.cell)
long g c =
    ap length c.neighbours.ensures
    ∙ length-take-le _ (drop c.place-place.result.cell c.deref.result.now) (omega (arith, length-drop c.place-place.result.cell c.deref.result.now))

pub returns-clause-cells : goal.returns-clause-cells
returns-clause-cells g c =
    let at = goal.at.returns-clause-cells g c in
    let place = c.place-place.result in
    let cells = flat_map (λ b. b.items) c.self.inside.buckets.items in
    let count = min c.args.most (length c.deref.result.now - place.cell) in
    let all = size g at.After-deref (within g at.After-place-place) in
    let fits : place.cell + count ≤ cells_in place.bucket = omega (arith, all, c.place-place.ensures.cell) in
    rw (← c.self.view_is)
    (c.neighbours.ensures
    ∙ ap (λ xs. take count (drop place.cell xs)) c.deref.ensures.value
    ∙ part_read (λ b. b.items) c.self.inside.buckets.items c.args.i count place c.index.result.now (within g at.After-place-place) fits c.place-place.ensures.back c.index.ensures c.self.invariant
    ∙ ap (λ n. take n (drop c.args.i cells)) (sym (long g at.After-neighbours)))

pub returns-clause-few : goal.returns-clause-few
returns-clause-few g c = omega (arith, long g (goal.at.returns-clause-few g c).After-neighbours)

pub returns-clause-some : goal.returns-clause-some
returns-clause-some g c = λ some.
    let at = goal.at.returns-clause-some g c in
    omega (arith, some, long g at.After-neighbours, size g at.After-deref (within g at.After-place-place), c.place-place.ensures.cell)
