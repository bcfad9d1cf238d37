-- Proof of `Directory::open`: opens the next bucket, with a blank in each of its cells.
use Rattle.std.proofs.Common.{◌≡◌, ◌++◌, ◌∷◌, [], arith, length, replicate, ap, ◌∙◌}
use Rattle.std.specs.List.{flat_map}
use Rattle.std.proofs.lemmas.List.{length-replicate, length_push}
use Rattle.lv_store.proofs.BucketLaws.{AreBuckets-push, cells_push, same_cells}
use Rattle.lv_geometry.proofs.Capacities.{cells_in}
use Rattle.lv_store.proofs.directories.Directory.open.Given.{Over}
use Rattle.lv_store.proofs.directories.Directory.open.Goals as goal
use Rattle.lv_store.proofs.directories.Directory.open.Goals.{After-push_reserved}

-- the bucket is put behind the others
pushed : (g : Over) (c : After-push_reserved g) → c.push_reserved.new.self.items ≡ c.self.inside.buckets.items ++ c.in_ok-bucket.bucket ∷ []
pushed g c = c.push_reserved.ensures.items ∙ ap (λ vs. vs ++ c.in_ok-bucket.bucket ∷ []) c.reserve.ensures.items

-- its number is that of the buckets before it
number : (g : Over) (c : After-push_reserved g) → c.len.result ≡ length c.self.inside.buckets.items
number g c = omega (arith, c.len.ensures, c.reserve.new.self.ok.0, ap length c.reserve.ensures.items)

pub invariant_of-self-2 : goal.invariant_of-self-2
invariant_of-self-2 g c =
    let at = (goal.at.invariant_of-self-2 g c).After-push_reserved in
    let room = rw (← c.self.view_is) at c.requires.room in
    let size : length c.in_ok-bucket.bucket.items ≡ cells_in (length c.self.inside.buckets.items) = ap length c.in_ok-bucket.ensures.ok ∙ length-replicate _ _ ∙ ap cells_in (number g at) in
    rw (pushed g at) (AreBuckets-push (λ b. b.items) c.self.inside.buckets.items c.in_ok-bucket.bucket room size c.self.invariant)

pub returns-clause-ok : goal.returns-clause-ok
returns-clause-ok g c =
    let at = (goal.at.returns-clause-ok g c).After-push_reserved in
    let long = ap length (pushed g at) ∙ length_push c.self.inside.buckets.items c.in_ok-bucket.bucket in
    let cells =
    ap (flat_map (λ b. b.items)) (pushed g at)
    ∙ cells_push (λ b. b.items) c.self.inside.buckets.items c.in_ok-bucket.bucket
    ∙ ap (λ xs. flat_map (λ b. b.items) c.self.inside.buckets.items ++ xs) (c.in_ok-bucket.ensures.ok ∙ ap (λ n. replicate (cells_in n) c.args.blank) (number g at)) in
    rw (← c.self.view_is) (same_cells _ _ _ _ long cells)
