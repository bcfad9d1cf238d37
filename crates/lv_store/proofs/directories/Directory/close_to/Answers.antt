-- Proof of `Directory::close_to`: gives back all buckets but the first so many.
use Rattle.std.proofs.Common.{◌≡◌, ap, length, ◌∙◌}
use Rattle.std.proofs.lemmas.List.{length-take-le}
use Rattle.std.specs.List.{flat_map}
use Rattle.lv_store.proofs.BucketLaws.{AreBuckets-take, cells_take, same_cells}
use Rattle.lv_store.proofs.directories.Directory.close_to.Goals as goal

pub invariant_of-self : goal.invariant_of-self
invariant_of-self g c =
    let few = rw (← c.self.view_is) at c.requires.open in
    rw c.truncate.ensures.items (AreBuckets-take (λ b. b.items) c.self.inside.buckets.items c.args.buckets few c.self.invariant)

pub returns : goal.returns
returns g c =
    let few = rw (← c.self.view_is) at c.requires.open in
    let long : length c.truncate.new.self.items ≡ c.args.buckets = ap length c.truncate.ensures.items ∙ length-take-le c.args.buckets c.self.inside.buckets.items few in
    let cells = ap (flat_map (λ b. b.items)) c.truncate.ensures.items ∙ cells_take (λ b. b.items) c.self.inside.buckets.items c.args.buckets few c.self.invariant in
    rw (← c.self.view_is) (same_cells _ _ _ _ long cells)
