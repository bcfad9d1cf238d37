-- Proof of `Store::write_through`: one more edit, which announces a write at an index and is completed at once.
use Rattle.std.proofs.Common.{◌≡◌, None, Some, refl, rules}
use Rattle.std.specs.Int.{w64}
use Rattle.std.proofs.lemmas.Int.{to_z-of_z}
use Rattle.lv_geometry.specs.Elements.{IsElement}
use Rattle.lv_store.specs.State.{StoreState, announced}
use Rattle.lv_store.proofs.ShowsLaws.{IsStore-announced, Shows-announced, Shows-completed}
use Rattle.lv_store.proofs.stores.Store.write_through.Goals as goal

pub returns-clause-shows : goal.returns-clause-shows
returns-clause-shows c all shown =
    let was : StoreState = record { limits = c.self.inside.limits; descriptor = c.self.inside.descriptor; buckets = c.self.inside.values.buckets; values = c.self.inside.values.cells; versions = c.self.inside.versions.items } in
    let free : was.descriptor.pending ≡ None = rw (← c.self.view_is) at c.requires.settled in
    let fits : IsElement c.args.x = search rules in
    let sound = IsStore-announced was c.args.i c.args.x (rw (← c.self.view_is) at c.requires.edit) (rw (← c.self.view_is) at c.requires.index) fits c.self.invariant in
    rw (c.put.ensures.values, c.put.ensures.versions, free, to_z-of_z w64 c.args.x fits)
    (Shows-completed (announced was (Some (c.args.i, c.args.x)) None was.descriptor.size) (Some record { first = (c.args.i, c.args.x); second = None }) refl sound _
    (Shows-announced was (Some (c.args.i, c.args.x)) None was.descriptor.size free all (rw (← c.self.view_is) at shown)))
