-- Proof of `Store::open_to`: opens the buckets that so many cells need, and that are not open yet.
use Rattle.std.proofs.Common.{◌≡◌, ◌-◌, ◌++◌, ap, arith, replicate, ◌∙◌}
use Rattle.lv_geometry.proofs.Capacities.{capacity_of_mono, capacity_of_most}
use Rattle.lv_store.specs.State.{blocks_of}
use Rattle.lv_store.proofs.OpensLaws.{IsStore-opened, Opens-opened}
use Rattle.lv_store.proofs.ShowsLaws.{Shows-opens}
use Rattle.lv_store.proofs.stores.Store.open_to.Goals as goal
use Rattle.lv_store.proofs.stores.Store.open_to.Goals.{After-add_blanks}

pub buckets_for-buckets-requires : goal.buckets_for-buckets-requires
buckets_for-buckets-requires c =
    let few = rw (← c.self.view_is) at c.requires.few in
    omega (arith, few, capacity_of_most c.self.inside.limits.buckets c.self.invariant.allowed.few_buckets)

-- there is a version for each block of so many buckets
versions : (c : After-add_blanks) → c.add_blanks.new.versions.items ≡ c.self.inside.versions.items ++ replicate (blocks_of c.buckets_for-buckets.result - blocks_of c.self.inside.values.buckets) 0
versions c =
    let more : c.saturating_sub-more.result ≡ blocks_of c.buckets_for-buckets.result - blocks_of c.self.inside.values.buckets = omega (arith, c.saturating_sub-more.ensures, c.capacity.ensures.value, c.len-open.ensures, c.self.inside.versions.ok.0, c.self.invariant.versions) in
    c.add_blanks.ensures ∙ ap (λ xs. xs ++ replicate c.saturating_sub-more.result 0) c.reserve.ensures.items ∙ ap (λ n. c.self.inside.versions.items ++ replicate n 0) more

pub invariant_of-self-2 : goal.invariant_of-self-2
invariant_of-self-2 c =
    let few = rw (← c.self.view_is) at c.requires.few in
    rw (c.in_ok-open_to.ensures.ok, versions (goal.at.invariant_of-self-2 c).After-add_blanks)
    (IsStore-opened _ c.args.cells c.buckets_for-buckets.result c.buckets_for-buckets.ensures.fewest few c.self.invariant)

pub returns-clause-ok : goal.returns-clause-ok
returns-clause-ok c =
    rw (← c.self.view_is, c.in_ok-open_to.ensures.ok, versions (goal.at.returns-clause-ok c).After-add_blanks)
    (Opens-opened _ c.args.cells c.buckets_for-buckets.result c.buckets_for-buckets.ensures.fewest)

pub returns-clause-enough : goal.returns-clause-enough
returns-clause-enough c =
    let n = c.buckets_for-buckets.result in
    let no_less = capacity_of_mono n c.open_to.new.self.buckets (omega (arith, ap (λ d. d.buckets) c.in_ok-open_to.ensures.ok)) in
    omega (arith, c.buckets_for-buckets.ensures.fewest.enough, no_less)

pub returns-clause-shows : goal.returns-clause-shows
returns-clause-shows c all shown =
    rw (c.in_ok-open_to.ensures.ok, versions (goal.at.returns-clause-shows c).After-add_blanks)
    (Shows-opens _ _ c.args.cells (Opens-opened _ c.args.cells c.buckets_for-buckets.result c.buckets_for-buckets.ensures.fewest) all (rw (← c.self.view_is) at shown))

pub returns-clause-sound : goal.returns-clause-sound
returns-clause-sound c = invariant_of-self-2 c
