-- A store after more buckets were opened.
use Rattle.std.proofs.Common.{◌≡◌, ℕ, pos, ◌+◌, ◌-◌, ◌^◌, ◌≤◌, max, List, ◌++◌, length, replicate, refl, ap, arith, inl, inr}
use Rattle.std.proofs.lemmas.Bool.{cases_lt}
use Rattle.std.proofs.lemmas.List.{length-append, length-replicate}
use Rattle.std.proofs.lemmas.List.Elements.{All-append, All-replicate}
use Rattle.std.proofs.lemmas.Option.{IfSome_then}
use Rattle.std.proofs.Math.Pow.{pow_mono}
use Rattle.lv_geometry.specs.Cells.{AreFewest, capacity_of}
use Rattle.lv_geometry.specs.Elements.{IsElement}
use Rattle.lv_store.specs.Inner.{IsStore}
use Rattle.lv_store.specs.State.{Opens, StoreState, blocks_of}
use Rattle.lv_geometry.proofs.Capacities.{capacity_of_mono}

-- the store with so many buckets, if it had fewer
abbrev pub opened : StoreState → ℕ → StoreState
opened s n =
    record s {
      buckets = max s.buckets n;
      values = s.values ++ replicate (capacity_of n - capacity_of s.buckets) (pos 0);
      versions = s.versions ++ replicate (blocks_of n - blocks_of s.buckets) 0;
    }

-- more buckets have no fewer blocks
blocks_of_mono : (j k : ℕ) → j ≤ k → blocks_of j ≤ blocks_of k
blocks_of_mono j k fewer =
    let more : 2 ^ j ≤ 2 ^ k = pow_mono fewer in
    omega arith

-- what grows with the buckets: how much more there is then
more_of : (f : ℕ → ℕ) → ((j k : ℕ) → j ≤ k → f j ≤ f k) → (b n : ℕ) → f b + (f n - f b) ≡ f (max b n)
more_of f mono b n =
    elim (cases_lt n b) [
      | inl fewer ↦ let most : max b n ≡ b = omega arith in omega (arith, mono n b (omega arith), ap f most)
      | inr more ↦ let most : max b n ≡ n = omega arith in omega (arith, mono b n more, ap f most)
    ]

-- a list of as many items, with a blank for each that is more, has as many as there are then
longer : {T : Type 0} (f : ℕ → ℕ) → ((j k : ℕ) → j ≤ k → f j ≤ f k) → (xs : List T) (b n : ℕ) (x : T) → length xs ≡ f b → length (xs ++ replicate (f n - f b) x) ≡ f (max b n)
longer f mono xs b n x long =
    omega (arith, length-append xs (replicate (f n - f b) x), length-replicate (f n - f b) x, more_of f mono b n)

-- it keeps what a store keeps
pub IsStore-opened : (s : StoreState) (cells n : ℕ) → AreFewest cells n → cells ≤ capacity_of s.limits.buckets → IsStore s → IsStore (opened s n)
IsStore-opened s cells n fewest few h =
    let within = fewest.fewest s.limits.buckets few in
    let no_less = capacity_of_mono s.buckets (max s.buckets n) (omega arith) in
    record {
      allowed = h.allowed;
      few = omega (arith, h.few);
      values = longer capacity_of capacity_of_mono s.values s.buckets n (pos 0) h.values;
      versions = longer blocks_of blocks_of_mono s.versions s.buckets n 0 h.versions;
      elements = All-append IsElement s.values _ h.elements (All-replicate IsElement _ (pos 0) (omega arith));
      past = All-append (λ version. version ≤ s.descriptor.edit) s.versions _ h.past (All-replicate (λ version. version ≤ s.descriptor.edit) _ 0 (omega arith));
      edits = h.edits;
      size = omega (arith, h.size);
      pending = IfSome_then s.descriptor.pending h.pending (λ w p. ((omega (arith, p.0.0), p.0.1), IfSome_then w.second p.1 (λ v q. ((omega (arith, q.0.0), q.0.1), q.1))));
    }

-- and the buckets that its cells need are open
pub Opens-opened : (s : StoreState) (cells n : ℕ) → AreFewest cells n → Opens s (opened s n) cells
Opens-opened s cells n fewest =
    let more : capacity_of n - capacity_of s.buckets ≡ capacity_of (max s.buckets n) - capacity_of s.buckets = omega (arith, more_of capacity_of capacity_of_mono s.buckets n) in
    let more_blocks : blocks_of n - blocks_of s.buckets ≡ blocks_of (max s.buckets n) - blocks_of s.buckets = omega (arith, more_of blocks_of blocks_of_mono s.buckets n) in
    record {
      buckets = λ k also. let same : n ≡ k = omega (arith, fewest.fewest k also.enough, also.fewest n fewest.enough) in ap (max s.buckets) same;
      values = ap (λ m. s.values ++ replicate m (pos 0)) more;
      versions = ap (λ m. s.versions ++ replicate m 0) more_blocks;
      descriptor = refl;
      limits = refl;
    }
