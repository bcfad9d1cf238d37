-- One element further in a scan that goes on from what comes in front of it.
use Rattle.std.proofs.Common.{◌≡◌, ℕ, ℤ, pos, ◌+◌, ◌<◌, Bool, true, false, if◌then◌else◌, List, [], ◌∷◌, ◌++◌, length, fold, map, take, slice_index_or, All, sym, subst, ap, ◌∙◌, arith, length-append, length-take}
use Rattle.std.specs.List.{range_with_len}
use Rattle.std.proofs.lemmas.List.{take_all, take_more}
use Rattle.std.proofs.lemmas.List.Elements.{All-append, All-take}
use Rattle.std.proofs.lemmas.List.FromFn.{map-range_with_len_more}
use Rattle.std.proofs.lemmas.List.Sums.{fold-append, fold_push}
use Rattle.lv_geometry.specs.Elements.{IsElement}
use Rattle.lv_bodies.specs.Body.{Operations, fold_of}
use Rattle.lv_bodies.specs.Long.{CanGrowLong, FoldsWithin}
use Rattle.lv_series.specs.Series.{StandsBefore, running_fold, running_folds}

-- the left fold of a list that goes on from a summary
abbrev pub fold_on : {S : Type 0} → Operations S → S → List ℤ → S
fold_on o s xs = fold (λ t x. o.join t (o.lift x)) s xs

module _ {S : Type 0} (o : Operations S) (before : S) (els : List ℤ) where
  -- the fold goes on
  pub one_further : (k : ℕ) (sum next : S) → k < length els → sum ≡ fold_on o before (take k els) → next ≡ o.join sum (o.lift (slice_index_or els k (pos 0))) → next ≡ fold_on o before (take (k + 1) els)
  one_further k sum next small so_far joined =
      let x = slice_index_or els k (pos 0) in
      let front = take k els in
      joined ∙ ap (λ t. o.join t (o.lift x)) so_far ∙ sym (fold_push (λ t y. o.join t (o.lift y)) before front x) ∙ ap (fold_on o before) (sym (take_more els k (pos 0) small))

  -- the value there
  pub value_here : (inclusive : Bool) (k : ℕ) (sum next value : S) → sum ≡ fold_on o before (take k els) → next ≡ fold_on o before (take (k + 1) els) → value ≡ (if inclusive then next else sum) → value ≡ running_fold inclusive o before els k
  value_here true k sum next value without with is = is ∙ with
  value_here false k sum next value without with is = is ∙ without

  -- the values so far, and one more
  pub values_more : (inclusive : Bool) (k : ℕ) (value : S) (values : List S) → values ≡ map (running_fold inclusive o before els) (range_with_len 0 k) → value ≡ running_fold inclusive o before els k → values ++ value ∷ [] ≡ map (running_fold inclusive o before els) (range_with_len 0 (k + 1))
  values_more inclusive k value values are is =
      ap (λ ys. ys ++ value ∷ []) are ∙ ap (λ y. map (running_fold inclusive o before els) (range_with_len 0 k) ++ y ∷ []) is ∙ sym (map-range_with_len_more (running_fold inclusive o before els) 0 k k (omega arith))

  -- all of them
  pub values_all : (inclusive : Bool) (k : ℕ) (values : List S) → length values ≡ length els → k ≡ length els → take k values ≡ map (running_fold inclusive o before els) (range_with_len 0 k) → values ≡ running_folds inclusive o before els
  values_all inclusive k values size end are =
      sym (take_all k values (omega (arith, size, end))) ∙ are ∙ ap (λ n. map (running_fold inclusive o before els) (range_with_len 0 n)) end

  -- the next element may be joined
  pub may_grow : (within : S → ℕ → Type 0) → FoldsWithin o within → StandsBefore o before (length els) → All IsElement els → (k : ℕ) (sum : S) → k < length els → sum ≡ fold_on o before (take k els) → CanGrowLong within sum
  may_grow within folds stands all k sum small is =
      let so_far = take k els in
      let front = stands.front ++ so_far in
      let long = length-append stands.front so_far in
      let count = length-take k els in
      let whole : sum ≡ fold_of o front = is ∙ ap (λ s. fold_on o s so_far) stands.is_fold ∙ sym (fold-append (λ t y. o.join t (o.lift y)) o.identity stands.front so_far) in
      record {
        count = length front;
        count_within = subst (λ s. within s (length front)) (sym whole) (folds front record {
          few = omega (arith, stands.few, small, long, count);
          elements = All-append IsElement stands.front so_far stands.elements (All-take IsElement k els all);
        });
        few = omega (arith, stands.few, small, long, count);
      }
