-- What may come before a piece of a scan: nothing, or the fold that an earlier piece ended with.
use Rattle.std.proofs.Common.{◌≡◌, ℕ, ℤ, ◌+◌, ◌^◌, ◌≤◌, List, [], ◌++◌, length, fold, All, sym, ap, ◌∙◌, arith, length-append}
use Rattle.std.proofs.lemmas.List.Elements.{All-append, All-nil}
use Rattle.std.proofs.lemmas.List.Sums.{fold-append}
use Rattle.lv_geometry.specs.Elements.{IsElement}
use Rattle.lv_bodies.specs.Body.{Operations}
use Rattle.lv_series.specs.Series.{StandsBefore}

module _ {S : Type 0} (o : Operations S) where
  -- the identity, where the scan begins
  pub before_first : (before : S) (more : ℕ) → before ≡ o.identity → more ≤ 2 ^ 62 → StandsBefore o before more
  before_first before more is few = record { front = []; is_fold = is; elements = All-nil IsElement; few = omega (arith, few) }

  -- what a piece came to, where the scan goes on
  pub before_next : (before next : S) (xs : List ℤ) (more : ℕ) → StandsBefore o before (length xs + more) → All IsElement xs → next ≡ fold (λ t x. o.join t (o.lift x)) before xs → StandsBefore o next more
  before_next before next xs more stands elements is = record {
    front = stands.front ++ xs;
    is_fold = is ∙ ap (λ s. fold (λ t x. o.join t (o.lift x)) s xs) stands.is_fold ∙ sym (fold-append (λ t x. o.join t (o.lift x)) o.identity stands.front xs);
    elements = All-append IsElement stands.front xs stands.elements elements;
    few = omega (arith, stands.few, length-append stands.front xs);
  }
