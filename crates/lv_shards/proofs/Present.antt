-- When the six summaries have a least, a greatest and a best run.
use Rattle.std.proofs.Common.{ℕ, ℤ, Option, Some, None, List, [], ◌∷◌, refl}
use Rattle.std.specs.Prelude.{IsSome, fold}
use Rattle.lv_bodies.specs.Body.{fold_of}
use Rattle.lv_bodies.specs.Optional.{join_of_both}
use Rattle.lv_bodies.specs.Six.{SixSummary, six_operations, six_operations_by}
use Rattle.lv_shards.specs.Summaries.{HasElements}

-- what is there on one side is there after a join
some_left : {T : Type 0} (join : T → T → T) (s t : Option T) → IsSome s → IsSome (join_of_both join s t)
some_left join None t h = absurd (cc)
some_left join (Some s) None h = refl
some_left join (Some s) (Some t) h = refl

some_right : {T : Type 0} (join : T → T → T) (s t : Option T) → IsSome t → IsSome (join_of_both join s t)
some_right join None t h = h
some_right join (Some s) None h = absurd (cc)
some_right join (Some s) (Some t) h = refl

pub filled_left : (s t : SixSummary) → HasElements s → HasElements (six_operations.join s t)
filled_left s t h = record {
  least = some_left _ s.1.0 t.1.0 h.least;
  greatest = some_left _ s.1.1.0 t.1.1.0 h.greatest;
  best = some_left _ s.1.1.1.0 t.1.1.1.0 h.best;
}

pub filled_right : (s t : SixSummary) → HasElements t → HasElements (six_operations.join s t)
filled_right s t h = record {
  least = some_right _ s.1.0 t.1.0 h.least;
  greatest = some_right _ s.1.1.0 t.1.1.0 h.greatest;
  best = some_right _ s.1.1.1.0 t.1.1.1.0 h.best;
}

-- one element is there
lifted : (table : List (List ℕ)) (x : ℤ) → HasElements ((six_operations_by table).lift x)
lifted table x = record { least = refl; greatest = refl; best = refl }

-- a fold that goes on keeps what is there
goes_on : (table : List (List ℕ)) (s : SixSummary) (xs : List ℤ) → HasElements s → HasElements (fold (λ t x. (six_operations_by table).join t ((six_operations_by table).lift x)) s xs)
goes_on table s [] h = h
goes_on table s (x ∷ xs) h =
    let o = six_operations_by table in
    goes_on table (o.join s (o.lift x)) xs (filled_left s (o.lift x) h)

-- the fold of some elements has them
pub filled_fold : (table : List (List ℕ)) (x : ℤ) (xs : List ℤ) → HasElements (fold_of (six_operations_by table) (x ∷ xs))
filled_fold table x xs =
    let o = six_operations_by table in
    goes_on table (o.join o.identity (o.lift x)) xs (filled_right o.identity (o.lift x) (lifted table x))
