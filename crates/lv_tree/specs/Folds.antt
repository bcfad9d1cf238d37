-- A tree as its leaves' summaries in order, and what it means that they are the folds of lists.
use Rattle.std.specs.Prelude.{◌≡◌, ℕ, ◌-◌, ℤ, List, map}
use Rattle.std.specs.List.{flat_map, slice_range}
use Rattle.lv_bodies.specs.Body.{Operations, fold_of}
use Rattle.lv_bodies.specs.Long.{CanFoldLong}

-- the body, the number of the first leaf, how many leaves there is room for, and the summary of each leaf in order
pub record Leaves (B S : Type 0) : Type 0 where
  pub body : B
  pub first : ℕ
  pub room : ℕ
  pub sums : List S

-- the lists end to end, in order
abbrev pub end_to_end : List (List ℤ) → List ℤ
end_to_end lists = flat_map (λ xs. xs) lists

-- each summary is the fold of the list at its place; together the lists have at most 2 ^ 62 elements, each of 64 bits
pub record AreFoldsOf {S : Type 0} (o : Operations S) (lists : List (List ℤ)) (sums : List S) : Type 0 where
  pub sums_are : sums ≡ map (fold_of o) lists
  pub can : CanFoldLong (end_to_end lists)

-- the summaries are the folds of some such lists
pub record AreFolds {S : Type 0} (o : Operations S) (sums : List S) : Type 0 where
  pub lists : List (List ℤ)
  pub of_lists : AreFoldsOf o lists sums

-- of some lists, or summaries, one for each leaf: those of the leaves from number lo up to hi
abbrev pub leaf_range : {T : Type 0} → ℕ → List T → ℕ → ℕ → List T
leaf_range first leaves lo hi = slice_range leaves (lo - first) (hi - first)
