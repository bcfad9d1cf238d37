-- What a tree remembers of its leaves.
use Rattle.std.specs.Prelude.{◌≡◌, ℕ, ◌+◌, ◌-◌, ◌≤◌, List, length}
use Rattle.lv_bodies.specs.Body.{Operations}
use Rattle.lv_tree.specs.Parts.{part_of}

-- the join of the leaves from a number up to another, if the first leaf has the number `first`
abbrev pub leaves_joined : {S : Type 0} → Operations S → ℕ → List S → ℕ → ℕ → S
leaves_joined o first sums from to = part_of o sums (from - first) (to - first)

-- the run that was asked for last ends within the leaves, and its join is what is remembered, if its first leaf is still there
pub record IsCached {S : Type 0} (o : Operations S) (first : ℕ) (sums : List S) (from to : ℕ) (sum : S) : Type 0 where
  pub order : from ≤ to
  pub inside : to ≤ first + length sums
  pub sum_is : first ≤ from → sum ≡ leaves_joined o first sums from to
