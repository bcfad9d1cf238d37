-- Summaries joined in order.
use Rattle.std.specs.Prelude.{◌≡◌, ℕ, ℤ, ◌-◌, List, ◌++◌, map, take, drop, fold}
use Rattle.lv_bodies.specs.Body.{Operations, fold_of}
use Rattle.lv_bodies.specs.Long.{CanFoldLong}
use Rattle.lv_tree.specs.Folds.{end_to_end}

-- a summary joined with each of some others in order
abbrev pub joined_on : {S : Type 0} → Operations S → S → List S → S
joined_on o s sums = fold o.join s sums

-- so many entries from a place on
abbrev pub run_of : {T : Type 0} → List T → ℕ → ℕ → List T
run_of xs from count = take count (drop from xs)

-- the cells from place a up to b joined in order
abbrev pub part_of : {S : Type 0} → Operations S → List S → ℕ → ℕ → S
part_of o cells a b = joined_on o o.identity (run_of cells a (b - a))

-- a summary and others behind it are the folds of lists that may be folded end to end
pub record AreInOrder {S : Type 0} (o : Operations S) (s : S) (sums : List S) : Type 0 where
  pub front : List ℤ
  pub lists : List (List ℤ)
  pub front_is : s ≡ fold_of o front
  pub sums_are : sums ≡ map (fold_of o) lists
  pub can : CanFoldLong (front ++ end_to_end lists)

-- summaries and one more behind them are the folds of lists that may be folded end to end
pub record AreBefore {S : Type 0} (o : Operations S) (sums : List S) (s : S) : Type 0 where
  pub lists : List (List ℤ)
  pub back : List ℤ
  pub sums_are : sums ≡ map (fold_of o) lists
  pub back_is : s ≡ fold_of o back
  pub can : CanFoldLong (end_to_end lists ++ back)
