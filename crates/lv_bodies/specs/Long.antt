-- The laws of a body for up to 2 ^ 62 elements, while those of `Body` go up to 2 ^ 20.
use Rattle.std.specs.Prelude.{◌≡◌, ℕ, ℤ, ◌+◌, ◌^◌, ◌≤◌, List, ◌++◌, length, All}
use Rattle.lv_geometry.specs.Elements.{IsElement}
use Rattle.lv_bodies.specs.Body.{Operations, fold_of}

-- what is asked of a body in addition to its own laws, for summaries that keep its bound, of at most 2 ^ 62 elements together: each join keeps
-- the bound too and is associative, and the identity is neutral on both sides
pub record LongLaws {S : Type 0} (o : Operations S) (within : S → ℕ → Type 0) : Type 0 where
  pub identity_within : within o.identity 0
  pub lift_within : (x : ℤ) → IsElement x → within (o.lift x) 1
  pub join_within : (s t : S) (n m : ℕ) → within s n → within t m → n + m ≤ 2 ^ 62 → within (o.join s t) (n + m)
  pub left_identity : (s : S) (n : ℕ) → within s n → n ≤ 2 ^ 62 → o.join o.identity s ≡ s
  pub right_identity : (s : S) (n : ℕ) → within s n → n ≤ 2 ^ 62 → o.join s o.identity ≡ s
  pub associative : (s t u : S) (n m k : ℕ) → within s n → within t m → within u k → n + m + k ≤ 2 ^ 62 → o.join (o.join s t) u ≡ o.join s (o.join t u)

-- two summaries may be joined: they keep the bound for at most 2 ^ 62 elements together
pub record CanJoinLong {S : Type 0} (within : S → ℕ → Type 0) (s t : S) : Type 0 where
  pub left : ℕ
  pub right : ℕ
  pub left_within : within s left
  pub right_within : within t right
  pub few : left + right ≤ 2 ^ 62

-- a summary may take one more element
pub record CanGrowLong {S : Type 0} (within : S → ℕ → Type 0) (s : S) : Type 0 where
  pub count : ℕ
  pub count_within : within s count
  pub few : count + 1 ≤ 2 ^ 62

-- elements that a long fold may go over: at most 2 ^ 62, and each of 64 bits
pub record CanFoldLong (xs : List ℤ) : Type 0 where
  pub few : length xs ≤ 2 ^ 62
  pub elements : All IsElement xs

-- the fold of two lists joined end to end is the join of their folds
abbrev pub JoinsLong : {S : Type 0} → Operations S → Type 0
JoinsLong o = (xs ys : List ℤ) → CanFoldLong (xs ++ ys) → fold_of o (xs ++ ys) ≡ o.join (fold_of o xs) (fold_of o ys)

-- the fold of a list keeps the bound for the number of its elements
abbrev pub FoldsWithin : {S : Type 0} → Operations S → (S → ℕ → Type 0) → Type 0
FoldsWithin o within = (xs : List ℤ) → CanFoldLong xs → within (fold_of o xs) (length xs)
