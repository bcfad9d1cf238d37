-- What a body is: an identity, what an element lifts to, and a join; the fold by them; and their laws.
use Rattle.std.specs.Prelude.{◌≡◌, ◌↔◌, Bool, IsTrue, ℕ, ℤ, ◌+◌, ◌^◌, ◌≤◌, List, ◌++◌, length, fold, All}
use Rattle.lv_geometry.specs.Elements.{IsElement}

-- the operations of a body on summaries of type S
pub record Operations (S : Type 0) : Type 0 where
  -- the summary of no elements
  pub identity : S
  -- the summary of one element
  pub lift : ℤ → S
  -- the summary of what a summarises, and then what b summarises
  pub join : S → S → S

-- the plain left fold of a list: from the identity, each element is lifted and joined on the right
abbrev pub fold_of : {S : Type 0} → Operations S → List ℤ → S
fold_of o xs = fold (λ s x. o.join s (o.lift x)) o.identity xs

-- the laws of a body. `within s n` is a bound that every summary of n elements keeps, and others may too: the identity keeps
-- it, each element's summary, and each join. For summaries that keep it, of at most 2 ^ 20 elements together, the join is
-- associative and the identity neutral on both sides
pub record BodyLaws {S : Type 0} (o : Operations S) (within : S → ℕ → Type 0) : Type 0 where
  pub identity_within : within o.identity 0
  pub lift_within : (x : ℤ) → IsElement x → within (o.lift x) 1
  pub join_within : (s t : S) (n m : ℕ) → within s n → within t m → n + m ≤ 2 ^ 20 → within (o.join s t) (n + m)
  pub left_identity : (s : S) (n : ℕ) → within s n → n ≤ 2 ^ 20 → o.join o.identity s ≡ s
  pub right_identity : (s : S) (n : ℕ) → within s n → n ≤ 2 ^ 20 → o.join s o.identity ≡ s
  pub associative : (s t u : S) (n m k : ℕ) → within s n → within t m → within u k → n + m + k ≤ 2 ^ 20 → o.join (o.join s t) u ≡ o.join s (o.join t u)

-- two summaries may be joined: they keep the bound for at most 2 ^ 20 elements together
pub record CanJoin {S : Type 0} (within : S → ℕ → Type 0) (s t : S) : Type 0 where
  pub left : ℕ
  pub right : ℕ
  pub left_within : within s left
  pub right_within : within t right
  pub few : left + right ≤ 2 ^ 20

-- a summary may take one more element
pub record CanGrow {S : Type 0} (within : S → ℕ → Type 0) (s : S) : Type 0 where
  pub count : ℕ
  pub count_within : within s count
  pub few : count + 1 ≤ 2 ^ 20

-- elements that a fold may go over: few enough, and each of 64 bits
pub record CanFold (xs : List ℤ) : Type 0 where
  pub few : length xs ≤ 2 ^ 20
  pub elements : All IsElement xs

-- the fold of two lists joined end to end is the join of their folds
abbrev pub JoinsEndToEnd : {S : Type 0} → Operations S → Type 0
JoinsEndToEnd o = (xs ys : List ℤ) → CanFold (xs ++ ys) → fold_of o (xs ++ ys) ≡ o.join (fold_of o xs) (fold_of o ys)

-- a test of two summaries is exact: it is true if and only if they are equal
abbrev pub IsExact : {T : Type 0} → (T → T → Bool) → Type 0
IsExact {T} E = (x y : T) → IsTrue (E x y) ↔ (x ≡ y)
