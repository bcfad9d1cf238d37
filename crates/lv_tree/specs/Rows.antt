-- Rows of sums over leaves. Row l has a number for each group of 8 ^ l leaves: what the groups before it under the same parent
-- come to. Said of leaves, and not of the row below, so that a write changes the numbers whose groups have the leaf, and no others.
use Rattle.std.specs.Prelude.{◌≡◌, ◌⊎◌, ℕ, ◌+◌, ◌-◌, ◌*◌, ◌/◌, ◌%◌, ◌^◌, ◌<◌, ◌≤◌, List, [], length, sum, slice_index, slice_index_or}
use Rattle.lv_bodies.specs.declared.sums.Sum.{Sum}
use Rattle.lv_tree.specs.Parts.{run_of}

-- the body, how many leaves there is room for, and the sum of each leaf in order
pub record SumLeaves : Type 0 where
  pub body : Sum
  pub room : ℕ
  pub sums : List ℕ

-- the sum of the leaves from place a up to b, modulo 2 ^ 64
abbrev pub sum_between : List ℕ → ℕ → ℕ → ℕ
sum_between leaves a b = sum (run_of leaves a (b - a)) % 2 ^ 64

-- row l, which has no numbers if it is missing
abbrev pub row_of : List (List ℕ) → ℕ → List ℕ
row_of rows l = slice_index_or rows l []

-- each number of a group of leaves is the sum of those before it under the same parent
pub record AreSums (leaves : List ℕ) (rows : List (List ℕ)) : Type 0 where
  pub before : (l m : ℕ) → l < length rows → m * 8 ^ l ≤ length leaves → slice_index (row_of rows l) m ≡ sum_between leaves (m / 8 * (8 ^ l * 8)) (m * 8 ^ l)

-- the rows have room for so many leaves: for the eight groups under each parent, and for one parent of all
pub record HaveRoom (room : ℕ) (rows : List (List ℕ)) : Type 0 where
  pub group : (l m : ℕ) → l < length rows → m * 8 ^ l ≤ room → m / 8 * 8 + 8 ≤ length (row_of rows l)
  pub high : room < 8 ^ length rows

-- what is kept: leaves for which there is memory, and rows of their sums
pub record AreKept (room capacity : ℕ) (leaves : List ℕ) (rows : List (List ℕ)) : Type 0 where
  pub sums : AreSums leaves rows
  pub rows_room : HaveRoom room rows
  pub few : length leaves ≤ room
  pub leaves_room : room ≤ capacity

-- a number was added to those behind a place among its eight
pub record IsAdded (place more : ℕ) (old new : List ℕ) : Type 0 where
  pub size : length new ≡ length old
  pub behind : (k : ℕ) → place < k → k < place / 8 * 8 + 8 → slice_index new k ≡ (slice_index old k + more) % 2 ^ 64
  pub others : (k : ℕ) → (k ≤ place) ⊎ (place / 8 * 8 + 8 ≤ k) → slice_index new k ≡ slice_index old k

-- a number was added in row l to those behind the group of a leaf
pub record IsAddedIn (l leaf more : ℕ) (old new : List ℕ) : Type 0 where
  pub place : ℕ
  pub low : place * 8 ^ l ≤ leaf
  pub high : leaf < place * 8 ^ l + 8 ^ l
  pub added : IsAdded place more old new

-- a number was added in each row to those behind the group of a leaf
pub record AreAdded (leaf more : ℕ) (old new : List (List ℕ)) : Type 0 where
  pub count : length new ≡ length old
  pub row : (l : ℕ) → l < length old → IsAddedIn l leaf more (row_of old l) (row_of new l)

-- the rows are as long, each of them
pub record AreAsLong (old new : List (List ℕ)) : Type 0 where
  pub count : length new ≡ length old
  pub row : (l : ℕ) → length (row_of new l) ≡ length (row_of old l)
