-- The elements of a series in memory, and the trees over their blocks of eight.
use Rattle.std.specs.Prelude.{◌≡◌, ℕ, ℤ, ◌+◌, ◌-◌, ◌*◌, ◌/◌, ◌^◌, ◌<◌, ◌≤◌, Bool, true, if◌then◌else◌, List, [], ◌∷◌, ◌++◌, length, take, drop, slice_set, All}
use Rattle.lv_geometry.specs.Elements.{IsElement}
use Rattle.lv_bodies.specs.Body.{Operations, fold_of}
use Rattle.lv_tree.specs.Blocks.{AreLeaves}
use Rattle.lv_tree.specs.Folds.{AreFolds}

-- a tree over blocks, which may be kept or not: the body, the number of the first block that has a leaf, and the summary of each in order
pub record Layered (B S : Type 0) : Type 0 where
  pub body : B
  pub kept : Bool
  pub first : ℕ
  pub sums : List S

-- elements in memory: the first has the index 8 * base, and those before `first` have expired
pub record IsWindow (base first : ℕ) (elements : List ℤ) : Type 0 where
  pub low : 8 * base ≤ first
  pub high : first ≤ 8 * base + length elements
  pub all : All IsElement elements
  pub few : length elements ≤ 2 ^ 59
  pub numbered : 8 * base + length elements ≤ 2 ^ 62

-- the elements in memory from the block of `first` on
abbrev pub from_first : ℕ → ℕ → List ℤ → List ℤ
from_first base first elements = drop (8 * (first / 8 - base)) elements

-- a tree has a leaf for each of the blocks in memory before one of them, from that of `first` on, and the leaf is the block's fold
pub record CoversTo {B S : Type 0} (o : Operations S) (base first place : ℕ) (elements : List ℤ) (layer : Layered B S) : Type 0 where
  pub start : layer.first ≡ first / 8
  pub whole : layer.first + length layer.sums ≡ base + place
  pub sums : AreLeaves o (from_first base first elements) layer.sums

-- a tree that is kept has one for each block that is whole
abbrev pub CoversBlocks : {B S : Type 0} → Operations S → ℕ → ℕ → List ℤ → Layered B S → Type 0
CoversBlocks o base first elements layer = CoversTo o base first (length elements / 8) elements layer

-- a tree is kept so, or it isn't kept
abbrev pub IsOver : {B S : Type 0} → Operations S → ℕ → ℕ → List ℤ → Layered B S → Type 0
IsOver o base first elements layer = layer.kept ≡ true → CoversBlocks o base first elements layer

-- a tree with one leaf more at its end, or with another in the place of one; if it isn't kept, it is unchanged
abbrev pub with_leaf : {B S : Type 0} → S → Layered B S → Layered B S
with_leaf s layer = if layer.kept then record layer { sums = layer.sums ++ s ∷ [] } else layer

abbrev pub with_leaf_at : {B S : Type 0} → ℕ → S → Layered B S → Layered B S
with_leaf_at block s layer = if layer.kept then record layer { sums = slice_set layer.sums (block - layer.first) s } else layer

-- a tree without its last leaf, without those from a block on, or without those before it
abbrev pub without_last : {B S : Type 0} → Layered B S → Layered B S
without_last layer = if layer.kept then record layer { sums = take (length layer.sums - 1) layer.sums } else layer

abbrev pub before_block : {B S : Type 0} → ℕ → Layered B S → Layered B S
before_block block layer = if layer.kept then record layer { sums = take (block - layer.first) layer.sums } else layer

abbrev pub from_block : {B S : Type 0} → ℕ → Layered B S → Layered B S
from_block block layer = if layer.kept then record layer { first = block; sums = drop (block - layer.first) layer.sums } else layer

-- a leaf can be added, and a leaf of a block can be replaced
pub record TakesLeaf {B S : Type 0} (o : Operations S) (s : S) (layer : Layered B S) : Type 0 where
  pub folds : AreFolds o (layer.sums ++ s ∷ [])
  pub numbered : layer.first + length layer.sums + 1 < 2 ^ 64

pub record TakesLeafAt {B S : Type 0} (o : Operations S) (block : ℕ) (s : S) (layer : Layered B S) : Type 0 where
  pub low : layer.first ≤ block
  pub high : block < layer.first + length layer.sums
  pub folds : AreFolds o (slice_set layer.sums (block - layer.first) s)

-- a block has a leaf, or is the one behind the last that has
pub record ReachesTo {B S : Type 0} (block : ℕ) (layer : Layered B S) : Type 0 where
  pub low : layer.first ≤ block
  pub high : block ≤ layer.first + length layer.sums

-- if the tree is kept, the leaf of a block may be added to it, or may replace one
abbrev pub CanGrow : {B S : Type 0} → Operations S → List ℤ → Layered B S → Type 0
CanGrow o block layer = layer.kept ≡ true → TakesLeaf o (fold_of o block) layer

abbrev pub CanRenew : {B S : Type 0} → Operations S → ℕ → List ℤ → Layered B S → Type 0
CanRenew o block elements layer = layer.kept ≡ true → TakesLeafAt o block (fold_of o elements) layer

abbrev pub CanCut : {B S : Type 0} → ℕ → Layered B S → Type 0
CanCut block layer = layer.kept ≡ true → ReachesTo block layer
