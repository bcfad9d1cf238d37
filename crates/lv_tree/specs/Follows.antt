-- How a tree over the blocks of a vector follows the vector's journal.
use Rattle.std.specs.Prelude.{◌≡◌, ◌≢◌, ℕ, ℤ, ◌+◌, ◌*◌, ◌/◌, ◌<◌, ◌≤◌, List, [], length, map, take, All, Some, slice_get}
use Rattle.std.specs.List.{slice_index_or}
use Rattle.lv_geometry.specs.Elements.{IsElement}
use Rattle.lv_bodies.specs.Body.{Operations, fold_of}
use Rattle.lv_edits.specs.declared.edit.Edit.{Edit}
use Rattle.lv_edits.specs.declared.edit.Edit.TheVariants.{Push, Pop, Write, Reserve, Swap, Truncate}
use Rattle.lv_edits.specs.History.{list_of}
use Rattle.lv_tree.specs.Blocks.{block_of}

-- a tree with its body, its leaves and its room; how many edits it has followed; and how many elements there were then
pub record Following (B S : Type 0) : Type 0 where
  pub body : B
  pub sums : List S
  pub room : ℕ
  pub seen : ℕ
  pub size : ℕ

-- the fold of the eight elements of a block
abbrev pub leaf_of : {S : Type 0} → Operations S → List Edit → ℕ → S
leaf_of o es b = fold_of o (block_of b (list_of es))

-- eight elements of 64 bits: what a leaf is the fold of
abbrev pub IsBlock : List ℤ → Type 0
IsBlock xs = (length xs ≡ 8) × All IsElement xs

-- an edit overwrites no element of a block
abbrev pub Spares : ℕ → Edit → Type 0
Spares b (Push x) = Unit {0}
Spares b Pop = Unit {0}
Spares b (Write i x) = i / 8 ≢ b
Spares b (Reserve n) = Unit {0}
Spares b (Swap i j) = (i / 8 ≢ b) × (j / 8 ≢ b)
Spares b (Truncate n) = Unit {0}

-- a block is unchanged since the first `seen` edits: no later edit overwrites an element of it, and after each later edit the list still has all
-- eight of its elements
pub record Stands (es : List Edit) (seen b : ℕ) : Type 0 where
  pub spared : (k : ℕ) (e : Edit) → seen ≤ k → slice_get es k ≡ Some e → Spares b e
  pub whole : (k : ℕ) → seen < k → k ≤ length es → 8 * b + 8 ≤ length (list_of (take k es))

-- leaves over the first blocks follow a journal up to its first `seen` edits, after which there were `size` elements: each leaf is the fold of
-- some eight elements, and these are its block's elements if the block is unchanged since then
pub record FollowsBy {S : Type 0} (o : Operations S) (es : List Edit) (lists : List (List ℤ)) (sums : List S) (seen size : ℕ) : Type 0 where
  pub order : seen ≤ length es
  pub size_is : size ≡ length (list_of (take seen es))
  pub within : 8 * length sums ≤ size
  pub sums_are : sums ≡ map (fold_of o) lists
  pub blocks : All IsBlock lists
  pub right : (b : ℕ) → b < length sums → Stands es seen b → slice_index_or lists b [] ≡ block_of b (list_of es)

-- leaves follow a journal, with some lists of eight elements as those that the leaves are folds of
pub record Follows {S : Type 0} (o : Operations S) (es : List Edit) (sums : List S) (seen size : ℕ) : Type 0 where
  pub lists : List (List ℤ)
  pub by_lists : FollowsBy o es lists sums seen size

-- a tree follows a journal: its leaves do, up to as many edits as it has followed
abbrev pub IsLate : {B S : Type 0} → Operations S → List Edit → Following B S → Type 0
IsLate o es late = Follows o es late.sums late.seen late.size

-- leaves follow a whole journal
abbrev pub FollowsAll : {S : Type 0} → Operations S → List Edit → List S → Type 0
FollowsAll o es sums = Follows o es sums (length es) (length (list_of es))

-- there is room for all whole blocks of so many elements
abbrev pub HasRoomFor : {B S : Type 0} → Following B S → ℕ → Type 0
HasRoomFor late size = size ≤ 8 * late.room + 7

-- body and room are the same
pub record KeepsRoom {B S : Type 0} (old new : Following B S) : Type 0 where
  pub body : new.body ≡ old.body
  pub room : new.room ≡ old.room

-- a tree has followed all edits, with the same body and room
pub record HasFollowed {B S : Type 0} (o : Operations S) (es : List Edit) (old new : Following B S) : Type 0 where
  pub late : IsLate o es new
  pub seen : new.seen ≡ length es
  pub kept : KeepsRoom old new

-- all is the same, but for the room, which is no less
pub record KeepsLeaves {B S : Type 0} (old new : Following B S) : Type 0 where
  pub body : new.body ≡ old.body
  pub sums : new.sums ≡ old.sums
  pub room : old.room ≤ new.room
  pub seen : new.seen ≡ old.seen
  pub size : new.size ≡ old.size

-- every edit was followed, and each whole block before an index has a leaf
pub record IsUpTo {B S : Type 0} (es : List Edit) (hi : ℕ) (late : Following B S) : Type 0 where
  pub seen : late.seen ≡ length es
  pub blocks : hi / 8 ≤ length late.sums
