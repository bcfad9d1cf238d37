-- What is kept of a vector's queries, by kind: a tree for each kind, which follows the vector's edits at queries.
use Rattle.std.specs.Prelude.{◌≡◌, ◌≢◌, ◌⊎◌, ℕ, ℤ, ◌+◌, ◌*◌, ◌/◌, ◌<◌, ◌≤◌, List, length}
use Rattle.lv_bodies.specs.AffineMaps.{affine_operations}
use Rattle.lv_bodies.specs.Extremes.{highest_operations, lowest_operations}
use Rattle.lv_bodies.specs.RunTotals.{runs_operations}
use Rattle.lv_bodies.specs.Sums.{sum_operations}
use Rattle.lv_bodies.specs.Tables.{automaton_operations}
use Rattle.lv_bodies.specs.declared.affine.Affine.{Affine}
use Rattle.lv_bodies.specs.declared.affine.AffineMap.{AffineMap}
use Rattle.lv_bodies.specs.declared.automata.Automaton.{Automaton}
use Rattle.lv_bodies.specs.declared.bare.BareExtreme.{BareExtreme}
use Rattle.lv_bodies.specs.declared.best.RunTotals.{RunTotals}
use Rattle.lv_bodies.specs.declared.kinds.Kind.{Kind}
use Rattle.lv_bodies.specs.declared.kinds.Kind.TheVariants as kind
use Rattle.lv_bodies.specs.declared.orders.Downward.{Downward}
use Rattle.lv_bodies.specs.declared.orders.Upward.{Upward}
use Rattle.lv_bodies.specs.declared.runs.Runs.{Runs}
use Rattle.lv_bodies.specs.declared.sums.Sum.{Sum}
use Rattle.lv_edits.specs.declared.edit.Edit.{Edit}
use Rattle.lv_edits.specs.History.{list_of}
use Rattle.lv_tree.specs.Follows.{Following, IsLate}
use Rattle.lv_tree.specs.LastSum.{IsSumOfRange}
use Rattle.lv_tree.specs.declared.last_sum.LastSum.{LastSum}

-- the automaton's table; for how many blocks of eight elements there is room; the sum that was returned last; and the tree of each kind, whose
-- rows are bare for the least, the greatest and the best run
pub record KindsState : Type 0 where
  pub table : List (List ℕ)
  pub room : ℕ
  pub last : LastSum
  pub sums : Following Sum ℕ
  pub least : Following (BareExtreme Upward) ℤ
  pub greatest : Following (BareExtreme Downward) ℤ
  pub best : Following Runs RunTotals
  pub maps : Following Affine AffineMap
  pub states : Following Automaton (List ℕ)

-- how many edits a kind has followed
abbrev pub followed_by : KindsState → Kind → ℕ
followed_by s kind.Sum = s.sums.seen
followed_by s kind.Least = s.least.seen
followed_by s kind.Greatest = s.greatest.seen
followed_by s kind.Best = s.best.seen
followed_by s kind.Affine = s.maps.seen
followed_by s kind.Automaton = s.states.seen

-- of how many blocks a kind has a leaf
abbrev pub blocks_of : KindsState → Kind → ℕ
blocks_of s kind.Sum = length s.sums.sums
blocks_of s kind.Least = length s.least.sums
blocks_of s kind.Greatest = length s.greatest.sums
blocks_of s kind.Best = length s.best.sums
blocks_of s kind.Affine = length s.maps.sums
blocks_of s kind.Automaton = length s.states.sums

-- what is kept is right for a vector with these edits, and by this table: each kind follows them, and the sum that was returned last is that of
-- its range
pub record AreKept (table : List (List ℕ)) (edits : List Edit) (s : KindsState) : Type 0 where
  pub table_is : s.table ≡ table
  pub last : IsSumOfRange edits s.last
  pub sums : IsLate sum_operations edits s.sums
  pub least : IsLate lowest_operations edits s.least
  pub greatest : IsLate highest_operations edits s.greatest
  pub best : IsLate runs_operations edits s.best
  pub maps : IsLate affine_operations edits s.maps
  pub states : IsLate (automaton_operations s.table) edits s.states

-- there is memory for all that can be asked of so many elements
pub record HaveRoomFor (s : KindsState) (size : ℕ) : Type 0 where
  pub room : size < 8 * s.room + 8

-- what is kept is right for a vector with these edits, and there is room for all that can be asked of it
pub record AreReady (table : List (List ℕ)) (edits : List Edit) (s : KindsState) : Type 0 where
  pub kept : AreKept table edits s
  pub room : HaveRoomFor s (length (list_of edits))

-- no kind follows more or less, and there is room for no less
pub record LeavesAll (old new : KindsState) : Type 0 where
  pub table : new.table ≡ old.table
  pub followed : (k : Kind) → followed_by new k ≡ followed_by old k
  pub blocks : (k : Kind) → blocks_of new k ≡ blocks_of old k
  pub room : (size : ℕ) → HaveRoomFor old size → HaveRoomFor new size

-- a kind follows no more and no less, or it follows all edits
abbrev pub IsLeftOrFollows : List Edit → Kind → KindsState → KindsState → Type 0
IsLeftOrFollows edits k old new = ((followed_by new k ≡ followed_by old k) × (blocks_of new k ≡ blocks_of old k)) ⊎ (followed_by new k ≡ length edits)

-- each kind follows no more and no less, or it follows all edits, and there is room for no less
pub record LeavesOrFollows (edits : List Edit) (old new : KindsState) : Type 0 where
  pub table : new.table ≡ old.table
  pub followed : (k : Kind) → IsLeftOrFollows edits k old new
  pub room : (size : ℕ) → HaveRoomFor old size → HaveRoomFor new size

-- no kind but this one follows more or less, and there is room for no less
pub record LeavesOthers (kind : Kind) (old new : KindsState) : Type 0 where
  pub table : new.table ≡ old.table
  pub followed : (k : Kind) → k ≢ kind → followed_by new k ≡ followed_by old k
  pub blocks : (k : Kind) → k ≢ kind → blocks_of new k ≡ blocks_of old k
  pub room : (size : ℕ) → HaveRoomFor old size → HaveRoomFor new size

-- as after room was made: no kind follows more or less, and what is kept is right for whatever it was right for
pub record KeepsAlike (old new : KindsState) : Type 0 where
  pub leaves : LeavesAll old new
  pub kept : (table : List (List ℕ)) (edits : List Edit) → AreKept table edits old → AreKept table edits new

-- a range is answered without the kind's tree: it is short, or it is the one whose sum was returned last
abbrev pub IsNear : Kind → ℕ → ℕ → KindsState → Type 0
IsNear k lo hi s = (hi ≤ lo + 64) ⊎ ((k ≡ kind.Sum) × (s.last.lo ≡ lo) × (s.last.hi ≡ hi))

-- a kind has followed all edits, and has a leaf of each whole block before an index
pub record IsCaughtUp (edits : List Edit) (kind : Kind) (hi : ℕ) (s : KindsState) : Type 0 where
  pub followed : followed_by s kind ≡ length edits
  pub blocks : hi / 8 ≤ blocks_of s kind
