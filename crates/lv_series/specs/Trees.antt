-- The trees of a series, one for each kind that was asked for.
use Rattle.std.specs.Prelude.{◌≡◌, ℕ, ℤ, true, if◌then◌else◌, List}
use Rattle.lv_bodies.specs.AffineMaps.{affine_operations}
use Rattle.lv_bodies.specs.Automata.{table_of}
use Rattle.lv_bodies.specs.Body.{Operations, fold_of}
use Rattle.lv_bodies.specs.Extremes.{highest_operations, lowest_operations}
use Rattle.lv_bodies.specs.RunTotals.{runs_operations}
use Rattle.lv_bodies.specs.Sums.{sum_operations}
use Rattle.lv_bodies.specs.Tables.{automaton_operations}
use Rattle.lv_bodies.specs.declared.affine.Affine.{Affine}
use Rattle.lv_bodies.specs.declared.affine.AffineMap.{AffineMap}
use Rattle.lv_bodies.specs.declared.automata.Automaton.{Automaton}
use Rattle.lv_bodies.specs.declared.bare.BareExtreme.{BareExtreme}
use Rattle.lv_bodies.specs.declared.best.RunTotals.{RunTotals}
use Rattle.lv_bodies.specs.declared.orders.Downward.{Downward}
use Rattle.lv_bodies.specs.declared.orders.Upward.{Upward}
use Rattle.lv_bodies.specs.declared.runs.Runs.{Runs}
use Rattle.lv_bodies.specs.declared.sums.Sum.{Sum}
use Rattle.lv_series.specs.Blocks.{CanCut, CanGrow, CanRenew, IsOver, Layered, before_block, from_block, with_leaf, with_leaf_at, without_last}
use Rattle.lv_series.specs.Plain.{KeptKinds}
use Rattle.lv_series.specs.declared.trees.Grown.{Grown}

-- for each kind its tree, which may be kept or not; those of the least, the greatest and the best run have bare summaries
pub record TreesState : Type 0 where
  pub sums : Layered Sum ℕ
  pub least : Layered (BareExtreme Upward) ℤ
  pub greatest : Layered (BareExtreme Downward) ℤ
  pub best : Layered Runs RunTotals
  pub maps : Layered Affine AffineMap
  pub states : Layered Automaton (List ℕ)

-- the automaton's table
abbrev pub table_in : TreesState → List (List ℕ)
table_in t = table_of t.states.body

-- which kinds have a tree
abbrev pub kinds_in : TreesState → KeptKinds
kinds_in t = record { sum = t.sums.kept; least = t.least.kept; greatest = t.greatest.kept; best = t.best.kept; affine = t.maps.kept; automaton = t.states.kept }

-- something that holds of a tree by a body's operations, and a change of it
abbrev pub Law : Type 1
Law = (B S : Type 0) → Operations S → Layered B S → Type 0

abbrev pub Change : Type 1
Change = (B S : Type 0) → Operations S → Layered B S → Layered B S

-- it holds of each tree
pub record OfEach (P : Law) (t : TreesState) : Type 0 where
  pub sums : P Sum ℕ sum_operations t.sums
  pub least : P (BareExtreme Upward) ℤ lowest_operations t.least
  pub greatest : P (BareExtreme Downward) ℤ highest_operations t.greatest
  pub best : P Runs RunTotals runs_operations t.best
  pub maps : P Affine AffineMap affine_operations t.maps
  pub states : P Automaton (List ℕ) (automaton_operations (table_in t)) t.states

-- some of the trees after a change, and all of them
abbrev pub some_changed : Grown → Change → TreesState → TreesState
some_changed g f t = record {
  sums = if g.sums then f Sum ℕ sum_operations t.sums else t.sums;
  least = if g.least then f (BareExtreme Upward) ℤ lowest_operations t.least else t.least;
  greatest = if g.greatest then f (BareExtreme Downward) ℤ highest_operations t.greatest else t.greatest;
  best = if g.best then f Runs RunTotals runs_operations t.best else t.best;
  maps = if g.maps then f Affine AffineMap affine_operations t.maps else t.maps;
  states = if g.states then f Automaton (List ℕ) (automaton_operations (table_in t)) t.states else t.states;
}

abbrev pub all_grown : Grown
all_grown = record { sums = true; least = true; greatest = true; best = true; maps = true; states = true }

abbrev pub each : Change → TreesState → TreesState
each f t = some_changed all_grown f t

-- each tree that is kept has the leaves of the blocks in memory
abbrev pub AreOver : ℕ → ℕ → List ℤ → TreesState → Type 0
AreOver base first elements t = OfEach (λ B S o layer. IsOver o base first elements layer) t

-- no kind gains or loses its tree, and the automaton is unchanged
pub record KeepsKinds (old new : TreesState) : Type 0 where
  pub table : table_in new ≡ table_in old
  pub kinds : kinds_in new ≡ kinds_in old

-- each tree that is kept with one leaf more, that of a block; or with that of a block renewed
abbrev pub with_leaves : List ℤ → TreesState → TreesState
with_leaves block t = each (λ B S o layer. with_leaf (fold_of o block) layer) t

abbrev pub with_leaves_at : ℕ → List ℤ → TreesState → TreesState
with_leaves_at block elements t = each (λ B S o layer. with_leaf_at block (fold_of o elements) layer) t

-- each without its leaves from a block on, or without those before it
abbrev pub before_blocks : ℕ → TreesState → TreesState
before_blocks block t = each (λ B S o layer. before_block block layer) t

abbrev pub from_blocks : ℕ → TreesState → TreesState
from_blocks block t = each (λ B S o layer. from_block block layer) t

-- some of them with one leaf more, and without their last leaf
abbrev pub grown_in : Grown → List ℤ → TreesState → TreesState
grown_in g block t = some_changed g (λ B S o layer. with_leaf (fold_of o block) layer) t

abbrev pub taken_back : Grown → TreesState → TreesState
taken_back g t = some_changed g (λ B S o layer. without_last layer) t

-- each tree that is kept can be changed so
abbrev pub CanGrowAll : List ℤ → TreesState → Type 0
CanGrowAll block t = OfEach (λ B S o layer. CanGrow o block layer) t

abbrev pub CanRenewAll : ℕ → List ℤ → TreesState → Type 0
CanRenewAll block elements t = OfEach (λ B S o layer. CanRenew o block elements layer) t

abbrev pub CanCutAll : ℕ → TreesState → Type 0
CanCutAll block t = OfEach (λ B S o layer. CanCut block layer) t
