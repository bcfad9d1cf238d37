-- The pieces that a reduction reads: fresh nodes that begin at an index and end in the range.
use Rattle.std.specs.Prelude.{◌≡◌, ℕ, ◌+◌, ◌%◌, ◌^◌, ◌<◌, ◌≤◌, Bool, false, Some}
use Rattle.lv_geometry.specs.declared.nodes.Node.{Node}
use Rattle.lv_geometry.specs.Nodes.{over}
use Rattle.lv_summary.specs.Table.{Table, entry_in, fresh_in}

-- a node of a level begins at index at and ends at or before hi; level 0 means the cell at the index
pub record Fits (at hi level : ℕ) : Type 0 where
  pub begins : at % 8 ^ level ≡ 0
  pub ends : at + 8 ^ level ≤ hi

-- no node of a level above this one that begins at the index and ends in the range is fresh
abbrev pub NoneFresh : (Node → Bool) → ℕ → ℕ → ℕ → Type 0
NoneFresh fresh at hi level = (above : ℕ) → level < above → above ≤ 6 → Fits at hi above → fresh (over above at) ≡ false

-- s is the summary of the greatest fresh node that begins at the index and ends in the range, which is of this level
pub record IsGreatestFresh {S : Type 0} (t : Table S) (at hi level : ℕ) (s : S) : Type 0 where
  pub low : 1 ≤ level
  pub high : level ≤ 6
  pub fits : Fits at hi level
  pub entry : entry_in t (over level at) ≡ Some s
  pub greatest : NoneFresh (fresh_in t) at hi level
