-- How the table of summaries and the claims follow many pushes at once.
use Rattle.std.specs.Prelude.{◌≡◌, ◌+◌, ℕ, ℤ, Some, List, length}
use Rattle.lv_geometry.specs.declared.nodes.Node.{Node}
use Rattle.lv_bodies.specs.Body.{Operations}
use Rattle.lv_edits.specs.History.{History, list_of, replayed}
use Rattle.lv_edits.specs.Pushes.{with_pushes}
use Rattle.lv_summary.specs.Agrees.{Agrees}
use Rattle.lv_summary.specs.Table.{Table, blocks_in, kept_in}
use Rattle.lv_refresh.specs.ClaimTable.{AreHints, ClaimTable, record_of}
use Rattle.lv_live.specs.Follows.{ClaimsAlike}

-- so many values are pushed to a history that is legal, the first at this index, after so many edits
pub record ArePushesAt (h : History) (xs : List ℤ) (first edit count : ℕ) : Type 0 where
  pub legal : replayed h.journal ≡ Some (list_of h.journal)
  pub first_is : length (list_of h.journal) ≡ first
  pub edit_is : length h.journal ≡ edit
  pub count_is : length xs ≡ count

-- table and claims after so many pushes from an index on, the first of them the one after so many edits: who agreed with the journal
-- agrees with it after the pushes, the nodes that want a job are hinted at, and what is kept and claimed stays
pub record PushesFollow {S : Type 0} (t u : Table S) (c d : ClaimTable) (first edit count : ℕ) : Type 0 where
  pub size : u.size ≡ first + count
  pub blocks : blocks_in u ≡ blocks_in t
  pub kept : (n : Node) → kept_in u n ≡ kept_in t n
  pub claims : ClaimsAlike c d
  pub agrees : (o : Operations S) (h : History) (xs : List ℤ) → ArePushesAt h xs first edit count → Agrees o h.journal t → Agrees o (with_pushes h xs).journal u
  pub hints : (o : Operations S) (h : History) (xs : List ℤ) → ArePushesAt h xs first edit count → Agrees o h.journal t → AreHints (record_of h.journal t c) c → AreHints (record_of (with_pushes h xs).journal u d) d
