-- How the table of summaries and the claims follow many writes at once.
use Rattle.std.specs.Prelude.{◌≡◌, ◌<◌, ℕ, ℤ, Some, List, length, All}
use Rattle.lv_geometry.specs.declared.nodes.Node.{Node}
use Rattle.lv_bodies.specs.Body.{Operations}
use Rattle.lv_edits.specs.Batches.{with_edits, writes_at}
use Rattle.lv_edits.specs.History.{History, list_of, replayed}
use Rattle.lv_summary.specs.Agrees.{Agrees}
use Rattle.lv_summary.specs.Table.{Table, blocks_in, kept_in}
use Rattle.lv_refresh.specs.ClaimTable.{AreHints, ClaimTable, record_of}
use Rattle.lv_live.specs.Follows.{ClaimsAlike}

-- values are written at indices of a legal history's list, a value at each, after so many edits
pub record AreWritesAt (h : History) (indices : List ℕ) (xs : List ℤ) (edit : ℕ) : Type 0 where
  pub legal : replayed h.journal ≡ Some (list_of h.journal)
  pub inside : All (λ i. i < length (list_of h.journal)) indices
  pub edit_is : length h.journal ≡ edit
  pub paired : length indices ≡ length xs

-- table and claims after writes at some indices, the first of them the one after so many edits: who agreed with the journal agrees with
-- it after the writes, the nodes that want a job are hinted at, and what is kept and claimed stays
pub record WritesFollow {S : Type 0} (t u : Table S) (c d : ClaimTable) (indices : List ℕ) (edit : ℕ) : Type 0 where
  pub size : u.size ≡ t.size
  pub blocks : blocks_in u ≡ blocks_in t
  pub kept : (n : Node) → kept_in u n ≡ kept_in t n
  pub claims : ClaimsAlike c d
  pub agrees : (o : Operations S) (h : History) (xs : List ℤ) → AreWritesAt h indices xs edit → Agrees o h.journal t → Agrees o (with_edits h (writes_at indices xs)).journal u
  pub hints : (o : Operations S) (h : History) (xs : List ℤ) → AreWritesAt h indices xs edit → Agrees o h.journal t → AreHints (record_of h.journal t c) c → AreHints (record_of (with_edits h (writes_at indices xs)).journal u d) d
