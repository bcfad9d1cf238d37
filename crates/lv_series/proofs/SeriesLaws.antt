-- What an accepted edit leaves of a series.
use Rattle.std.proofs.Common.{◌≡◌, ℕ, ◌+◌, None, ap, ◌∙◌}
use Rattle.lv_series.specs.declared.edits.LongEdit.{LongEdit}
use Rattle.lv_series.specs.declared.receipts.LongReceipt.{LongReceipt}
use Rattle.lv_series.specs.Series.{Accepts, Held, SeriesState, changed, receipt_of, refused}
use Rattle.lv_series.specs.Trees.{KeepsKinds, TreesState, kinds_in, table_in}

-- a series with these trees
abbrev pub with_trees : TreesState → Held → ℕ → SeriesState
with_trees t held edits = record { table = table_in t; kinds = kinds_in t; held = held; edits = edits }

-- trees that keep their kinds, and the same held
pub trees_kept : (old new : TreesState) (held next : Held) (edits : ℕ) → KeepsKinds old new → next ≡ held → with_trees new next edits ≡ with_trees old held edits
trees_kept old new held next edits kept is =
    ap (λ t. record { table = t; kinds = kinds_in new; held = next; edits = edits }) kept.table
    ∙ ap (λ k. record { table = table_in old; kinds = k; held = next; edits = edits }) kept.kinds
    ∙ ap (λ h. with_trees old h edits) is

-- an edit was accepted
pub accepted : (old new : TreesState) (held next : Held) (edits : ℕ) (e : LongEdit) (receipt : LongReceipt) → KeepsKinds old new → refused (with_trees old held edits) e ≡ None → next ≡ changed held e → receipt ≡ receipt_of (with_trees old held edits) e → Accepts (with_trees old held edits) e receipt (with_trees new next (edits + 1))
accepted old new held next edits e receipt kept free is answer = record {
  free = free;
  receipt_is = answer;
  after = trees_kept old new (changed held e) next (edits + 1) kept is;
}

-- trees that keep their kinds, one after another
pub kept_twice : (old mid new : TreesState) → KeepsKinds old mid → KeepsKinds mid new → KeepsKinds old new
kept_twice old mid new first second = record { table = second.table ∙ first.table; kinds = second.kinds ∙ first.kinds }
