-- What a seat relies on: its board, its look, and what its actor knows.
use Rattle.std.specs.Prelude.{◌≡◌, ℕ, ◌<◌, ◌≤◌, true, List, length}
use Rattle.lv_geometry.specs.Cells.{capacity_of}
use Rattle.lv_machine.specs.declared.entries.Entry.{Entry}
use Rattle.lv_machine.specs.History.{descriptor_of, elements_of}
use Rattle.lv_machine.specs.Words.{edit_of, HasPending, index_of, size_of}
use Rattle.lv_board.specs.declared.actors.Actor.{Actor}
use Rattle.lv_board.specs.declared.actors.Basis.{Basis}

-- A basis of the lock-free form, with at most 9 buckets, 16777215 updates and 8 seats.
pub record IsBasis {B : Type 0} (z : Basis B) : Type 0 where
  pub some_buckets : 1 ≤ z.buckets
  pub few_buckets : z.buckets ≤ 9
  pub some_edits : 1 ≤ z.edits
  pub few_edits : z.edits ≤ 16777215
  pub few_seats : z.seats ≤ 8

-- A look is the descriptor of what was seen, within the limits.
pub record IsLook (buckets edits look : ℕ) (seen : List Entry) : Type 0 where
  pub shown : look ≡ descriptor_of seen
  pub edit : edit_of look ≡ length seen
  pub size : size_of look ≡ length (elements_of seen)
  pub few_edits : edit_of look ≤ edits
  pub few_cells : size_of look ≤ capacity_of buckets
  pub pending : HasPending look → index_of look < capacity_of buckets

-- A look is ready for a compare-and-swap: its pending write, if there is one, is complete.
pub record IsReady (x : Actor) (look : ℕ) : Type 0 where
  pub helped : HasPending look → x.helped ≡ true
  pub marked : HasPending look → x.marked ≡ true
