-- All seats of a board, in the order of their numbers.
use Rattle.std.specs.Prelude.{◌≡◌, ℕ, ◌<◌, List, length, slice_index_or}
use Rattle.atomic_table.specs.Seated.{TableId}
use Rattle.lv_board.specs.declared.actors.Basis.{Basis}
use Rattle.lv_board.specs.declared.seats.Seat.{Seat}
use Rattle.lv_board.specs.Tells.{actor_of, IsAt}

-- As many seats as the board of this table and basis has. Each is one of the board's, and seat k has the number k.
pub record AreInOrder {B : Type 0} (table : TableId) (z : Basis B) (seats : List (Seat B)) : Type 0 where
  pub count : length seats ≡ z.seats
  pub each : (k : ℕ) (s : Seat B) → k < length seats → IsAt table z (slice_index_or seats k s) × ((actor_of (slice_index_or seats k s)).number ≡ k)
