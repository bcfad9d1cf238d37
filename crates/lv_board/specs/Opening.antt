-- A new board and its seats.
use Rattle.std.specs.Prelude.{◌≡◌, ◌⊎◌, ℕ, ◌<◌, ◌≤◌, List, length, IfSome, slice_get}
use Rattle.atomic_table.specs.Seated.{TableId}
use Rattle.lv_geometry.specs.Bounds.{Bounds}
use Rattle.lv_geometry.specs.declared.refusals.Refusal.{Refusal}
use Rattle.lv_geometry.specs.declared.refusals.Refusal.TheVariants.{BadLimits, NoMemory}
use Rattle.lv_board.specs.declared.actors.Basis.{Basis}
use Rattle.lv_board.specs.declared.seats.Seat.{Seat}
use Rattle.lv_board.specs.Rule.{newcomer}
use Rattle.lv_board.specs.Tells.{actor_of, IsAt}

-- What a board may be opened with: at most 9 buckets, and 1 to 8 seats.
pub record MayOpen (limits : Bounds) (seats : ℕ) : Type 0 where
  pub few_buckets : limits.buckets ≤ 9
  pub some_seats : 1 ≤ seats
  pub few_seats : seats ≤ 8

-- A basis with these limits, this number of seats and this monoid instance.
abbrev pub IsBasisOf : {B : Type 0} → Bounds → ℕ → B → Basis B → Type 0
IsBasisOf limits seats body z = z ≡ record { buckets = limits.buckets; edits = limits.edits; seats = seats; body = body }

-- The seats of a new board. Seat k is actor k, and has seen nothing.
abbrev pub AreDealt : {B : Type 0} → TableId → Basis B → List (Seat B) → Type 0
AreDealt table z seats = (k : ℕ) → k < length seats → IfSome (slice_get seats k) (λ s. IsAt table z s × (actor_of s ≡ newcomer k))

-- Why no board is made: what is asked isn't allowed, or otherwise memory ran out.
abbrev pub IsOpeningRefusal : Bounds → ℕ → Refusal → Type 0
IsOpeningRefusal limits seats refusal = ((¬ MayOpen limits seats) × (refusal ≡ BadLimits)) ⊎ (MayOpen limits seats × (refusal ≡ NoMemory))
