-- The close of an object that is no board, and the return of one that is no seat.
use Rattle.std.proofs.Common.{◌≡◌, refl}
use Rattle.std.specs.Prelude.{Option, Some}
use Rattle.livevec_c.specs.declared.kind_boards.KindBoard.{KindBoard}
use Rattle.livevec_c.specs.declared.kind_seats.KindSeat.{KindSeat}
use Rattle.livevec_c.specs.declared.objects.Object.{Object}
use Rattle.livevec_c.specs.declared.objects.Object.TheVariants.{Vector, Job, Outcome, Batch, BatchOutcome, Subtree, SubtreeOutcome, Board, Seat, Closed, Series, Samples, Loader, Queries}
use Rattle.livevec_c.specs.Behind.{no_count}
use Rattle.livevec_c.specs.Lives.{ClosesObject, TakesBackObject}

pub other_closes : (old : Object) → ((b : KindBoard) → old ≡ Board b → ⊥) → ClosesObject no_count old old
other_closes (Vector state only) other = (refl, refl)
other_closes (Job job) other = (refl, refl)
other_closes (Outcome outcome) other = (refl, refl)
other_closes (Batch jobs) other = (refl, refl)
other_closes (BatchOutcome jobs) other = (refl, refl)
other_closes (Subtree job) other = (refl, refl)
other_closes (SubtreeOutcome outcome) other = (refl, refl)
other_closes (Board board) other = elim (other board refl) [ ]
other_closes (Seat seat) other = (refl, refl)
other_closes (Closed ended) other = (refl, refl)
other_closes (Series series) other = (refl, refl)
other_closes (Samples samples) other = (refl, refl)
other_closes (Loader bytes) other = (refl, refl)
other_closes (Queries set) other = (refl, refl)

-- an object that is no seat isn't taken back
pub other_stays : (board : KindBoard) (held : Object) (slot : Option Object) → ((s : KindSeat) → held ≡ Seat s → ⊥) → slot ≡ Some held → TakesBackObject 101 board held board slot
other_stays board (Vector state only) slot other is = (refl, refl, is)
other_stays board (Job job) slot other is = (refl, refl, is)
other_stays board (Outcome outcome) slot other is = (refl, refl, is)
other_stays board (Batch jobs) slot other is = (refl, refl, is)
other_stays board (BatchOutcome jobs) slot other is = (refl, refl, is)
other_stays board (Subtree job) slot other is = (refl, refl, is)
other_stays board (SubtreeOutcome outcome) slot other is = (refl, refl, is)
other_stays board (Board closed) slot other is = (refl, refl, is)
other_stays board (Seat seat) slot other is = elim (other seat refl) [ ]
other_stays board (Closed ended) slot other is = (refl, refl, is)
other_stays board (Series series) slot other is = (refl, refl, is)
other_stays board (Samples samples) slot other is = (refl, refl, is)
other_stays board (Loader bytes) slot other is = (refl, refl, is)
other_stays board (Queries set) slot other is = (refl, refl, is)
