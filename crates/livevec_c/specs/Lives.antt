-- How vectors and boards in slots begin, and how a board ends.
use Rattle.std.specs.Prelude.{◌≡◌, ◌≢◌, ◌⊎◌, ◌<◌, ◌≤◌, ℕ, Bool, true, false, Option, Some, None, List, [], All, Any}
use Rattle.lv_geometry.specs.Bounds.{AreAllowed, Bounds}
use Rattle.lv_geometry.specs.declared.nodes.Node.{Node}
use Rattle.lv_bodies.specs.declared.kinds.Kind.{Kind}
use Rattle.lv_bodies.specs.Automata.{table_of}
use Rattle.lv_bodies.specs.Plain.{plain_value, program_table}
use Rattle.lv_edits.specs.Kept.{IsLegalInLimits}
use Rattle.lv_live.specs.State.{recorded}
use Rattle.lv_board.specs.Opening.{MayOpen}
use Rattle.lv_board.specs.declared.sharing.Unclosed.{Unclosed}
use Rattle.lv_board.specs.declared.sharing.Unclosed.TheVariants as unclosed
use Rattle.lv_board.specs.declared.sharing.Unseated.{Unseated}
use Rattle.lv_board.specs.declared.sharing.Unseated.TheVariants.{NoMemory, NoSeat}
use Rattle.lv_board.specs.Sharing.{IsBack, IsClosedShared, IsNewlyShared, IsUnclosed, Sits}
use Rattle.livevec_c.specs.declared.ended.Ended.{Ended}
use Rattle.livevec_c.specs.declared.kind_boards.KindBoard.{KindBoard}
use Rattle.livevec_c.specs.declared.kind_seats.KindSeat.{KindSeat}
use Rattle.livevec_c.specs.declared.objects.Object.{Object}
use Rattle.livevec_c.specs.declared.objects.Object.TheVariants.{Board, Closed, Seat, Vector}
use Rattle.livevec_c.specs.declared.results.Count.{Count}
use Rattle.livevec_c.specs.Behind.{no_count, State}
use Rattle.livevec_c.specs.Kinds.{folding_of, HasOwnStamp, IsOutOf, kind_at, sat_at, shared_at}

-- a vector of these limits and of an automaton of this table, with no edits, no claims and nothing kept
pub record IsNew (limits : Bounds) (table : List (List ℕ)) (state : State) : Type 0 where
  pub table_is : table_of state.body.automaton ≡ table
  pub history : state.history ≡ record { limits = limits; journal = [] }
  pub within : IsLegalInLimits state.history
  pub unclaimed : (n : Node) → (recorded state).claimed n ≡ None
  pub nothing_kept : (n : Node) → (recorded state).kept n ≡ None

-- an object that is such a vector, of one kind or of all six
abbrev pub IsNewObject : Option Kind → Bounds → List (List ℕ) → Object → Type 0
IsNewObject only limits table object = (state : State) × (object ≡ Vector state only) × IsNew limits table state

-- a slot that was empty holds a new vector, or there was no memory, and it is empty
abbrev pub OpensAt : Option Kind → Bounds → List (List ℕ) → ℕ → Option Object → Type 0
OpensAt only limits table number new =
    ((number ≡ 6) × (new ≡ None)) ⊎ ((number ≡ 0) × ((object : Object) × (new ≡ Some object) × IsNewObject only limits table object))

-- a slot for a new vector by the program's automaton, or by one of a table that may have a wrong entry
abbrev pub OpensBy : Option Kind → Option (List (List ℕ)) → Bounds → ℕ → Option Object → Type 0
OpensBy only None limits number new = OpensAt only limits program_table number new
OpensBy only (Some table) limits number new =
    ((number ≡ 9) × Any (Any (λ q. 7 < q)) table × (new ≡ None)) ⊎ (All (All (λ q. q ≤ 7)) table × OpensAt only limits table number new)

-- which table is asked for
abbrev pub table_asked : Bool → List (List ℕ) → Option (List (List ℕ))
table_asked true table = Some table
table_asked false table = None

-- a slot for a new vector, if the kinds that are asked for are known and the limits are allowed
abbrev pub OpensOf : Option (Option Kind) → Option (List (List ℕ)) → ℕ → ℕ → ℕ → Option Object → Type 0
OpensOf None table buckets edits number new = (number ≡ 113) × (new ≡ None)
OpensOf (Some only) table buckets edits number new =
    ((number ≡ 8) × (¬ AreAllowed buckets edits) × (new ≡ None))
    ⊎ (AreAllowed buckets edits × OpensBy only table (record { buckets = buckets; edits = edits }) number new)

-- a new vector for a slot
abbrev pub Opens : Option (Option Kind) → Option (List (List ℕ)) → ℕ → ℕ → ℕ → Option Object → Option Object → Type 0
Opens only table buckets edits number (Some object) new = (number ≡ 104) × (new ≡ Some object)
Opens only table buckets edits number None new = OpensOf only table buckets edits number new

-- ---- boards

-- a slot that was empty holds a new board of a kind; or it is empty, because there was no memory or such a board may not be opened
abbrev pub OpensBoardAt : Kind → Bounds → ℕ → ℕ → ℕ → Option Object → Type 0
OpensBoardAt kind limits seats stamp number new =
    ((number ≡ 8) × (¬ MayOpen limits seats) × (new ≡ None))
    ⊎ ((number ≡ 6) × MayOpen limits seats × (new ≡ None))
    ⊎ ((number ≡ 0) × ((board : KindBoard) × (new ≡ Some (Board board)) × IsNewlyShared limits seats stamp (folding_of kind) kind (plain_value kind) (shared_at board)))

-- a slot for a new board, if the kind that is asked for is known and the limits are allowed
abbrev pub OpensBoardOf : Option Kind → ℕ → ℕ → ℕ → ℕ → ℕ → Option Object → Type 0
OpensBoardOf None buckets edits seats stamp number new = (number ≡ 8) × (new ≡ None)
OpensBoardOf (Some kind) buckets edits seats stamp number new =
    ((number ≡ 8) × (¬ AreAllowed buckets edits) × (new ≡ None))
    ⊎ (AreAllowed buckets edits × OpensBoardAt kind (record { buckets = buckets; edits = edits }) seats stamp number new)

-- a new board for a slot
abbrev pub OpensBoard : ℕ → ℕ → ℕ → ℕ → ℕ → ℕ → Option Object → Option Object → Type 0
OpensBoard kind buckets edits seats stamp number (Some object) new = (number ≡ 104) × (new ≡ Some object)
OpensBoard kind buckets edits seats stamp number None new = OpensBoardOf (kind_at kind) buckets edits seats stamp number new

-- the number for why nobody sits down
abbrev pub seatless : Unseated → ℕ
seatless NoSeat = 105
seatless NoMemory = 6

-- the slot holds the first of the seats that were there; or it is empty, because there was no memory or because no seat was there
abbrev pub SitsBoard : ℕ → KindBoard → KindBoard → Option Object → Type 0
SitsBoard number old new slot =
    ((number ≡ 6) × (shared_at new ≡ shared_at old) × (slot ≡ None))
    ⊎ ((number ≡ 105) × ((shared_at old).left ≡ []) × (shared_at new ≡ shared_at old) × (slot ≡ None))
    ⊎ ((number ≡ 0) × ((seat : KindSeat) × (slot ≡ Some (Seat seat)) × Sits (shared_at old) (sat_at seat) (shared_at new) × IsOutOf new seat))

abbrev pub SitsObject : ℕ → Object → Object → Option Object → Type 0
SitsObject number (Board old) new slot = (board : KindBoard) × (new ≡ Board board) × SitsBoard number old board slot
SitsObject number other new slot = (number ≡ 101) × (new ≡ other) × (slot ≡ None)

-- a seat at the object in a slot, for an empty slot of the seat
abbrev pub SitsInto : ℕ → Option Object → Option Object → Option Object → Type 0
SitsInto number None new slot = (number ≡ 101) × (new ≡ None) × (slot ≡ None)
SitsInto number (Some old) new slot = (object : Object) × (new ≡ Some object) × SitsObject number old object slot

abbrev pub SitsDown : ℕ → Option Object → Option Object → Option Object → Option Object → Type 0
SitsDown number old (Some object) new slot = (number ≡ 104) × (new ≡ old) × (slot ≡ Some object)
SitsDown number old None new slot = SitsInto number old new slot

-- a seat was taken back, and its slot is empty; or it is another board's, and all is as it was
abbrev pub TakesBackAt : ℕ → KindBoard → KindSeat → KindBoard → Option Object → Type 0
TakesBackAt number old seat new slot =
    ((number ≡ 0) × IsBack (shared_at old) (sat_at seat) (shared_at new) × (slot ≡ None))
    ⊎ ((number ≡ 107) × ((sat_at seat).stamp ≢ (shared_at old).stamp) × (shared_at new ≡ shared_at old) × ((same : KindSeat) × (slot ≡ Some (Seat same)) × (sat_at same ≡ sat_at seat)))

abbrev pub TakesBackObject : ℕ → KindBoard → Object → KindBoard → Option Object → Type 0
TakesBackObject number old (Seat seat) new slot = TakesBackAt number old seat new slot
TakesBackObject number old other new slot = (number ≡ 101) × (new ≡ old) × (slot ≡ Some other)

-- a seat is taken back at an object, which is to be a board
abbrev pub TakesBackBy : ℕ → Object → Object → Object → Option Object → Type 0
TakesBackBy number (Board old) seat new slot = (board : KindBoard) × (new ≡ Board board) × TakesBackObject number old seat board slot
TakesBackBy number other seat new slot = (number ≡ 101) × (new ≡ other) × (slot ≡ Some seat)

-- a seat is taken back at the object in the board's slot, out of the seat's slot
abbrev pub TakesBackFrom : ℕ → Option Object → Object → Option Object → Option Object → Type 0
TakesBackFrom number None seat new slot = (number ≡ 101) × (new ≡ None) × (slot ≡ Some seat)
TakesBackFrom number (Some old) seat new slot = (object : Object) × (new ≡ Some object) × TakesBackBy number old seat object slot

abbrev pub TakesBack : ℕ → Option Object → Option Object → Option Object → Option Object → Type 0
TakesBack number old None new slot = (number ≡ 101) × (new ≡ old) × (slot ≡ None)
TakesBack number old (Some seat) new slot = TakesBackFrom number old seat new slot

-- what a caller must ensure who gives a seat back: if the slots hold a board and a seat with the same stamp, the seat is one of that board's
abbrev pub OwnStampAt : KindBoard → Object → Type 0
OwnStampAt board (Seat seat) = HasOwnStamp board seat
OwnStampAt board other = Unit {0}

abbrev pub OwnStampBy : Object → Object → Type 0
OwnStampBy (Board board) seat = OwnStampAt board seat
OwnStampBy other seat = Unit {0}

abbrev pub OwnStampFrom : Option Object → Object → Type 0
OwnStampFrom None seat = Unit {0}
OwnStampFrom (Some object) seat = OwnStampBy object seat

abbrev pub OwnStamp : Option Object → Option Object → Type 0
OwnStamp board None = Unit {0}
OwnStamp board (Some seat) = OwnStampFrom board seat

-- the answer for why a board stays open
abbrev pub unclosed_for : Unclosed → Count
unclosed_for unclosed.NoMemory = record { refusal = 6; value = 0 }
unclosed_for other = record { refusal = 106; value = 0 }

-- a board was closed, and its slot holds what the vector was; or the board is as it was, because a seat isn't there; or because there was no memory
-- or somebody still has a share of the board, which is found only if all seats are there
abbrev pub ClosesBoard : Count → KindBoard → Object → Type 0
ClosesBoard answer old new =
    ((ended : Ended) × (new ≡ Closed ended) × (answer ≡ record { refusal = 0; value = ended.closed.edit }) × IsClosedShared (shared_at old) ended.closed)
    ⊎ ((same : KindBoard) × (new ≡ Board same) × (shared_at same ≡ shared_at old) × ((why : Unclosed) × (answer ≡ unclosed_for why) × IsUnclosed (shared_at old) why))

abbrev pub ClosesObject : Count → Object → Object → Type 0
ClosesObject answer (Board old) new = ClosesBoard answer old new
ClosesObject answer other new = (answer ≡ no_count) × (new ≡ other)

abbrev pub Closes : Count → Option Object → Option Object → Type 0
Closes answer None new = (answer ≡ no_count) × (new ≡ None)
Closes answer (Some old) new = (object : Object) × (new ≡ Some object) × ClosesObject answer old object
