-- What a read of a range answers, and what it leaves in a buffer of the caller's, for the object in a slot.
use Rattle.std.specs.Prelude.{ℕ, ℤ, ◌-◌, Option, Some, None, List, length, nat_lt, if◌then◌else◌, ◌==◌}
use Rattle.std.specs.List.{slice_range}
use Rattle.lv_edits.specs.History.{list_of}
use Rattle.livevec_c.specs.declared.columns.Scanned.{Scanned}
use Rattle.livevec_c.specs.declared.objects.Object.{Object}
use Rattle.livevec_c.specs.declared.objects.Object.TheVariants.{Closed, Vector}
use Rattle.livevec_c.specs.Answers.{range_refusal_in}
use Rattle.livevec_c.specs.Columns.{column_after, scan_answered, unscanned}

-- a read of some elements, into a buffer of so many places, after an edit
abbrev pub elements_read : List ℤ → ℕ → ℕ → ℕ → ℕ → Scanned
elements_read xs edit lo hi places = scan_answered (range_refusal_in xs lo hi) (nat_lt places (hi - lo)) edit (hi - lo)

-- the buffer then: the elements of the range, and after them what it had; or the buffer as it was, if the read was refused
abbrev pub elements_put : List ℤ → ℕ → ℕ → List ℤ → List ℤ
elements_put xs lo hi old = column_after (range_refusal_in xs lo hi) (nat_lt (length old) (hi - lo)) (slice_range xs lo hi) old

-- a read of an object of a sort: of a vector (0), or of a closed board (4), whose last edit is the last that its vector had
abbrev pub range_of : ℕ → ℕ → ℕ → ℕ → Object → Scanned
range_of sort lo hi places (Vector state only) = if sort == 0 then elements_read (list_of state.history.journal) (length state.history.journal) lo hi places else unscanned 101 0
range_of sort lo hi places (Closed ended) = if sort == 4 then elements_read ended.closed.elements ended.closed.edit lo hi places else unscanned 101 0
range_of sort lo hi places other = unscanned 101 0

abbrev pub range_put_of : ℕ → ℕ → ℕ → List ℤ → Object → List ℤ
range_put_of sort lo hi old (Vector state only) = if sort == 0 then elements_put (list_of state.history.journal) lo hi old else old
range_put_of sort lo hi old (Closed ended) = if sort == 4 then elements_put ended.closed.elements lo hi old else old
range_put_of sort lo hi old other = old

-- a read of the object in a slot
abbrev pub read_behind : ℕ → ℕ → ℕ → ℕ → Option Object → Scanned
read_behind sort lo hi places None = unscanned 101 0
read_behind sort lo hi places (Some object) = range_of sort lo hi places object

abbrev pub put_behind : ℕ → ℕ → ℕ → List ℤ → Option Object → List ℤ
put_behind sort lo hi old None = old
put_behind sort lo hi old (Some object) = range_put_of sort lo hi old object
