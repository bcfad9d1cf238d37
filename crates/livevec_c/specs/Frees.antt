-- What a free does and answers, by the sort of the object in a slot.
use Rattle.std.specs.Prelude.{ℕ, Bool, false, Option, Some, None, if◌then◌else◌, nat_eq}
use Rattle.livevec_c.specs.declared.objects.Object.{Object}
use Rattle.livevec_c.specs.declared.objects.Object.TheVariants.{Vector, Job, Outcome, Batch, BatchOutcome, Subtree, SubtreeOutcome, Board, Seat, Closed, Series, Samples, Loader, Queries}

-- the sort of an object, by its number: a batch may be of a subtree and may have been run, a board may be closed, a series may have
-- times, or be loaded
abbrev pub sort_of : Object → ℕ
sort_of (Vector state only) = 0
sort_of (Job job) = 1
sort_of (Outcome outcome) = 2
sort_of (Batch jobs) = 3
sort_of (BatchOutcome jobs) = 3
sort_of (Subtree job) = 3
sort_of (SubtreeOutcome outcome) = 3
sort_of (Board board) = 4
sort_of (Closed ended) = 4
sort_of (Seat seat) = 5
sort_of (Series state) = 6
sort_of (Samples state) = 6
sort_of (Loader bytes) = 6
sort_of (Queries set) = 7

-- whether a slot has an object of a sort
abbrev pub has_sort : ℕ → Option Object → Bool
has_sort sort None = false
has_sort sort (Some object) = nat_eq (sort_of object) sort

-- the answer to a free of a sort: 0 if there was such an object, 101 if the slot was empty or held something else
abbrev pub free_number : ℕ → Option Object → ℕ
free_number sort held = if has_sort sort held then 0 else 101

-- the slot then: empty, or as it was
abbrev pub left_by_free : ℕ → Option Object → Option Object
left_by_free sort held = if has_sort sort held then None else held
