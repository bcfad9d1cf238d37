-- Continuous (*standing*) queries: the answer of each, and the notifications (*notes*) that an edit sends.
use Rattle.std.specs.Prelude.{◌≡◌, ◌≤◌, ◌-◌, ℕ, ℤ, Bool, false, Option, Some, None, List, [], ◌∷◌, ◌++◌, drop, length, filter, map, not, nat_lt, if◌then◌else◌}
use Rattle.std.specs.List.{slice_range}
use Rattle.std.specs.Str.{bytes_eq}
use Rattle.lv_geometry.specs.declared.refusals.Refusal.{Refusal}
use Rattle.lv_bodies.specs.declared.kinds.Kind.{Kind}
use Rattle.lv_bodies.specs.declared.kinds.Shown.{Shown}
use Rattle.lv_bodies.specs.Plain.{plain_value}
use Rattle.lv_edits.specs.declared.edit.Edit.{Edit}
use Rattle.lv_edits.specs.History.{list_of}
use Rattle.lv_edits.specs.Ranges.{range_refusal, slice_of}
use Rattle.lv_standing.specs.declared.notes.Answered.{Answered}
use Rattle.lv_standing.specs.declared.notes.Note.{Note}
use Rattle.lv_standing.specs.declared.queries.Query.{Query}
use Rattle.lv_standing.specs.declared.questions.Terms.{Terms}
use Rattle.lv_standing.specs.declared.spans.Span.{Span}
use Rattle.lv_standing.specs.declared.spans.Span.TheVariants.{Between, Last}
use Rattle.lv_standing.specs.Askable.{AskableState, value_in_span}
use Rattle.lv_standing.specs.QuerySets.{AddsDue, AreDue, is_taken, refusal_by}
pub use Rattle.lv_standing.specs.Thresholds.{crosses, holds, is_due, is_within, number_in, same_value}

-- the answer for a range at the last edit, if `plain` gives the answer for a list: the range is not rejected
pub record IsShown (plain : List ℤ → Shown) (edits : List Edit) (lo hi : ℕ) (answered : Answered) : Type 0 where
  pub granted : range_refusal edits lo hi ≡ None
  pub edit : answered.edit ≡ length edits
  pub value : answered.value ≡ plain (slice_of edits lo hi)

-- the value of a kind over a range: the plain value of its elements
abbrev pub IsValue : List Edit → Kind → ℕ → ℕ → Answered → Type 0
IsValue edits kind = IsShown (plain_value kind) edits

-- ---- what a query answers

-- the elements of a list in a span: those under the indices of a range, or the last so many, as many of them as there are
abbrev pub span_of : Span → List ℤ → List ℤ
span_of (Between lo hi) xs = slice_range xs lo hi
span_of (Last n) xs = drop (length xs - n) xs

-- the answer of a query after some edits: the plain value of the elements in its span
abbrev pub watch_answer : List Edit → Query → Shown
watch_answer edits q = plain_value q.kind (span_of q.span (list_of edits))

-- the answer of a query about whatever is asked (a vector, a series, samples): the plain value of the elements in its span
abbrev pub answer_in : AskableState → Query → Shown
answer_in s q = value_in_span s q.kind q.span

-- the answer that counts as reported before a query's first note: its answer for no elements
abbrev pub untold : Query → Shown
untold q = plain_value q.kind []

-- ---- what a set sees of a query

-- whether a span is a range whose end is before its start
abbrev pub is_backwards : Span → Bool
is_backwards (Between lo hi) = nat_lt hi lo
is_backwards (Last n) = false

abbrev pub terms_of : Query → Terms
terms_of q = record { name = q.name; bound = q.bound; is_backwards = is_backwards q.span }

-- ---- which notes are due

-- the notes that are due when queries had some answers before and have others now: in the order of the queries, each with the answer now
abbrev pub AreNotesOf : List Query → List Shown → List Shown → List Note → Type 0
AreNotesOf = AreDue terms_of

-- a list of notes has those notes appended to it
abbrev pub AddsNotesOf : List Query → List Shown → List Shown → List Note → List Note → Type 0
AddsNotesOf = AddsDue terms_of

-- the notes of an edit, given all edits before it and all edits up to it
abbrev pub AreNotes : List Edit → List Edit → List Query → List Note → Type 0
AreNotes old new queries notes = AreNotesOf queries (map (watch_answer old) queries) (map (watch_answer new) queries) notes

-- the notes of an edit are appended to a list of notes, and they are at most 64
pub record TellsNotes (old new : List Edit) (queries : List Query) (notes more : List Note) : Type 0 where
  pub told : List Note
  pub more_is : more ≡ notes ++ told
  pub are : AreNotes old new queries told
  pub few : length told ≤ 64

-- ---- which queries there are

-- the query of a range, whose answer is reported each time it changes
abbrev pub between : List ℕ → Kind → ℕ → ℕ → Query
between name kind lo hi = record { name = name; kind = kind; span = Between lo hi; bound = None }

-- the query of a name, if there is one
abbrev pub query_of : List Query → List ℕ → Option Query
query_of [] name = None
query_of (q ∷ queries) name = if bytes_eq q.name name then Some q else query_of queries name

-- the queries without that of a name; the rest keep their order
abbrev pub without_query : List Query → List ℕ → List Query
without_query queries name = filter (λ q. not (bytes_eq q.name name)) queries

-- why a query with a name and a span is rejected by a set that has some queries and may have `most`, if memory suffices: its range is
-- backwards, its name is taken, or there are as many queries as are allowed
abbrev pub span_refusal : ℕ → List Query → List ℕ → Span → Option Refusal
span_refusal most queries name span = refusal_by (is_backwards span) (is_taken terms_of queries name) (length queries) most

abbrev pub query_refusal : ℕ → List Query → Query → Option Refusal
query_refusal most queries q = span_refusal most queries q.name q.span

-- why a vector with standing queries, which may have 64 of them, rejects the query of a range if memory suffices
abbrev pub watch_refusal : List Query → List ℕ → ℕ → ℕ → Option Refusal
watch_refusal queries name lo hi = span_refusal 64 queries name (Between lo hi)
