-- Definitions for private functions of continuous (*standing*) queries: what an edit changes, and how far the queries were brought up to it.
use Rattle.std.specs.Prelude.{◌≡◌, ℕ, ℤ, Bool, ◌&&◌, ◌||◌, max, min, Option, Some, None, true, false, Result, IfOk, OnErr, List, [], ◌∷◌, ◌+◌, ◌-◌, length, filter, map, take, drop, nat_eq, nat_le, nat_lt, not, ◌++◌}
use Rattle.lv_geometry.specs.declared.refusals.Refusal.{Refusal}
use Rattle.lv_bodies.specs.declared.sixes.Six.{Six}
use Rattle.lv_bodies.specs.Six.{SixSummary}
use Rattle.lv_edits.specs.declared.edit.Edit.{Edit}
use Rattle.lv_edits.specs.declared.edit.Edit.TheVariants.{Push, Pop, Write, Reserve, Swap, Truncate}
use Rattle.lv_edits.specs.declared.receipt.Receipt.{Receipt}
use Rattle.lv_edits.specs.History.{list_of}
use Rattle.lv_edits.specs.Touch.{indices_written}
use Rattle.lv_edits.specs.Verdict.{Answers}
use Rattle.lv_live.specs.declared.following.Touched.{Touched}
use Rattle.lv_live.specs.declared.following.Touched.TheVariants.{Nothing, One, Two}
use Rattle.lv_live.specs.Follows.{indices_in}
use Rattle.lv_live.specs.State.{LiveState, SameRefresh}
use Rattle.lv_tree.specs.declared.kind_summaries.KindSummary.{KindSummary}
use Rattle.lv_tree.specs.Kinds.{KindsState}
use Rattle.lv_standing.specs.declared.changes.Changed.{Changed}
use Rattle.lv_standing.specs.declared.notes.Note.{Note}
use Rattle.lv_standing.specs.declared.queries.Query.{Query}
use Rattle.lv_standing.specs.declared.spans.Span.{Span}
use Rattle.lv_standing.specs.declared.spans.Span.TheVariants.{Between, Last}
use Rattle.lv_standing.specs.Queries.{AddsNotesOf, TellsNotes, span_of, watch_answer}
use Rattle.lv_standing.specs.QuerySets.{QuerySetState}
use Rattle.lv_standing.specs.Standings.{IsStanding, LeavesUnasked, summary_at}

-- ---- what an edit changes

-- how many elements a vector of this size has after an edit that it accepts
abbrev pub size_after : ℕ → Edit → ℕ
size_after size (Push x) = size + 1
size_after size Pop = size - 1
size_after size (Write i x) = size
size_after size (Reserve n) = size
size_after size (Swap i j) = size
size_after size (Truncate n) = n

-- the element that an edit appends, if it appends one
abbrev pub pushed_by : Edit → Option ℤ
pushed_by (Push x) = Some x
pushed_by Pop = None
pushed_by (Write i x) = None
pushed_by (Reserve n) = None
pushed_by (Swap i j) = None
pushed_by (Truncate n) = None

-- what an edit of a list changes: the indices at which it writes, the size after it and before it, and the element that it appends
pub record IsChangedBy (xs : List ℤ) (edit : Edit) (changed : Changed) : Type 0 where
  pub written : indices_in changed.written ≡ indices_written xs edit
  pub from : changed.from ≡ size_after (length xs) edit
  pub to : changed.to ≡ length xs
  pub pushed : changed.pushed ≡ pushed_by edit

-- whether a range contains an index
abbrev pub has_index : ℕ → ℕ → ℕ → Bool
has_index lo hi i = nat_le lo i && nat_lt i hi

-- whether a range contains an index at which an edit wrote; an element that is swapped with itself doesn't count
abbrev pub has_written : ℕ → ℕ → Touched → Bool
has_written lo hi Nothing = false
has_written lo hi (One i) = has_index lo hi i
has_written lo hi (Two i j) = not (nat_eq i j) && (has_index lo hi i || has_index lo hi j)

-- whether a span has an element that changed; the last so many elements also change with each edit that changes the size
abbrev pub has_changed : Span → Changed → Bool
has_changed (Between lo hi) changed = has_written lo hi changed.written || nat_lt (max lo changed.from) (min hi changed.to)
has_changed (Last n) changed = not (nat_eq changed.to changed.from) || has_written (changed.to - n) changed.to changed.written

-- each span without a changed element has the same elements after the old edits and after the new ones
abbrev pub SameElsewhere : Changed → List Edit → List Edit → Type 0
SameElsewhere changed old new = (span : Span) → has_changed span changed ≡ false → span_of span (list_of new) ≡ span_of span (list_of old)

-- an element was pushed: it is the last of the list, and each range with a changed element contains its index
abbrev pub IsPushed : Changed → List Edit → List Edit → ℤ → Type 0
IsPushed changed old new x =
    ((lo hi : ℕ) → has_changed (Between lo hi) changed ≡ true → has_index lo hi (length (list_of old)) ≡ true) × (list_of new ≡ list_of old ++ x ∷ [])

-- the element that a push appends to a span of that kind; none for a span of the last so many, since its first element may leave it
abbrev pub joined_to : Span → Option ℤ → Option ℤ
joined_to (Between lo hi) pushed = pushed
joined_to (Last n) pushed = None

-- ---- how far the queries were brought up to an edit

-- the queries that have a changed element
abbrev pub asked : Changed → List Query → List Query
asked changed queries = filter (λ q. has_changed q.span changed) queries

-- the values of one function for the queries before a place, and of another function for the rest
abbrev pub up_to : {A : Type 0} → (Query → A) → (Query → A) → ℕ → List Query → List A
up_to now before i queries = map now (take i queries) ++ map before (drop i queries)

-- for the queries before a place, the reported answers and the aggregates are those after an edit; for the rest, those before it
pub record AreToldUpTo (old new : List Edit) (i : ℕ) (set : QuerySetState Query) (summaries : List KindSummary) : Type 0 where
  pub told : set.told ≡ up_to (watch_answer new) (watch_answer old) i set.queries
  pub summaries_are : summaries ≡ up_to (summary_at new) (summary_at old) i set.queries

-- the notes of the queries before a place are appended to a list of notes
abbrev pub AddsNotesUpTo : List Edit → List Edit → ℕ → List Query → List Note → List Note → Type 0
AddsNotesUpTo old new i queries notes more =
    AddsNotesOf (take i queries) (take i (map (watch_answer old) queries)) (take i (map (watch_answer new) queries)) notes more

-- an edit of a vector with queries was answered: if it is accepted, the notes that are due are appended to the notes that there are; if
-- it is rejected, no note is added
pub record AnswersNoted (before after : LiveState Six SixSummary) (set now : QuerySetState Query) (summaries : List KindSummary) (kinds left : KindsState) (ahead more : List Note) (edit : Edit) (result : Result Receipt Refusal) : Type 0 where
  pub answer : Answers before.history edit result after.history
  pub refresh : SameRefresh before after
  pub standing : IsStanding after now summaries left
  pub queries : now.queries ≡ set.queries
  pub others : LeavesUnasked set.queries kinds left
  pub notes : IfOk result (λ _. TellsNotes before.history.journal after.history.journal set.queries ahead more)
  pub untold : OnErr result (more ≡ ahead)
