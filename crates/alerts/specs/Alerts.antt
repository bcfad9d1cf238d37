-- The notifications of a subscriber, and how they relate to the one history of the vector.
use Rattle.std.specs.Prelude.{◌≡◌, ◌⊎◌, ℕ, List, [], ◌∷◌, ◌++◌, All, Contains, length, map, if◌then◌else◌}
use Rattle.std.specs.List.Sorted.{IsStrictlyIncreasing}
use Rattle.std.specs.Str.{bytes_eq}
use mathlib.Core.List.{IsPrefix}
use Rattle.lv_vector.specs.Bounds.{Bounds}
use Rattle.lv_vector.specs.Shown.{Shown}
use Rattle.lv_vector.specs.Edit.{Edit}
use Rattle.lv_vector.specs.History.{History}
use Rattle.lv_vector.specs.Note.{Note}
use Rattle.lv_vector.specs.Query.{Query}
use Rattle.lv_vector.specs.ToldType.{Told}
use Rattle.lv_vector.specs.Queries.{watch_answer}
use Rattle.lv_vector.specs.Hub.{IsVector}
use Rattle.alerts.specs.declared.running.Report.{Report}

-- A note is of one of the questions, and has the plain value of its range after some updates.
pub record IsNoteOf (edits : List Edit) (questions : List Query) (note : Note) : Type 0 where
  pub question : Query
  pub asked : Contains questions question
  pub name : note.name ≡ question.name
  pub value : note.value ≡ watch_answer edits question

-- A notification is true after a prefix of a history, whose length is the notification's edit number.
pub record IsTrueOf (history : List Edit) (questions : List Query) (told : Told) : Type 0 where
  pub first : List Edit
  pub begins : IsPrefix first history
  pub edit : told.edit ≡ length first
  pub notes : All (IsNoteOf first questions) told.notes.items

-- The edit numbers of notifications.
abbrev pub edits_of : List Told → List ℕ
edits_of told = map (λ t. t.edit) told

-- The value of a question's first note, or the value before if it has none.
abbrev pub told_by : List Note → Query → Shown → Shown
told_by [] q before = before
told_by (note ∷ notes) q before = if bytes_eq q.name note.name then note.value else told_by notes q before

-- The last reported value of a question, given the value before the notifications.
abbrev pub told_from : List Told → Query → Shown → Shown
told_from [] q before = before
told_from (t ∷ told) q before = told_from told q (told_by t.notes.items q before)

-- The last reported value of a question, or its answer on no elements if nothing was reported.
abbrev pub told_last : List Told → Query → Shown
told_last told q = told_from told q (watch_answer [] q)

-- A report is true of the history of a vector with these limits. All notifications are true. Their edit numbers increase, and the last
-- notification is empty or has a later number. The last reported value of each question is its answer at the end. The number of updates is that
-- of the accepted readings.
pub record TellsOf (limits : Bounds) (questions : List Query) (report : Report) : Type 0 where
  pub history : History
  pub vector : IsVector limits history
  pub told : All (IsTrueOf history.journal questions) (report.told.items ++ report.last ∷ [])
  pub rising : IsStrictlyIncreasing (edits_of report.told.items)
  pub later : (report.last.notes.items ≡ []) ⊎ IsStrictlyIncreasing (edits_of (report.told.items ++ report.last ∷ []))
  pub end : report.last.edit ≡ length history.journal
  pub answers : All (λ q. told_last (report.told.items ++ report.last ∷ []) q ≡ watch_answer history.journal q) questions
  pub counted : length history.journal ≡ report.accepted
