-- What the calls of summaries that travel answer, by the bytes that came in and for the object in a slot.
use Rattle.std.specs.Prelude.{◌≡◌, ◌≤◌, ℕ, ℤ, false, Option, Some, None, Result, Ok, Err, List, length, All, replicate, is_some, unwrap_or}
use Rattle.lv_geometry.specs.Numbers.{number_of}
use Rattle.lv_geometry.specs.declared.refusals.Refusal.{Refusal}
use Rattle.lv_bodies.specs.Automata.{table_of}
use Rattle.lv_bodies.specs.Plain.{program_table}
use Rattle.lv_bodies.specs.declared.kinds.Kind.{Kind}
use Rattle.lv_edits.specs.Ranges.{range_refusal, slice_of}
use Rattle.lv_shards.specs.Bytes.{bytes_of, version_of}
use Rattle.lv_shards.specs.Summaries.{IsPossible, IsSummaryOf, Summary, empty_of, join_of, leads_of, rows_of}
use Rattle.lv_shards.specs.declared.refusals.JoinRefusal.{JoinRefusal}
use Rattle.lv_shards.specs.declared.refusals.JoinRefusal.TheVariants.{OtherTable, TooLong}
use Rattle.lv_shards.specs.declared.refusals.ReadRefusal.{ReadRefusal}
use Rattle.lv_shards.specs.declared.refusals.ReadRefusal.TheVariants.{Damaged, OtherVersion}
use Rattle.livevec_c.specs.declared.objects.Object.{Object}
use Rattle.livevec_c.specs.declared.objects.Object.TheVariants.{Vector}
use Rattle.livevec_c.specs.declared.summaries.Opened.{Opened}
use Rattle.livevec_c.specs.declared.summaries.Summarised.{Summarised}
use Rattle.livevec_c.specs.Answers.{detail_of, spread, valueless}
use Rattle.livevec_c.specs.Behind.{State}

-- an answer by a summary, and one that was refused
abbrev pub summarised : Summary → Summarised
summarised s = record { refusal = 0; detail = 0; summary = record { bytes = bytes_of s } }

abbrev pub unsummarised : ℕ → ℕ → Summarised
unsummarised refusal detail = record { refusal = refusal; detail = detail; summary = record { bytes = replicate 184 0 } }

-- the numbers for why bytes are not read
abbrev pub unread : ReadRefusal → ℕ
unread OtherVersion = 109
unread Damaged = 110

-- what bytes come in as: the summary that has them, or why there is none
abbrev pub Reads : List ℕ → Result Summary ReadRefusal → Type 0
Reads bytes (Ok s) = IsPossible s × (bytes ≡ bytes_of s)
Reads bytes (Err OtherVersion) = ¬ (version_of bytes ≡ 1)
Reads bytes (Err Damaged) = (version_of bytes ≡ 1) × ((s : Summary) → IsPossible s → bytes ≡ bytes_of s → ⊥)

-- the summary of no elements by a table whose entries are all states
pub record IsEmptyBy (table : List (List ℕ)) (answer : Summarised) : Type 0 where
  pub taken : All (All (λ q. q ≤ 7)) table → answer ≡ summarised (empty_of (leads_of table))
  pub refused : ¬ (All (All (λ q. q ≤ 7)) table) → answer ≡ unsummarised 9 0

-- the summary of no elements, by a table that is asked for or by the program's
abbrev pub IsEmpty : Option (List (List ℕ)) → Summarised → Type 0
IsEmpty None answer = answer ≡ summarised (empty_of (leads_of program_table))
IsEmpty (Some table) answer = IsEmptyBy table answer

-- the summary of a range of a vector after its last edit, or why the range is refused
abbrev pub SumsRange : Option Refusal → ℕ → ℕ → Summarised → State → Type 0
SumsRange None lo hi answer state =
    (s : Summary) × (answer ≡ summarised s) × IsSummaryOf (table_of state.body.automaton) (slice_of state.history.journal lo hi) s × (s.edit ≡ Some (length state.history.journal))
SumsRange (Some refusal) lo hi answer state = answer ≡ unsummarised (number_of refusal) (detail_of refusal)

-- a vector of one kind refuses it, since a summary is of all six
abbrev pub SumsBy : Option Kind → ℕ → ℕ → Summarised → State → Type 0
SumsBy (Some only) lo hi answer state = answer ≡ unsummarised 113 0
SumsBy None lo hi answer state = SumsRange (range_refusal state.history.journal lo hi) lo hi answer state

abbrev pub SumsObject : ℕ → ℕ → Summarised → Object → Type 0
SumsObject lo hi answer (Vector state only) = SumsBy only lo hi answer state
SumsObject lo hi answer other = answer ≡ unsummarised 101 0

abbrev pub Sums : ℕ → ℕ → Summarised → Option Object → Type 0
Sums lo hi answer None = answer ≡ unsummarised 101 0
Sums lo hi answer (Some object) = SumsObject lo hi answer object

-- a join's answer
abbrev pub joined_answer : Result Summary JoinRefusal → Summarised
joined_answer (Ok s) = summarised s
joined_answer (Err OtherTable) = unsummarised 111 0
joined_answer (Err TooLong) = unsummarised 112 0

-- what the bytes on the left came in as is joined with what those on the right did
abbrev pub joined_with : Summary → Result Summary ReadRefusal → Summarised
joined_with s (Ok t) = joined_answer (join_of s t)
joined_with s (Err refusal) = unsummarised (unread refusal) 0

abbrev pub JoinsWith : Result Summary ReadRefusal → List ℕ → Summarised → Type 0
JoinsWith (Ok s) right answer = (r : Result Summary ReadRefusal) × Reads right r × (answer ≡ joined_with s r)
JoinsWith (Err refusal) right answer = answer ≡ unsummarised (unread refusal) 0

abbrev pub Joins : List ℕ → List ℕ → Summarised → Type 0
Joins left right answer = (l : Result Summary ReadRefusal) × Reads left l × JoinsWith l right answer

-- what the bytes came in as, joined with the summary of some elements by the same automaton
abbrev pub ExtendsRead : Result Summary ReadRefusal → List ℤ → Summarised → Type 0
ExtendsRead (Ok s) xs answer = (t : Summary) × IsSummaryOf (rows_of s.leads) xs t × (answer ≡ joined_answer (join_of s t))
ExtendsRead (Err refusal) xs answer = answer ≡ unsummarised (unread refusal) 0

abbrev pub Extends : List ℕ → List ℤ → Summarised → Type 0
Extends bytes xs answer = (r : Result Summary ReadRefusal) × Reads bytes r × ExtendsRead r xs answer

-- what a summary says
abbrev pub opened_by : Result Summary ReadRefusal → Opened
opened_by (Ok s) = record { refusal = 0; edit = unwrap_or s.edit 0; count = s.count; values = spread s.six; table = record { next = rows_of s.leads }; at_edit = is_some s.edit }
opened_by (Err refusal) = record { refusal = unread refusal; edit = 0; count = 0; values = valueless; table = record { next = replicate 8 (replicate 4 0) }; at_edit = false }

abbrev pub OpensBytes : List ℕ → Opened → Type 0
OpensBytes bytes answer = (r : Result Summary ReadRefusal) × Reads bytes r × (answer ≡ opened_by r)
