-- What the calls of standing queries do and answer, for the objects in the slots.
use Rattle.std.specs.Prelude.{◌≡◌, ◌⊎◌, ◌<◌, ◌≤◌, ℕ, ℤ, ◌+◌, ◌-◌, ◌%◌, Bool, true, false, not, Option, Some, None, Result, Ok, Err, List, [], ◌∷◌, ◌++◌, drop, length, map, position, replicate, slice_get, take}
use Rattle.lv_geometry.specs.Numbers.{number_of}
use Rattle.lv_geometry.specs.declared.refusals.Refusal.{Refusal}
use Rattle.lv_bodies.specs.declared.kinds.Kind.{Kind}
use Rattle.lv_bodies.specs.declared.kinds.Shown.{Shown}
use Rattle.lv_bodies.specs.Names.{is_name}
use Rattle.lv_series.specs.Samples.{SamplesState}
use Rattle.lv_standing.specs.Queries.{is_due}
use Rattle.lv_tree.specs.declared.places.Bound.{Bound}
use Rattle.lv_script.specs.SampleQueries.{sample_answer}
use Rattle.lv_script.specs.declared.sample_queries.SampleSpan.{SampleSpan}
use Rattle.livevec_c.specs.declared.objects.Object.{Object}
use Rattle.livevec_c.specs.declared.objects.Object.TheVariants.{Queries, Samples, Series, Vector}
use Rattle.livevec_c.specs.declared.queries_notes.Note.{Note}
use Rattle.livevec_c.specs.declared.queries_notes.Noted.{Noted}
use Rattle.livevec_c.specs.declared.series_results.SeriesReduced.{SeriesReduced}
use Rattle.livevec_c.specs.declared.set_queries.SetQuery.{SetQuery}
use Rattle.livevec_c.specs.Kinds.{kind_at, number_of_kind}
use Rattle.livevec_c.specs.Queries.{QueriesState, place_of, question_refusal, with_question, without_place}
use Rattle.livevec_c.specs.Seats.{values_for}
use Rattle.livevec_c.specs.SeriesAnswers.{granted, unheld, unnamed, unreduced_by}
use Rattle.livevec_c.specs.SeriesValued.{unkind}
use Rattle.livevec_c.specs.Targets.{bound_at, has_some, is_asked, seen_samples, seen_series, seen_vector, span_at}

-- ---- questions come and go

-- the question that a caller asks for, or the number for why there is none: no name, then a number that names no kind, no span or no bound
abbrev pub question_by : List ℕ → Option Kind → Option SampleSpan → Option (Option Bound) → Result SetQuery ℕ
question_by name None span bound = Err 113
question_by name (Some kind) None bound = Err 113
question_by name (Some kind) (Some span) None = Err 113
question_by name (Some kind) (Some span) (Some bound) = Ok (record { query = record { name = name; kind = kind; span = span; bound = bound } })

abbrev pub question_named : Bool → List ℕ → Option Kind → Option SampleSpan → Option (Option Bound) → Result SetQuery ℕ
question_named false name kind span bound = Err 114
question_named true name kind span bound = question_by name kind span bound

abbrev pub question_in : List ℕ → ℕ → ℕ → ℕ → ℕ → ℕ → ℤ → Result SetQuery ℕ
question_in name kind span lo hi bound x = question_named (is_name name) name (kind_at kind) (span_at span lo hi) (bound_at bound x)

-- a question was registered, or there was no memory, or it is refused, and nothing has changed
abbrev pub WatchesUnless : Option Refusal → SetQuery → ℕ → QueriesState → QueriesState → Type 0
WatchesUnless (Some refusal) q number old new = (number ≡ number_of refusal) × (new ≡ old)
WatchesUnless None q number old new = ((number ≡ 6) × (new ≡ old)) ⊎ ((number ≡ 0) × (new ≡ with_question old q))

-- at an object: at a set only
abbrev pub WatchesObject : SetQuery → ℕ → Object → Object → Type 0
WatchesObject q number (Queries old) new = (set : QueriesState) × (new ≡ Queries set) × WatchesUnless (question_refusal old.questions q) q number old set
WatchesObject q number other new = (number ≡ 101) × (new ≡ other)

abbrev pub WatchesBehind : SetQuery → ℕ → Option Object → Option Object → Type 0
WatchesBehind q number None new = (number ≡ 101) × (new ≡ None)
WatchesBehind q number (Some old) new = (object : Object) × (new ≡ Some object) × WatchesObject q number old object

-- at the object in a slot, if there is a question
abbrev pub Watches : Result SetQuery ℕ → ℕ → Option Object → Option Object → Type 0
Watches (Err refusal) number old new = (number ≡ refusal) × (new ≡ old)
Watches (Ok q) number old new = WatchesBehind q number old new

-- the question at a place was forgotten, or there is none of that name, and nothing has changed
abbrev pub ForgetsAt : Option ℕ → ℕ → QueriesState → QueriesState → Type 0
ForgetsAt None number old new = (number ≡ 11) × (new ≡ old)
ForgetsAt (Some place) number old new = (number ≡ 0) × (new ≡ without_place old place)

abbrev pub UnwatchesObject : List ℕ → ℕ → Object → Object → Type 0
UnwatchesObject name number (Queries old) new = (set : QueriesState) × (new ≡ Queries set) × ForgetsAt (place_of old.questions name) number old set
UnwatchesObject name number other new = (number ≡ 101) × (new ≡ other)

abbrev pub UnwatchesBehind : List ℕ → ℕ → Option Object → Option Object → Type 0
UnwatchesBehind name number None new = (number ≡ 101) × (new ≡ None)
UnwatchesBehind name number (Some old) new = (object : Object) × (new ≡ Some object) × UnwatchesObject name number old object

-- at the object in a slot, if the bytes are a name
abbrev pub UnwatchesIf : Bool → List ℕ → ℕ → Option Object → Option Object → Type 0
UnwatchesIf false name number old new = (number ≡ 114) × (new ≡ old)
UnwatchesIf true name number old new = UnwatchesBehind name number old new

abbrev pub Unwatches : List ℕ → ℕ → Option Object → Option Object → Type 0
Unwatches name number old new = UnwatchesIf (is_name name) name number old new

-- ---- an answer

-- the question of a name, or the number for why there is none: no set, then no such name
abbrev pub found_there : Option SetQuery → Result SetQuery ℕ
found_there None = Err 11
found_there (Some q) = Ok q

abbrev pub found_at : Option ℕ → List SetQuery → Result SetQuery ℕ
found_at None questions = Err 11
found_at (Some place) questions = found_there (slice_get questions place)

abbrev pub found_in : List ℕ → Object → Result SetQuery ℕ
found_in name (Queries set) = found_at (place_of set.questions name) set.questions
found_in name other = Err 101

abbrev pub found_behind : List ℕ → Option Object → Result SetQuery ℕ
found_behind name None = Err 101
found_behind name (Some object) = found_in name object

abbrev pub found_if : Bool → List ℕ → Option Object → Result SetQuery ℕ
found_if false name slot = Err 114
found_if true name slot = found_behind name slot

abbrev pub question_of : List ℕ → Option Object → Result SetQuery ℕ
question_of name slot = found_if (is_name name) name slot

-- the answer to a question, if it may be asked: the plain value of the elements in its span now, whether there is one, and the last edit
abbrev pub answered_if : Bool → SetQuery → SamplesState → SeriesReduced
answered_if true q s = record { why = granted; edit = s.series.edits; values = values_for (has_some s q.query.span) (sample_answer s q.query) }
answered_if false q s = unreduced_by unkind

-- the answer of an object: of a vector, a series or samples
abbrev pub object_answered : SetQuery → Object → SeriesReduced
object_answered q (Vector state only) = answered_if (is_asked only false q.query) q (seen_vector state)
object_answered q (Series state) = answered_if (is_asked None false q.query) q (seen_series state)
object_answered q (Samples state) = answered_if (is_asked None true q.query) q (seen_samples state)
object_answered q other = unreduced_by unheld

abbrev pub answered_behind : SetQuery → Option Object → SeriesReduced
answered_behind q None = unreduced_by unheld
answered_behind q (Some object) = object_answered q object

-- the answer of the object in a slot, if there is a question of that name
abbrev pub answered : Result SetQuery ℕ → Option Object → SeriesReduced
answered (Err refusal) slot = unreduced_by (unnamed refusal)
answered (Ok q) slot = answered_behind q slot

-- ---- notes

-- the first question, if there is one, that may not be asked of something that is of one kind or of all six, and has times or not
abbrev pub first_refused : Option Kind → Bool → List SetQuery → Option ℕ
first_refused only timed questions = position (λ q. not (is_asked only timed q.query)) questions

-- the 17 bytes of a name for C, which end in a zero
abbrev pub name_for : List ℕ → List ℕ
name_for name = name ++ replicate (17 - length name) 0

-- the note of a value by what is asked, with the low 32 bits of its last edit
abbrev pub note_of : SamplesState → SetQuery → Shown → Note
note_of s q value = record { name = name_for q.query.name; kind = number_of_kind q.query.kind; edit = s.series.edits % 4294967296; values = values_for (has_some s q.query.span) value }

-- the notes of some values: one for each question for which a note is due, in order, with its value
abbrev pub AreNotesOf : SamplesState → List SetQuery → List Shown → List Shown → List Note → Type 0
AreNotesOf s [] told values notes = notes ≡ []
AreNotesOf s (q ∷ questions) [] values notes = notes ≡ []
AreNotesOf s (q ∷ questions) (before ∷ told) [] notes = notes ≡ []
AreNotesOf s (q ∷ questions) (before ∷ told) (value ∷ values) notes =
    ((is_due q.query.bound before value ≡ false) × AreNotesOf s questions told values notes)
    ⊎ ((is_due q.query.bound before value ≡ true) × (rest : List Note) × (notes ≡ note_of s q value ∷ rest) × AreNotesOf s questions told values rest)

-- the answers to some questions
abbrev pub answers_of : SamplesState → List SetQuery → List Shown
answers_of s questions = map (λ q. sample_answer s q.query) questions

-- the notes of a set by the answers of what is asked: one for each of its questions for which a note is due, in order
abbrev pub AreNotes : QueriesState → SamplesState → List Note → Type 0
AreNotes set s notes = AreNotesOf s set.questions set.told (answers_of s set.questions) notes

-- a call for notes that was refused
abbrev pub unnoted : ℕ → ℕ → Noted
unnoted refusal detail = record { refusal = refusal; detail = detail; edit = 0; count = 0 }

-- all notes were written to the start of the caller's array, and each question's answer counts as reported
pub record WritesNotes (old new : QueriesState) (s : SamplesState) (notes before after : List Note) (answer : Noted) : Type 0 where
  pub answer_is : answer ≡ record { refusal = 0; detail = 0; edit = s.series.edits; count = length notes }
  pub room : length notes ≤ length before
  pub written : after ≡ notes ++ drop (length notes) before
  pub questions : new.questions ≡ old.questions
  pub told : new.told ≡ answers_of s old.questions

-- the array is shorter than the notes: nothing was written or reported
pub record LacksRoom (old new : QueriesState) (notes before after : List Note) (answer : Noted) : Type 0 where
  pub answer_is : answer ≡ unnoted 103 (length notes)
  pub room : length before < length notes
  pub unwritten : after ≡ before
  pub same : new ≡ old

-- what a call for notes comes to if all questions may be asked
abbrev pub Tells : QueriesState → QueriesState → SamplesState → List Note → List Note → Noted → Type 0
Tells old new s before after answer = (notes : List Note) × AreNotes old s notes × (WritesNotes old new s notes before after answer ⊎ LacksRoom old new notes before after answer)

-- a call for notes was refused, and nothing has changed
abbrev pub TellsNothing : ℕ → ℕ → QueriesState → QueriesState → List Note → List Note → Noted → Type 0
TellsNothing refusal detail old new before after answer = (answer ≡ unnoted refusal detail) × (after ≡ before) × (new ≡ old)

-- what a call for notes comes to, which is refused if a question may not be asked, the first of them at this place
abbrev pub TellsUnless : Option ℕ → QueriesState → QueriesState → SamplesState → List Note → List Note → Noted → Type 0
TellsUnless (Some place) old new s before after answer = TellsNothing 113 place old new before after answer
TellsUnless None old new s before after answer = Tells old new s before after answer

-- the notes of a set by an object: by a vector, a series or samples
abbrev pub TellsBy : QueriesState → QueriesState → Object → List Note → List Note → Noted → Type 0
TellsBy old new (Vector state only) before after answer = TellsUnless (first_refused only false old.questions) old new (seen_vector state) before after answer
TellsBy old new (Series state) before after answer = TellsUnless (first_refused None false old.questions) old new (seen_series state) before after answer
TellsBy old new (Samples state) before after answer = TellsUnless (first_refused None true old.questions) old new (seen_samples state) before after answer
TellsBy old new other before after answer = TellsNothing 101 0 old new before after answer

abbrev pub TellsBehind : QueriesState → QueriesState → Option Object → List Note → List Note → Noted → Type 0
TellsBehind old new None before after answer = TellsNothing 101 0 old new before after answer
TellsBehind old new (Some object) before after answer = TellsBy old new object before after answer

-- a call for notes of an object, which is to be a set
abbrev pub TellsObject : Object → Object → Option Object → List Note → List Note → Noted → Type 0
TellsObject (Queries old) new target before after answer = (set : QueriesState) × (new ≡ Queries set) × TellsBehind old set target before after answer
TellsObject other new target before after answer = (answer ≡ unnoted 101 0) × (after ≡ before) × (new ≡ other)

-- a call for notes of the set in a slot
abbrev pub TellsAll : Option Object → Option Object → Option Object → List Note → List Note → Noted → Type 0
TellsAll None new target before after answer = (answer ≡ unnoted 101 0) × (after ≡ before) × (new ≡ None)
TellsAll (Some old) new target before after answer = (object : Object) × (new ≡ Some object) × TellsObject old object target before after answer

-- ---- what the code passes on, one question after another

-- a note was put at a place, if there is such a place; the others stay
pub record PutsNote (note : Note) (place : ℕ) (before after : List Note) : Type 0 where
  pub places : length after ≡ length before
  pub written : place < length before → after ≡ take place before ++ note ∷ drop (place + 1) before

-- a question was noted after so many notes: if it has a note, this was counted, and written if there is a place for it
pub record NotesOne (s : SamplesState) (q : SetQuery) (told value : Shown) (count : ℕ) (before : List Note) (counted : ℕ) (after : List Note) : Type 0 where
  pub added : List Note
  pub are : AreNotesOf s (q ∷ []) (told ∷ []) (value ∷ []) added
  pub count_is : counted ≡ count + length added
  pub few : length added ≤ 1
  pub places : length after ≡ length before
  pub written : counted ≤ length before → after ≡ take count before ++ (added ++ drop counted before)

-- questions were noted: their notes were counted, and written if there are places for all of them
pub record NotesInto (s : SamplesState) (questions : List SetQuery) (told values : List Shown) (before : List Note) (counted : ℕ) (after : List Note) : Type 0 where
  pub notes : List Note
  pub are : AreNotesOf s questions told values notes
  pub count_is : counted ≡ length notes
  pub few : length notes ≤ length questions
  pub places : length after ≡ length before
  pub written : length notes ≤ length before → after ≡ notes ++ drop (length notes) before
