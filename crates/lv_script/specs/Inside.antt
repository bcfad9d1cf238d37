-- What the code of a series' script passes on: the set of queries, and the effect of a line on the state that is known.
use Rattle.std.specs.Prelude.{◌≡◌, ℕ, ◌≤◌, List, [], length, map}
use Rattle.lv_bodies.specs.Plain.{program_table}
use Rattle.lv_bodies.specs.declared.kinds.Shown.{Shown}
use Rattle.lv_series.specs.Series.{Held, SeriesState}
use Rattle.lv_lines.specs.declared.lines.Line.TheVariants.{Do}
use Rattle.lv_standing.specs.QuerySets.{QuerySetState}
use Rattle.lv_standing.specs.Queries.{AreNotesOf}
use Rattle.lv_standing.specs.Standings.{HaveOwnNames}
use Rattle.lv_standing.specs.declared.notes.Note.{Note}
use Rattle.lv_script.specs.declared.long_commands.LongCommand.{LongCommand}
use Rattle.lv_standing.specs.declared.queries.Query.{Query}
use Rattle.lv_script.specs.Interpreter.{PlainLine, PlainStep}
use Rattle.lv_script.specs.PlainSeriesScript.{PlainSeries, long_answer, series_script}

-- ---- queries

-- the notifications that are due if the last reported answers of the queries were these, and their answers follow from what is kept now
abbrev pub AreNotesDue : Held → List Query → List Shown → List Note → Type 0
AreNotesDue h queries told notes = AreNotesOf queries told (map (long_answer h) queries) notes

-- the set whose queries count as having reported their present answers
abbrev pub brought_up : Held → QuerySetState Query → QuerySetState Query
brought_up h set = record { queries = set.queries; told = map (long_answer h) set.queries; answers = []; most = set.most }

-- the series has the program's automaton, each query counts as having reported its present answer, there are at most 64 queries, each with a name
-- of its own, and there is room for so many notifications
pub record IsReady (s : SeriesState) (set : QuerySetState Query) (capacity : ℕ) : Type 0 where
  pub table : s.table ≡ program_table
  pub told : set.told ≡ map (long_answer s.held) set.queries
  pub apart : HaveOwnNames set.queries
  pub most : set.most ≡ 64
  pub few : length set.queries ≤ 64
  pub room : length set.queries ≤ capacity

-- ---- what is known

-- by a series and its queries
abbrev pub known_of : SeriesState → List Query → PlainSeries
known_of s queries = record { held = s.held; edit = s.edits; queries = queries }

-- the reply to a command, and what is known after it
abbrev pub Told : PlainSeries → LongCommand → List ℕ → PlainSeries → Type 0
Told old c text new = PlainLine series_script old 0 (Do c) text new

-- one line of a script, by its bytes and its number
unfoldable pub SeriesStep : PlainSeries → ℕ → List ℕ → List ℕ → PlainSeries → Type 0
SeriesStep old n line text new = PlainStep series_script old n line text new
