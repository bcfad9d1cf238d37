-- A reference interpreter of a series' scripts. Its replies depend only on the elements that are kept and their first index, the number of
-- accepted updates, and the registered queries. It stores no trees and no values. Values are those of `plain_value`, and texts those of the
-- formats. Interpreter.antt reads the lines.
use Rattle.std.specs.Prelude.{ℕ, ◌+◌, Bool, true, false, Option, None, List, [], ◌∷◌, ◌++◌, option_map}
use Rattle.std.specs.List.{flat_map}
use Rattle.std.specs.Option.{option_map_or}
use Rattle.lv_geometry.specs.Numbers.{number_of as name_number}
use Rattle.lv_bodies.specs.declared.kinds.Shown.{Shown}
use Rattle.lv_bodies.specs.Plain.{plain_value, program_table}
use Rattle.lv_series.specs.Numbers.{number_of}
use Rattle.lv_series.specs.Plain.{no_kinds}
use Rattle.lv_series.specs.Series.{Held, SeriesState, changed, element_at, range_refused, receipt_of, refused, size_of, slice_of}
use Rattle.lv_lines.specs.Texts.{answer_text, named_text, scan_text, size_text, unwatched_text, watching_text}
use Rattle.lv_script.specs.Interpreter.{Target}
use Rattle.lv_script.specs.PlainScript.{note_of, scan_by, unknown}
use Rattle.lv_script.specs.declared.long_commands.LongCommand.{LongCommand}
use Rattle.lv_script.specs.declared.long_commands.LongCommand.TheVariants.{Edit, First, Size, Get, Reduce, Scan, Find, BestRun, Watch, Unwatch, Answer}
use Rattle.lv_script.specs.LongGrammar.{long_line_of}
use Rattle.lv_standing.specs.declared.queries.Query.{Query}
use Rattle.lv_standing.specs.Askable.{span_from}
use Rattle.lv_standing.specs.Queries.{query_of, span_refusal, without_query}
use Rattle.lv_script.specs.LongTexts.{first_text, index_text, long_element_text, long_receipt_text, run_text}
use Rattle.lv_script.specs.Searched.{best_run, index_of}

-- all its state: the elements and the first index, the number of accepted updates, and the registered queries, in order
pub record PlainSeries : Type 0 where
  pub held : Held
  pub edit : ℕ
  pub queries : List Query

-- the initial state: no elements, no updates and no queries
abbrev pub start_series : PlainSeries
start_series = record { held = record { first = 0; elements = [] }; edit = 0; queries = [] }

-- ---- the reply to a command

-- the series that decides whether an update is rejected, and what it returns. Trees change neither, so it has none
abbrev pub series_of : PlainSeries → SeriesState
series_of k = record { table = program_table; kinds = no_kinds; held = k.held; edits = k.edit }

-- the number of the error with which a command is rejected, if any. Out of memory is not among these errors
abbrev pub refusal_of : PlainSeries → LongCommand → Option ℕ
refusal_of k (Edit e) = option_map number_of (refused (series_of k) e)
refusal_of k (Reduce kind lo hi) = option_map number_of (range_refused k.held lo hi)
refusal_of k (Scan inclusive kind lo hi) = option_map number_of (range_refused k.held lo hi)
refusal_of k (Find sought lo hi) = option_map number_of (range_refused k.held lo hi)
refusal_of k (BestRun lo hi) = option_map number_of (range_refused k.held lo hi)
refusal_of k (Watch name kind span bound) = option_map name_number (span_refusal 64 k.queries name span)
refusal_of k (Unwatch name) = option_map name_number (unknown (query_of k.queries name))
refusal_of k (Answer name) = option_map name_number (unknown (query_of k.queries name))
refusal_of k _ = None

-- the answer of a query: the plain value of those elements of its span that are kept
abbrev pub long_answer : Held → Query → Shown
long_answer h q = plain_value q.kind (span_from h.first q.span h.elements)

-- the reply to a command that is not rejected; for an element that isn't kept, its error. The oracle is not used
abbrev pub reply_of : List ℕ → PlainSeries → LongCommand → List ℕ
reply_of told k (Edit e) = long_receipt_text (receipt_of (series_of k) e) (changed k.held e).first ++ flat_map (λ q. note_of q (long_answer k.held q) (long_answer (changed k.held e) q)) k.queries
reply_of told k First = first_text k.held.first k.edit
reply_of told k Size = size_text (size_of k.held) k.edit
reply_of told k (Get i) = long_element_text (element_at k.held i)
reply_of told k (Reduce kind lo hi) = answer_text k.edit kind (plain_value kind (slice_of k.held lo hi))
reply_of told k (Scan inclusive kind lo hi) = scan_text k.edit inclusive kind (scan_by (plain_value kind) inclusive (slice_of k.held lo hi))
reply_of told k (Find sought lo hi) = index_text k.edit (index_of sought k.held lo hi)
reply_of told k (BestRun lo hi) = run_text k.edit (best_run k.held lo hi)
reply_of told k (Watch name kind span bound) = watching_text name
reply_of told k (Unwatch name) = unwatched_text name
reply_of told k (Answer name) = option_map_or (λ q. named_text k.edit name (long_answer k.held q)) (query_of k.queries name) []

-- the state after such a command: an update changes the elements, a query is registered after the others, or a query is removed
abbrev pub after : PlainSeries → LongCommand → PlainSeries
after k (Edit e) = record k { held = changed k.held e; edit = k.edit + 1 }
after k (Watch name kind span bound) = record k { queries = k.queries ++ record { name = name; kind = kind; span = span; bound = bound } ∷ [] }
after k (Unwatch name) = record k { queries = without_query k.queries name }
after k _ = k

-- whether a command can run out of memory: an update, a search, or the registration of a query
abbrev pub may_want : LongCommand → Bool
may_want (Edit e) = true
may_want (Find sought lo hi) = true
may_want (BestRun lo hi) = true
may_want (Watch name kind span bound) = true
may_want _ = false

-- a series as a target of scripts
abbrev pub series_script : Target LongCommand ℕ PlainSeries
series_script = record { line_of = long_line_of; refusal_of = refusal_of; number_of = λ number. number; reply_of = reply_of; after = after; may_want = may_want }
