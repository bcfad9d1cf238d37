-- A reference interpreter of a vector's scripts. Its replies depend only on the limits, the accepted updates and the registered queries. The
-- exceptions are the replies to `claim`, to `deliver` and to a `cost` that is not rejected, which are given to it. It stores no aggregates, no
-- tasks and no counters. Values are those of `plain_value`, and texts those of the formats. Interpreter.antt reads the lines.
use Rattle.std.specs.Prelude.{ℕ, ℤ, ◌+◌, Bool, true, false, Option, Some, None, List, [], ◌∷◌, ◌++◌, length, take, map, if◌then◌else◌}
use Rattle.std.specs.List.{flat_map, range_with_len}
use Rattle.std.specs.Option.{option_map_or}
use Rattle.lv_geometry.specs.Bounds.{Bounds}
use Rattle.lv_geometry.specs.declared.refusals.Refusal.{Refusal}
use Rattle.lv_geometry.specs.declared.refusals.Refusal.TheVariants.{NoSuchName}
use Rattle.lv_geometry.specs.Numbers.{number_of}
use Rattle.lv_bodies.specs.declared.kinds.Shown.{Shown}
use Rattle.lv_bodies.specs.Plain.{plain_value}
use Rattle.lv_edits.specs.declared.edit.Edit.{Edit}
use Rattle.lv_edits.specs.Capacity.{capacity_after}
use Rattle.lv_edits.specs.History.{list_of}
use Rattle.lv_edits.specs.Verdict.{element_at, receipt_of, verdict_of}
use Rattle.lv_edits.specs.Ranges.{range_refusal, slice_of}
use Rattle.lv_standing.specs.declared.queries.Query.{Query}
use Rattle.lv_standing.specs.Queries.{between, is_due, query_of, watch_answer, watch_refusal, without_query}
use Rattle.lv_lines.specs.declared.command.Command.{Command}
use Rattle.lv_lines.specs.declared.command.Command.TheVariants as command
use Rattle.lv_lines.specs.declared.command.Command.TheVariants.{Settle, Get, Size, Capacity, Reduce, Cost, Scan, Claim, Deliver, Forget, Watch, Unwatch, Answer}
use Rattle.lv_lines.specs.Grammar.{line_of}
use Rattle.lv_lines.specs.Texts.{answer_text, capacity_text, element_text, forgotten_text, named_text, note_text, receipt_text, reply_line, scan_text, settled_text, size_text, unwatched_text, watching_text}
use Rattle.lv_script.specs.Interpreter.{Target}

-- all its state: the limits, the accepted updates, and the registered queries, both in order
pub record Plain : Type 0 where
  pub limits : Bounds
  pub edits : List Edit
  pub queries : List Query

-- the initial state: no queries, and the updates that were made before. `start` is the initial state without any updates
abbrev pub start_after : Bounds → List Edit → Plain
start_after limits edits = record { limits = limits; edits = edits; queries = [] }

abbrev pub start : Bounds → Plain
start limits = start_after limits []

-- ---- the reply to a command

-- the error `NoSuchName` if no query is registered under a name, and no error if one is
abbrev pub unknown : Option Query → Option Refusal
unknown None = Some NoSuchName
unknown (Some q) = None

-- the error with which a command is rejected, if any. Out of memory (`NoMemory`) is not among these errors
abbrev pub refusal_of : Plain → Command → Option Refusal
refusal_of s (command.Edit e) = verdict_of s.limits s.edits e
refusal_of s (Reduce kind lo hi) = range_refusal s.edits lo hi
refusal_of s (Cost lo hi) = range_refusal s.edits lo hi
refusal_of s (Scan inclusive kind lo hi) = range_refusal s.edits lo hi
refusal_of s (Watch name kind lo hi) = watch_refusal s.queries name lo hi
refusal_of s (Unwatch name) = unknown (query_of s.queries name)
refusal_of s (Answer name) = unknown (query_of s.queries name)
refusal_of s _ = None

-- the notification of a query, given its answers before and after an update: the answer after it if a notification is due, and nothing if not
abbrev pub note_of : Query → Shown → Shown → List ℕ
note_of q before now = if is_due q.bound before now then note_text q.name now else []

-- the outputs for the prefixes of a list. An inclusive scan takes each prefix with the element at its place, an exclusive scan without it
abbrev pub scan_by : (List ℤ → Shown) → Bool → List ℤ → List Shown
scan_by shown inclusive xs = map (λ i. shown (take (if inclusive then i + 1 else i) xs)) (range_with_len 0 (length xs))

-- the reply to a command that is not rejected. `told` is an oracle for what the updates do not determine: which task a claim hands out, what
-- becomes of a delivered result, and how many reads a reduction takes
abbrev pub reply_of : List ℕ → Plain → Command → List ℕ
reply_of told s (command.Edit e) = receipt_text (receipt_of s.edits e) ++ flat_map (λ q. note_of q (watch_answer s.edits q) (watch_answer (s.edits ++ e ∷ []) q)) s.queries
reply_of told s Settle = settled_text
reply_of told s (Get i) = element_text (element_at s.edits i)
reply_of told s Size = size_text (length (list_of s.edits)) (length s.edits)
reply_of told s Capacity = capacity_text (capacity_after s.edits)
reply_of told s (Reduce kind lo hi) = answer_text (length s.edits) kind (plain_value kind (slice_of s.edits lo hi))
reply_of told s (Cost lo hi) = reply_line told
reply_of told s (Scan inclusive kind lo hi) = scan_text (length s.edits) inclusive kind (scan_by (plain_value kind) inclusive (slice_of s.edits lo hi))
reply_of told s Claim = reply_line told
reply_of told s (Deliver k) = reply_line told
reply_of told s Forget = forgotten_text
reply_of told s (Watch name kind lo hi) = watching_text name
reply_of told s (Unwatch name) = unwatched_text name
reply_of told s (Answer name) = option_map_or (λ q. named_text (length s.edits) name (watch_answer s.edits q)) (query_of s.queries name) []

-- the state after such a command: an update is appended to the updates, a query is registered after the others, or a query is removed
abbrev pub after : Plain → Command → Plain
after s (command.Edit e) = record s { edits = s.edits ++ e ∷ [] }
after s (Watch name kind lo hi) = record s { queries = s.queries ++ between name kind lo hi ∷ [] }
after s (Unwatch name) = record s { queries = without_query s.queries name }
after s _ = s

-- whether a command can run out of memory: an update, or the registration of a query. (A claim can too, but its reply is the oracle's.)
abbrev pub may_want : Command → Bool
may_want (command.Edit e) = true
may_want (Watch name kind lo hi) = true
may_want _ = false

-- a vector as a target of scripts
abbrev pub vector_script : Target Command Refusal Plain
vector_script = record { line_of = line_of; refusal_of = refusal_of; number_of = number_of; reply_of = reply_of; after = after; may_want = may_want }
