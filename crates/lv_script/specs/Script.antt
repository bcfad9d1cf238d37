-- The reply to each line of a script, and what the line changes.
use Rattle.std.specs.Prelude.{◌≡◌, ◌⊎◌, ℕ, ℤ, Bool, Result, Ok, Err, Option, Some, None, List, [], ◌∷◌, ◌++◌, length}
use Rattle.std.specs.List.{flat_map}
use Rattle.lv_geometry.specs.Bounds.{Bounds}
use Rattle.lv_geometry.specs.declared.refusals.Refusal.{Refusal}
use Rattle.lv_geometry.specs.declared.refusals.Refusal.TheVariants.{NoMemory, NoSuchName}
use Rattle.lv_bodies.specs.declared.kinds.Kind.{Kind}
use Rattle.lv_bodies.specs.declared.kinds.Shown.{Shown}
use Rattle.lv_bodies.specs.Plain.{plain_value}
use Rattle.lv_bodies.specs.Six.{SixSummary, six_operations}
use Rattle.lv_edits.specs.declared.edit.Edit.{Edit}
use Rattle.lv_edits.specs.declared.receipt.Receipt.{Receipt}
use Rattle.lv_edits.specs.Capacity.{capacity_after}
use Rattle.lv_edits.specs.History.{list_of}
use Rattle.lv_edits.specs.Verdict.{element_at}
use Rattle.lv_edits.specs.Ranges.{range_refusal, slice_of}
use Rattle.lv_refresh.specs.Record.{Record, SameRecord}
use Rattle.lv_live.specs.declared.events.Event.{Event}
use Rattle.lv_live.specs.declared.events.Event.TheVariants as event
use Rattle.lv_live.specs.declared.replies.ReplyOf.{ReplyOf}
use Rattle.lv_live.specs.declared.replies.ReplyOf.TheVariants as reply
use Rattle.lv_live.specs.Step.{Step, edit_reply}
use Rattle.lv_standing.specs.declared.notes.Note.{Note}
use Rattle.lv_standing.specs.declared.queries.Query.{Query}
use Rattle.lv_standing.specs.Queries.{AreNotes, between, query_of, query_refusal, watch_answer, without_query}
use Rattle.lv_lines.specs.declared.command.Command.{Command}
use Rattle.lv_lines.specs.declared.command.Command.TheVariants as command
use Rattle.lv_lines.specs.declared.command.Command.TheVariants.{Settle, Get, Size, Capacity, Reduce, Cost, Scan, Claim, Deliver, Forget, Watch, Unwatch, Answer}
use Rattle.lv_lines.specs.declared.lines.Line.{Line}
use Rattle.lv_lines.specs.declared.lines.Line.TheVariants.{Nothing, Bad, Do}
use Rattle.lv_lines.specs.Grammar.{line_of}
use Rattle.lv_lines.specs.Texts.{accepted_text, answer_text, bad_text, capacity_text, cost_text, element_text, forgotten_text, idle_text, job_text, named_text, note_text, receipt_text, refused_text, scan_text, settled_text, size_text, unwatched_text, watching_text}
use Rattle.lv_script.specs.PlainScript.{scan_by}

-- the state of a script: its limits, the record of its vector, and its registered queries
pub record ScriptState : Type 0 where
  pub limits : Bounds
  pub seen : Record
  pub queries : List Query

-- only the queries have changed, and are these now
pub record HasQueries (old new : ScriptState) (queries : List Query) : Type 0 where
  pub limits : new.limits ≡ old.limits
  pub seen : SameRecord old.seen new.seen
  pub queries_are : new.queries ≡ queries

-- an event was answered, and nothing but the record has changed
pub record Does (old : ScriptState) (event : Event) (answered : ReplyOf SixSummary) (new : ScriptState) : Type 0 where
  pub step : Step six_operations old.limits old.seen event answered new.seen
  pub limits : new.limits ≡ old.limits
  pub queries : new.queries ≡ old.queries

-- a line that changes nothing has this reply
abbrev pub Tells : ScriptState → List ℕ → List ℕ → ScriptState → Type 0
Tells old told text new = (text ≡ told) × HasQueries old new old.queries

-- a receipt or a refusal as a line
abbrev pub edit_text : Result Receipt Refusal → List ℕ
edit_text (Ok receipt) = receipt_text receipt
edit_text (Err refusal) = refused_text refusal

-- notes, each as a line
abbrev pub notes_text : List Note → List ℕ
notes_text notes = flat_map (λ note. note_text note.name note.value) notes

-- the reply to an update: its receipt and its notifications, or its error
pub record TellsEdit (old : ScriptState) (e : Edit) (text : List ℕ) (new : ScriptState) : Type 0 where
  pub answer : Result Receipt Refusal
  pub notes : List Note
  pub does : Does old (event.Edit e) (edit_reply answer) new
  pub notes_are : AreNotes old.seen.edits new.seen.edits old.queries notes
  pub text_is : text ≡ edit_text answer ++ notes_text notes

-- the reply to an event, as a line. For a reduction it says how much was read, and no line asks for a scan as an event
abbrev pub reply_text : ReplyOf SixSummary → List ℕ
reply_text (reply.Did receipt) = receipt_text receipt
reply_text reply.Settled = settled_text
reply_text (reply.Claimed job node version) = job_text job node version
reply_text reply.Idle = idle_text
reply_text (reply.Gave accepted) = accepted_text accepted
reply_text reply.Forgotten = forgotten_text
reply_text (reply.Answered answer) = cost_text answer.cells_read answer.summaries_read
reply_text (reply.Scanned scan) = []
reply_text (reply.Refused refusal) = refused_text refusal

-- an event has its reply
pub record TellsEvent (old : ScriptState) (event : Event) (text : List ℕ) (new : ScriptState) : Type 0 where
  pub answered : ReplyOf SixSummary
  pub does : Does old event answered new
  pub text_is : text ≡ reply_text answered

-- the value of a kind over a range, at the last update, or the error
abbrev pub reduced_text : List Edit → Kind → ℕ → ℕ → Option Refusal → List ℕ
reduced_text edits kind lo hi (Some refusal) = refused_text refusal
reduced_text edits kind lo hi None = answer_text (length edits) kind (plain_value kind (slice_of edits lo hi))

-- the values of a kind over the prefixes of a list
abbrev pub plain_scan : Bool → Kind → List ℤ → List Shown
plain_scan inclusive kind xs = scan_by (plain_value kind) inclusive xs

-- the scan of a kind over a range, at the last update, or the error
abbrev pub scanned_range_text : List Edit → Bool → Kind → ℕ → ℕ → Option Refusal → List ℕ
scanned_range_text edits inclusive kind lo hi (Some refusal) = refused_text refusal
scanned_range_text edits inclusive kind lo hi None = scan_text (length edits) inclusive kind (plain_scan inclusive kind (slice_of edits lo hi))

-- a scan has this reply
abbrev pub TellsScan : ScriptState → Bool → Kind → ℕ → ℕ → List ℕ → ScriptState → Type 0
TellsScan old inclusive kind lo hi text new = Tells old (scanned_range_text old.seen.edits inclusive kind lo hi (range_refusal old.seen.edits lo hi)) text new

-- a query is registered after the others; or it is rejected, with `NoMemory` (out of memory) if it has no other error
abbrev pub TellsWatch : ScriptState → Query → List ℕ → ScriptState → Type 0
TellsWatch old q text new =
    ((query_refusal 64 old.queries q ≡ None) × (text ≡ watching_text q.name) × HasQueries old new (old.queries ++ q ∷ []))
    ⊎ ((refusal : Refusal) × ((query_refusal 64 old.queries q ≡ Some refusal) ⊎ ((query_refusal 64 old.queries q ≡ None) × (refusal ≡ NoMemory)))
    × Tells old (refused_text refusal) text new)

-- the query under a name is removed, if there is one
abbrev pub TellsUnwatch : ScriptState → List ℕ → Option Query → List ℕ → ScriptState → Type 0
TellsUnwatch old name None text new = Tells old (refused_text NoSuchName) text new
TellsUnwatch old name (Some q) text new = (text ≡ unwatched_text name) × HasQueries old new (without_query old.queries name)

-- the answer of the query under a name at the last update, if there is one
abbrev pub named_answer_text : List Edit → List ℕ → Option Query → List ℕ
named_answer_text edits name None = refused_text NoSuchName
named_answer_text edits name (Some q) = named_text (length edits) name (watch_answer edits q)

-- the reply to a command, and what the command changes
abbrev pub CommandAnswer : ScriptState → Command → List ℕ → ScriptState → Type 0
CommandAnswer old (command.Edit e) text new = TellsEdit old e text new
CommandAnswer old Settle text new = TellsEvent old event.Settle text new
CommandAnswer old (Get i) text new = Tells old (element_text (element_at old.seen.edits i)) text new
CommandAnswer old Size text new = Tells old (size_text (length (list_of old.seen.edits)) (length old.seen.edits)) text new
CommandAnswer old Capacity text new = Tells old (capacity_text (capacity_after old.seen.edits)) text new
CommandAnswer old (Reduce kind lo hi) text new = Tells old (reduced_text old.seen.edits kind lo hi (range_refusal old.seen.edits lo hi)) text new
CommandAnswer old (Cost lo hi) text new = TellsEvent old (event.Reduce lo hi) text new
CommandAnswer old (Scan inclusive kind lo hi) text new = TellsScan old inclusive kind lo hi text new
-- a claim may fail with `NoMemory`, if there is no room for its task; no node is claimed then
CommandAnswer old Claim text new = TellsEvent old event.Claim text new ⊎ Tells old (refused_text NoMemory) text new
CommandAnswer old (Deliver k) text new = TellsEvent old (event.Deliver k) text new
CommandAnswer old Forget text new = TellsEvent old event.Forget text new
CommandAnswer old (Watch name kind lo hi) text new = TellsWatch old (between name kind lo hi) text new
CommandAnswer old (Unwatch name) text new = TellsUnwatch old name (query_of old.queries name) text new
CommandAnswer old (Answer name) text new = Tells old (named_answer_text old.seen.edits name (query_of old.queries name)) text new

-- the reply to a line, and what it changes: none if the line says nothing, and its number if it is not understood
abbrev pub LineAnswer : ScriptState → ℕ → Line Command → List ℕ → ScriptState → Type 0
LineAnswer old n Nothing text new = Tells old [] text new
LineAnswer old n Bad text new = Tells old (bad_text n) text new
LineAnswer old n (Do command) text new = CommandAnswer old command text new

-- one line of a script, by its bytes and its number: its reply, and what it changes
unfoldable pub ScriptStep : ScriptState → ℕ → List ℕ → List ℕ → ScriptState → Type 0
ScriptStep old n line text new = LineAnswer old n (line_of line) text new
