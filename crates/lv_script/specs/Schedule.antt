-- Schedules of the lock-free machine: what each line says, and the reply to it.
use Rattle.std.specs.Prelude.{◌≡◌, ℕ, if◌then◌else◌, List, [], ◌∷◌, ◌++◌, codes, decimal, Option, Some, None, option_map, unwrap_or}
use Rattle.std.specs.Str.{bytes_eq}
use Rattle.lv_bodies.specs.declared.kinds.Kind.{Kind}
use Rattle.lv_bodies.specs.declared.kinds.Kind.TheVariants as kind
use Rattle.lv_bodies.specs.declared.kinds.Shown.{Shown}
use Rattle.lv_bodies.specs.declared.kinds.Shown.TheVariants as shown
use Rattle.lv_bodies.specs.Parts.{sum_of_parts, sum_parts}
use Rattle.lv_bodies.specs.Sums.{sum_operations}
use Rattle.lv_bodies.specs.declared.sums.Sum.{Sum}
use Rattle.lv_edits.specs.declared.edit.Edit.TheVariants as edit
use Rattle.lv_machine.specs.declared.events.Call.{Call}
use Rattle.lv_machine.specs.declared.events.Call.TheVariants as call
use Rattle.lv_machine.specs.declared.events.Event.{Event}
use Rattle.lv_machine.specs.declared.events.Event.TheVariants as event
use Rattle.lv_machine.specs.declared.outcomes.Outcome.{Outcome}
use Rattle.lv_machine.specs.declared.outcomes.Outcome.TheVariants.{Started, Going, Done, Refused}
use Rattle.lv_machine.specs.declared.outcomes.Said.{Said}
use Rattle.lv_machine.specs.declared.outcomes.Said.TheVariants as said
use Rattle.lv_machine.specs.Machine.{MachineState, block_refreshed, machine_step}
use Rattle.lv_lines.specs.declared.command.Command.{Command}
use Rattle.lv_lines.specs.declared.command.Command.TheVariants.{Edit, Get, Size}
use Rattle.lv_lines.specs.declared.lines.Line.{Line}
use Rattle.lv_lines.specs.declared.lines.Line.TheVariants.{Nothing, Bad, Do}
use Rattle.lv_lines.specs.Grammar.{◌>>=◌, bounds_in, command_in, line_by, lone_number}
use Rattle.lv_lines.specs.Numbers.{number_in}
use Rattle.lv_lines.specs.Texts.{answer_text, bad_text, fresh_text, receipt_text, refused_text, reply_line, size_text, value_text}

-- ---- what a line says

-- the call that a command of scripts asks for, if the lock-free form has it
abbrev pub call_of : Command → Option Call
call_of (Edit (edit.Push x)) = Some (call.Push x)
call_of (Edit edit.Pop) = Some call.Pop
call_of (Edit (edit.Write i x)) = Some (call.Write i x)
call_of (Get i) = Some (call.Get i)
call_of Size = Some call.Size
call_of _ = None

-- the call that some words ask for, except for reductions: `refresh number`, or a command of scripts
unfoldable pub plain_call_in : List (List ℕ) → Option Call
plain_call_in [] = None
plain_call_in (verb ∷ words) =
    if bytes_eq verb (codes "refresh") then option_map call.Refresh (lone_number words)
    else command_in (verb ∷ words) >>= call_of

-- the call that some words ask for: `reduce lo hi`, or another
unfoldable pub call_in : List (List ℕ) → Option Call
call_in [] = None
call_in (verb ∷ words) =
    if bytes_eq verb (codes "reduce") then option_map (λ bounds. call.Reduce bounds.0 bounds.1) (bounds_in words)
    else plain_call_in (verb ∷ words)

-- the call of an actor that some words are: its number, and the words of the call
unfoldable pub called_in : List (List ℕ) → Option Event
called_in [] = None
called_in (word ∷ words) = do
  actor ← number_in word
  asked ← call_in words
  Some (event.Call actor asked)

-- the event that the words of a line are: `call`, and whose call it is; or `step`, and whose step
unfoldable pub event_in : List (List ℕ) → Option Event
event_in [] = None
event_in (verb ∷ words) =
    if bytes_eq verb (codes "call") then called_in words
    else (if bytes_eq verb (codes "step") then option_map event.Step (lone_number words) else None)

-- what a line says, given without its LF
abbrev pub schedule_line_of : List ℕ → Line Event
schedule_line_of bytes = line_by event_in bytes

-- ---- the reply to an event

-- the result of a call, with a fold replaced by its output
abbrev pub said_shown : {S : Type 0} → (S → Shown) → Said S → Said Shown
said_shown shown (said.Did receipt) = said.Did receipt
said_shown shown (said.Read read) = said.Read read
said_shown shown (said.Sized sized) = said.Sized sized
said_shown shown (said.Answered answer) =
    said.Answered record { edit = answer.edit; value = shown answer.value; cells_read = answer.cells_read; summaries_read = answer.summaries_read }
said_shown shown (said.Refreshed refreshed) = said.Refreshed refreshed
said_shown shown (said.Refused refusal) = said.Refused refusal

-- the result of a call as a line, given the kind of its fold or the block that it refreshed
abbrev pub said_text : Kind → ℕ → Said Shown → List ℕ
said_text kind block (said.Did receipt) = receipt_text receipt
said_text kind block (said.Read read) = value_text read.value
said_text kind block (said.Sized sized) = size_text sized.size sized.edit
said_text kind block (said.Answered answer) = answer_text answer.edit kind answer.value
said_text kind block (said.Refreshed refreshed) = fresh_text block refreshed.version
said_text kind block (said.Refused refusal) = refused_text refusal

-- the outcome of an actor's event, as a line: its call has begun, goes on, or has ended; or the event is rejected
abbrev pub outcome_text : ℕ → ℕ → Outcome ℕ → List ℕ
outcome_text actor block Started = reply_line (codes "started " ++ decimal actor)
outcome_text actor block Going = reply_line (codes "step " ++ decimal actor)
outcome_text actor block (Done answer) = codes "done " ++ decimal actor ++ codes " " ++ said_text kind.Sum block (said_shown shown.Sum answer)
outcome_text actor block (Refused refusal) = refused_text refusal

-- ---- the reply to a line, and what the line changes

-- a machine whose body is the sum
abbrev pub SumMachine : Type 0
SumMachine = MachineState Sum ℕ

-- one event on it: the machine after it, and what it comes to
abbrev pub sum_step : SumMachine → Event → SumMachine × Outcome ℕ
sum_step m e = machine_step sum_operations 1 sum_parts sum_of_parts m e

-- whose event it is
abbrev pub actor_of : Event → ℕ
actor_of (event.Call actor asked) = actor
actor_of (event.Step actor) = actor

-- the reply to an event: the text of its outcome. If a refresh ends with the event, it is one of the block that the actor's call refreshed
abbrev pub event_text : SumMachine → Event → List ℕ
event_text m e = outcome_text (actor_of e) (unwrap_or (block_refreshed m (actor_of e)) 0) (sum_step m e).1

-- the reply to a line: none if it says nothing, and its number if it is not understood
abbrev pub line_text : SumMachine → ℕ → Line Event → List ℕ
line_text m n Nothing = []
line_text m n Bad = bad_text n
line_text m n (Do e) = event_text m e

-- the machine after a line
abbrev pub machine_after : SumMachine → Line Event → SumMachine
machine_after m Nothing = m
machine_after m Bad = m
machine_after m (Do e) = (sum_step m e).0

-- one line of a schedule, by its bytes and its number: its reply, and the machine after it
unfoldable pub ScheduleStep : SumMachine → ℕ → List ℕ → List ℕ → SumMachine → Type 0
ScheduleStep old n line text new =
    (text ≡ line_text old n (schedule_line_of line)) × (new ≡ machine_after old (schedule_line_of line))
