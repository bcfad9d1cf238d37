-- A reference model of sessions at a hub. All sessions share one list of updates, and each line is answered after some prefix of it. Other
-- sessions may append updates between two lines of a session. The model keeps only the updates that a session has seen, and how many of them the
-- session made.
use Rattle.std.specs.Prelude.{◌≡◌, ◌⊎◌, ℕ, ◌+◌, ◌≤◌, Option, None, List, [], ◌∷◌, ◌++◌, length, take}
use Rattle.std.specs.Option.{option_map_or}
use mathlib.Core.List.{IsPrefix}
use Rattle.lv_geometry.specs.Bounds.{Bounds}
use Rattle.lv_geometry.specs.declared.refusals.Refusal.{Refusal}
use Rattle.lv_geometry.specs.declared.refusals.Refusal.TheVariants.{NoMemory}
use Rattle.lv_bodies.specs.Plain.{plain_value}
use Rattle.lv_edits.specs.declared.edit.Edit.{Edit}
use Rattle.lv_edits.specs.Verdict.{receipt_of, verdict_of}
use Rattle.lv_edits.specs.Ranges.{range_refusal, slice_of}
use Rattle.lv_lines.specs.declared.command.Command.{Command}
use Rattle.lv_lines.specs.declared.command.Command.TheVariants as command
use Rattle.lv_lines.specs.declared.command.Command.TheVariants.{Reduce, Scan}
use Rattle.lv_lines.specs.declared.lines.Line.{Line}
use Rattle.lv_lines.specs.declared.lines.Line.TheVariants.{Nothing, Bad, Do}
use Rattle.lv_lines.specs.Grammar.{line_of}
use Rattle.lv_lines.specs.Texts.{answer_text, bad_text, numbered, receipt_text, refused_text, scan_text}
use Rattle.lv_transcript.specs.declared.log_heading.LogHeading.{LogHeading}
use Rattle.lv_hub.specs.Counting.{ShareState}
use Rattle.lv_history.specs.Numbering.{told_number}
use Rattle.lv_script.specs.PlainScript.{scan_by}

-- A line as a session reads it. A session accepts updates, reductions and scans, and any other command is a bad line.
abbrev pub known_of : Line Command → Line Command
known_of (Do (command.Edit e)) = Do (command.Edit e)
known_of (Do (Reduce kind lo hi)) = Do (Reduce kind lo hi)
known_of (Do (Scan inclusive kind lo hi)) = Do (Scan inclusive kind lo hi)
known_of Nothing = Nothing
known_of _ = Bad

abbrev pub session_line_of : List ℕ → Line Command
session_line_of bytes = known_of (line_of bytes)

-- What the model keeps of a session: the updates that it has seen, which are a prefix of the hub's, and how many of them it made.
pub record Seen : Type 0 where
  pub edits : List Edit
  pub made : ℕ

-- `Seen` of a session, taken from its share of the hub.
abbrev pub seen_by : ShareState → Seen
seen_by share = record { edits = share.seen; made = share.count }

-- The reply to an update, a reduction or a scan that no precondition refuses, after these updates. It carries the version: the number of the
-- update that was made, or otherwise of the last one.
abbrev pub reply_after : LogHeading → List Edit → Command → List ℕ
reply_after numbers edits (command.Edit e) = receipt_text (numbered (told_number numbers (length edits + 1)) (receipt_of edits e))
reply_after numbers edits (Reduce kind lo hi) = answer_text (told_number numbers (length edits)) kind (plain_value kind (slice_of edits lo hi))
reply_after numbers edits (Scan inclusive kind lo hi) = scan_text (told_number numbers (length edits)) inclusive kind (scan_by (plain_value kind) inclusive (slice_of edits lo hi))
reply_after numbers edits _ = []

module _ (limits : Bounds) where
  -- The precondition check: why a command is refused after these updates, or `None`. Running out of memory is not covered here.
  abbrev pub refusal_after : List Edit → Command → Option Refusal
  refusal_after edits (command.Edit e) = verdict_of limits edits e
  refusal_after edits (Reduce kind lo hi) = range_refusal edits lo hi
  refusal_after edits (Scan inclusive kind lo hi) = range_refusal edits lo hi
  refusal_after edits _ = None

  -- What a session has seen and made after a line. An update that is not refused is appended, and counts as made by the session. Any other line
  -- only leaves the session having seen these updates.
  abbrev pub seen_after : List Edit → Seen → Line Command → Seen
  seen_after edits old (Do (command.Edit e)) =
      option_map_or (λ refusal. record old { edits = edits }) (verdict_of limits edits e) record { edits = edits ++ e ∷ []; made = old.made + 1 }
  seen_after edits old _ = record old { edits = edits }

  -- The reply is the error `NoMemory`, for a command that the precondition check does not refuse.
  abbrev pub FindsNoMemory : List Edit → Line Command → List ℕ → Type 0
  FindsNoMemory edits (Do c) text = (refusal_after edits c ≡ None) × (text ≡ refused_text NoMemory)
  FindsNoMemory edits _ text = ⊥

module _ (limits : Bounds) (numbers : LogHeading) where
  -- The reply to line n after these updates. An empty line has no reply, and a bad line is answered by its number. A command is answered by its
  -- refusal if the precondition check refuses it, and otherwise by its reply.
  abbrev pub session_reply : List Edit → ℕ → Line Command → List ℕ
  session_reply edits n Nothing = []
  session_reply edits n Bad = bad_text n
  session_reply edits n (Do c) = option_map_or refused_text (refusal_after limits edits c) (reply_after numbers edits c)

  -- One step of a session, at line n. The hub had reached a list of updates that begins with those that the session had seen. Either the line has
  -- its reply after that list, and the session has then seen the list and the update that it made, if any. Or the reply is `NoMemory`, and no
  -- update was made.
  pub record PlainSessionStep (old : Seen) (n : ℕ) (line text : List ℕ) (new : Seen) : Type 0 where
    pub before : List Edit
    pub grown : IsPrefix old.edits before
    pub answer : ((text ≡ session_reply before n (session_line_of line)) × (new ≡ seen_after limits before old (session_line_of line)))
        ⊎ (FindsNoMemory limits before (session_line_of line) text × (new ≡ record old { edits = before }))

  -- The reply to line n is true of a list of updates: it is the reply after some prefix of the list, or the error `NoMemory`.
  pub record IsTrueReply (edits : List Edit) (n : ℕ) (line text : List ℕ) : Type 0 where
    pub many : ℕ
    pub within : many ≤ length edits
    pub answer : (text ≡ session_reply (take many edits) n (session_line_of line)) ⊎ (text ≡ refused_text NoMemory)

  -- `IsTrueReply` as a step of a run that keeps no state.
  abbrev pub TrueReply : List Edit → Unit {0} → ℕ → List ℕ → List ℕ → Unit {0} → Type 0
  TrueReply edits old n line text new = IsTrueReply edits n line text
