-- What the code of sessions passes on: how a line was answered from the result of a hub's call.
use Rattle.std.specs.Prelude.{◌≡◌, ◌⊎◌, ℕ, ◌+◌, Bool, true, IfOk, Result, Ok, Err, List, [], length}
use Rattle.lv_geometry.specs.Bounds.{Bounds}
use Rattle.lv_geometry.specs.declared.refusals.Refusal.{Refusal}
use Rattle.lv_geometry.specs.declared.refusals.Refusal.TheVariants.{NoMemory}
use Rattle.lv_bodies.specs.declared.kinds.Kind.{Kind}
use Rattle.lv_bodies.specs.Plain.{plain_value}
use Rattle.lv_bodies.specs.declared.sixes.Six.{Six}
use Rattle.lv_edits.specs.declared.edit.Edit.{Edit}
use Rattle.lv_edits.specs.declared.receipt.Receipt.{Receipt}
use Rattle.lv_reduce.specs.Stretch.{StretchState}
use Rattle.lv_lines.specs.declared.command.Command.{Command}
use Rattle.lv_lines.specs.declared.command.Command.TheVariants as commands
use Rattle.lv_lines.specs.declared.lines.Line.{Line}
use Rattle.lv_lines.specs.declared.lines.Line.TheVariants.{Nothing, Bad, Do}
use Rattle.lv_lines.specs.Grammar.{line_of}
use Rattle.lv_lines.specs.Texts.{answer_text, bad_text, numbered, receipt_text, refused_text, scan_text}
use Rattle.lv_transcript.specs.declared.claimed.Claimed.{Claimed}
use Rattle.lv_transcript.specs.declared.log_heading.LogHeading.{LogHeading}
use Rattle.lv_script.specs.PlainScript.{scan_by}
use Rattle.lv_standing.specs.declared.notes.Answered.{Answered}
use Rattle.lv_history.specs.Numbering.{told_number}
use Rattle.lv_hub.specs.Session.{SessionState, listed_if}
use Rattle.lv_hub.specs.Told.{EditTold, StretchTold, ValueTold}

-- The state once the hub's updates were seen up to these.
abbrev pub up_to : SessionState → List Edit → SessionState
up_to s edits = record s { seen = edits }

-- The state after an update, which is counted if it was accepted.
abbrev pub having_counted : SessionState → Result Receipt Refusal → SessionState
having_counted s (Ok receipt) = record s { count = s.count + 1 }
having_counted s (Err refusal) = s

-- A reduction as it is listed.
abbrev pub listed_of : Kind → ℕ → ℕ → Answered → Claimed
listed_of kind lo hi answered = record { edit = answered.edit; kind = kind; lo = lo; hi = hi; value = answered.value }

-- The state with one more reduction, if reductions are listed.
abbrev pub with_listed : Bool → SessionState → Claimed → SessionState
with_listed listing s claim = record s { answers = listed_if listing s.answers claim }

-- The text of an update's receipt, with this number, or of its refusal.
abbrev pub edit_text_at : ℕ → Result Receipt Refusal → List ℕ
edit_text_at number (Ok receipt) = receipt_text (numbered number receipt)
edit_text_at number (Err refusal) = refused_text refusal

-- The text of a scan of elements that were copied, with this number, or of its refusal.
abbrev pub scan_reply_text : ℕ → Bool → Kind → Result (StretchState Six) Refusal → List ℕ
scan_reply_text number inclusive kind (Ok stretch) = scan_text number inclusive kind (scan_by (plain_value kind) inclusive stretch.elements)
scan_reply_text number inclusive kind (Err refusal) = refused_text refusal

module _ (limits : Bounds) (numbers : LogHeading) (listing : Bool) where
  -- A reduction was answered, and listed if reductions are. Or it was refused, for its range or because the list had no room, and nothing
  -- changed.
  abbrev pub ListsAnswer : SessionState → Kind → ℕ → ℕ → Result Answered Refusal → List ℕ → SessionState → Type 0
  ListsAnswer old kind lo hi (Ok answered) text new =
      ((text ≡ answer_text (told_number numbers (length old.seen)) kind answered.value) × (new ≡ with_listed listing old (listed_of kind lo hi answered)))
      ⊎ ((listing ≡ true) × (text ≡ refused_text NoMemory) × (new ≡ old))
  ListsAnswer old kind lo hi (Err refusal) text new = (text ≡ refused_text refusal) × (new ≡ old)

  -- An update is answered by its receipt or its refusal.
  pub record TellsEdit (old : SessionState) (e : Edit) (text : List ℕ) (new : SessionState) : Type 0 where
    pub result : Result Receipt Refusal
    pub told : EditTold limits old.seen new.seen e result
    pub text_is : text ≡ edit_text_at (told_number numbers (length new.seen)) result
    pub state : new ≡ having_counted (up_to old new.seen) result

  -- A reduction is answered by its value or its refusal.
  pub record TellsReduction (old : SessionState) (kind : Kind) (lo hi : ℕ) (text : List ℕ) (new : SessionState) : Type 0 where
    pub result : Result Answered Refusal
    pub told : ValueTold limits old.seen new.seen kind lo hi result
    pub number : listing ≡ true → IfOk result (λ answered. answered.edit ≡ length new.seen)
    pub lists : ListsAnswer (up_to old new.seen) kind lo hi result text new

  -- A scan of a range that was copied is answered by its values or its refusal, and changes nothing else.
  pub record TellsScan (old : SessionState) (inclusive : Bool) (kind : Kind) (lo hi : ℕ) (text : List ℕ) (new : SessionState) : Type 0 where
    pub body : Six
    pub result : Result (StretchState Six) Refusal
    pub told : StretchTold body limits old.seen new.seen lo hi result
    pub text_is : text ≡ scan_reply_text (told_number numbers (length new.seen)) inclusive kind result
    pub state : new ≡ up_to old new.seen

  -- The reply to a command. Sessions accept updates, reductions and scans. Any other command is a bad line, and is answered by the line's number.
  abbrev pub SessionCommandAnswer : SessionState → ℕ → Command → List ℕ → SessionState → Type 0
  SessionCommandAnswer old n (commands.Edit e) text new = TellsEdit old e text new
  SessionCommandAnswer old n (commands.Reduce kind lo hi) text new = TellsReduction old kind lo hi text new
  SessionCommandAnswer old n (commands.Scan inclusive kind lo hi) text new = TellsScan old inclusive kind lo hi text new
  SessionCommandAnswer old n _ text new = (text ≡ bad_text n) × (new ≡ old)

  -- The reply to a line.
  abbrev pub SessionLineAnswer : SessionState → ℕ → Line Command → List ℕ → SessionState → Type 0
  SessionLineAnswer old n Nothing text new = (text ≡ []) × (new ≡ old)
  SessionLineAnswer old n Bad text new = (text ≡ bad_text n) × (new ≡ old)
  SessionLineAnswer old n (Do command) text new = SessionCommandAnswer old n command text new

  -- One line of a session, given by its bytes and its number: its reply, and the state that it leaves.
  unfoldable pub TellsLine : SessionState → ℕ → List ℕ → List ℕ → SessionState → Type 0
  TellsLine old n line text new = SessionLineAnswer old n (line_of line) text new
