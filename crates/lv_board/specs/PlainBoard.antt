-- A reference model of sessions at a board. There is one history of updates, each made by one seat, and each line is answered after some earlier
-- state of it.
use Rattle.std.specs.Prelude.{◌≡◌, ◌⊎◌, ℕ, ℤ, ◌<◌, ◌≤◌, Option, Some, None, Result, Ok, Err, List, [], ◌∷◌, length, All, if◌then◌else◌}
use Rattle.std.specs.List.{sum_by}
use Rattle.lv_geometry.specs.Bounds.{Bounds}
use Rattle.lv_geometry.specs.declared.refusals.Refusal.{Refusal}
use Rattle.lv_geometry.specs.declared.refusals.Refusal.TheVariants.{Contended, OutOfRange, Overtaken, TooWide}
use Rattle.lv_bodies.specs.declared.kinds.Kind.{Kind}
use Rattle.lv_bodies.specs.declared.kinds.Shown.{Shown}
use Rattle.lv_edits.specs.declared.edit.Edit.{Edit}
use Rattle.lv_edits.specs.declared.edit.Edit.TheVariants as edit
use Rattle.lv_edits.specs.Touch.{is_whole}
use Rattle.lv_edits.specs.Verdict.{element_at, receipt_of, verdict_of}
use Rattle.lv_edits.specs.Ranges.{range_refusal, slice_of}
use Rattle.lv_machine.specs.declared.entries.Entry.{Entry}
use Rattle.lv_machine.specs.declared.events.Call.{Call}
use Rattle.lv_machine.specs.declared.events.Call.TheVariants.{Push, Pop, Write, Get, Size, Reduce, Refresh}
use Rattle.lv_machine.specs.History.{edits_of, elements_of, Ends, own}
use Rattle.lv_machine.specs.Calls.{is_short}
use Rattle.lv_machine.specs.Shows.{block, mark_of}
use Rattle.lv_lines.specs.Texts.{answer_text, bad_text, element_text, fresh_text, receipt_text, refused_text, size_text}
use Rattle.lv_lines.specs.declared.lines.Line.{Line}
use Rattle.lv_lines.specs.declared.lines.Line.TheVariants.{Nothing, Bad, Do}
use Rattle.lv_script.specs.BoardLine.{board_line_of}
use Rattle.lv_board.specs.declared.actors.Actor.{Actor}

-- What the model keeps of a session: the number of its seat, and the history that it knows, with the last update first.
pub record Sat : Type 0 where
  pub number : ℕ
  pub history : List Entry

-- `Sat` of a session, taken from what its seat knows.
abbrev pub sat_of : Actor → Sat
sat_of a = record { number = a.number; history = a.known }

-- ---- the reply to a call after some updates

-- Why an element isn't there, or `None` if it is.
abbrev pub missing : Result ℤ Refusal → Option Refusal
missing (Ok x) = None
missing (Err refusal) = Some refusal

-- Why an update that carries an element is refused: the element has more than 16 bits, or else the reason of the precondition check.
abbrev pub short_refusal : ℤ → Option Refusal → Option Refusal
short_refusal x verdict = if is_short x then verdict else Some TooWide

-- Why a call is refused after a history, or `None`.
abbrev pub refusal_at : Bounds → List Entry → Call → Option Refusal
refusal_at limits h (Push x) = short_refusal x (verdict_of limits (edits_of h) (edit.Push x))
refusal_at limits h Pop = verdict_of limits (edits_of h) edit.Pop
refusal_at limits h (Write i x) = short_refusal x (verdict_of limits (edits_of h) (edit.Write i x))
refusal_at limits h (Get i) = missing (element_at (edits_of h) i)
refusal_at limits h Size = None
refusal_at limits h (Reduce lo hi) = range_refusal (edits_of h) lo hi
refusal_at limits h (Refresh b) = if is_whole (edits_of h) (block b) then None else Some (OutOfRange (length (elements_of h)))

-- The update that a call makes, if it makes one.
abbrev pub edit_of : Call → Option Edit
edit_of (Push x) = Some (edit.Push x)
edit_of Pop = Some edit.Pop
edit_of (Write i x) = Some (edit.Write i x)
edit_of _ = None

-- The reply to a call that is not refused, after a history. Values are the plain ones of the board's kind.
abbrev pub reply_at : Kind → (List ℤ → Shown) → List Entry → Call → List ℕ
reply_at kind plain h (Push x) = receipt_text (receipt_of (edits_of h) (edit.Push x))
reply_at kind plain h Pop = receipt_text (receipt_of (edits_of h) edit.Pop)
reply_at kind plain h (Write i x) = receipt_text (receipt_of (edits_of h) (edit.Write i x))
reply_at kind plain h (Get i) = element_text (element_at (edits_of h) i)
reply_at kind plain h Size = size_text (length (elements_of h)) (length h)
reply_at kind plain h (Reduce lo hi) = answer_text (length h) kind (plain (slice_of (edits_of h) lo hi))
reply_at kind plain h (Refresh b) = fresh_text b (mark_of b h)

-- ---- what a session knows afterwards

-- The call made no update. The session knows a history that extends that of the answer, and its own updates are those that it knew before.
pub record OnlyReads (h : List Entry) (old new : Sat) : Type 0 where
  pub known : Ends h new.history
  pub own_is : own new.number new.history ≡ own old.number old.history

-- The call made one update, right after the history of the answer. This is one more among the session's own.
pub record AddsOne (h : List Entry) (e : Edit) (old new : Sat) : Type 0 where
  pub known : new.history ≡ record { actor = old.number; edit = e } ∷ h
  pub own_is : own new.number new.history ≡ record { actor = old.number; edit = e } ∷ own old.number old.history

abbrev pub Adds : List Entry → Option Edit → Sat → Sat → Type 0
Adds h None old new = OnlyReads h old new
Adds h (Some e) old new = AddsOne h e old new

-- Another update came in between, and the reply has its number. It is later than the history of the answer, and the session knows it.
pub record IsOutrunAt (h : List Entry) (text : List ℕ) (new : Sat) : Type 0 where
  pub number : ℕ
  pub told : (text ≡ refused_text (Overtaken number)) ⊎ (text ≡ refused_text (Contended number))
  pub later : length h < number
  pub known : number ≤ length new.history

-- ---- the reply to a line

module _ (limits : Bounds) (kind : Kind) (plain : List ℤ → Shown) where
  -- The reply to a call after a history that extends what the session knew. The call is answered there, or refused there, or another thread was
  -- faster.
  pub record PlainCall (old : Sat) (asked : Call) (text : List ℕ) (new : Sat) : Type 0 where
    pub at : List Entry
    pub grown : Ends old.history at
    pub number : new.number ≡ old.number
    pub answer : ((refusal_at limits at asked ≡ None) × (text ≡ reply_at kind plain at asked) × Adds at (edit_of asked) old new)
        ⊎ ((refusal : Refusal) × (refusal_at limits at asked ≡ Some refusal) × (text ≡ refused_text refusal) × OnlyReads at old new)
        ⊎ ((refusal_at limits at asked ≡ None) × IsOutrunAt at text new × OnlyReads at old new)

  -- An empty line, a bad line, or a call.
  abbrev pub PlainBoardLine : Sat → ℕ → Line Call → List ℕ → Sat → Type 0
  PlainBoardLine old n Nothing text new = (text ≡ []) × (new ≡ old)
  PlainBoardLine old n Bad text new = (text ≡ bad_text n) × (new ≡ old)
  PlainBoardLine old n (Do asked) text new = PlainCall old asked text new

  -- One line of a session, given by its bytes and its number.
  abbrev pub PlainBoardStep : Sat → ℕ → List ℕ → List ℕ → Sat → Type 0
  PlainBoardStep old n line text new = PlainBoardLine old n (board_line_of kind line) text new

-- ---- the close

-- A history of a board, and what its sessions know when it is closed. Each session knows an earlier state of the history, with all updates of its
-- own, and each update of the history is one of a session's own.
pub record IsOneHistory (history : List Entry) (sessions : List Sat) : Type 0 where
  pub begun : All (λ s. Ends s.history history) sessions
  pub each_own : All (λ s. own s.number history ≡ own s.number s.history) sessions
  pub total : length history ≡ sum_by (λ s. length (own s.number s.history)) sessions
