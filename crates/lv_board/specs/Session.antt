-- How each line of a board's session is answered, in terms of what its seat knows before and after.
use Rattle.std.specs.Prelude.{◌≡◌, ℕ, ℤ, ◌<◌, ◌≤◌, Result, Ok, Err, List, [], length, IfOk}
use Rattle.lv_geometry.specs.declared.refusals.Refusal.{Refusal}
use Rattle.lv_geometry.specs.declared.refusals.Refusal.TheVariants.{BadRange, TooWide}
use Rattle.lv_bodies.specs.declared.kinds.Kind.{Kind}
use Rattle.lv_bodies.specs.declared.kinds.Shown.{Shown}
use Rattle.lv_bodies.specs.Body.{fold_of, Operations}
use Rattle.lv_bodies.specs.Parts.{IsShort}
use Rattle.lv_edits.specs.declared.edit.Edit.{Edit}
use Rattle.lv_edits.specs.declared.edit.Edit.TheVariants as edit
use Rattle.lv_edits.specs.declared.receipt.Receipt.{Receipt}
use Rattle.lv_reduce.specs.declared.reductions.Answer.{Answer}
use Rattle.lv_machine.specs.declared.events.Call.{Call}
use Rattle.lv_machine.specs.declared.events.Call.TheVariants as call
use Rattle.lv_machine.specs.declared.outcomes.Read.{Read}
use Rattle.lv_machine.specs.declared.outcomes.Refreshed.{Refreshed}
use Rattle.lv_machine.specs.declared.outcomes.Said.{Said}
use Rattle.lv_machine.specs.declared.outcomes.Said.TheVariants as said
use Rattle.lv_machine.specs.History.{elements_of}
use Rattle.lv_machine.specs.Terms.{Terms}
use Rattle.lv_lines.specs.Texts.{bad_text}
use Rattle.lv_lines.specs.declared.lines.Line.{Line}
use Rattle.lv_lines.specs.declared.lines.Line.TheVariants.{Nothing, Bad, Do}
use Rattle.lv_script.specs.BoardLine.{board_line_of}
use Rattle.lv_script.specs.Schedule.{said_shown, said_text}
use Rattle.lv_board.specs.declared.actors.Actor.{Actor}
use Rattle.lv_board.specs.Calls.{AreInstalled, GetAnswers, HasLooked, ReduceAnswers, RefreshAnswers, TryAnswers}

-- ---- how a call ends

-- How a call ends, given its result.
abbrev pub said_by : {A V : Type 0} → (A → Said V) → Result A Refusal → Said V
said_by says (Ok answer) = says answer
said_by says (Err refusal) = said.Refused refusal

-- The block that a call refreshes, and 0 for other calls.
abbrev pub asked_block : Call → ℕ
asked_block (call.Refresh block) = block
asked_block _ = 0

-- How a call ends, given what its actor knows before and after. `EditAnswers` says which result an update may have, and f is applied to lists of
-- elements.
module _ {V : Type 0} (t : Terms) (EditAnswers : Actor → Actor → Edit → Result Receipt Refusal → Type 0) (f : List ℤ → V) where
  -- An update that carries an element is tried. If the element has more than 16 bits, it is refused, and the actor is unchanged.
  pub record Edits (x : ℤ) (edit : Edit) (a : Actor) (end : Said V) (b : Actor) : Type 0 where
    pub result : Result Receipt Refusal
    pub short : IsShort x → EditAnswers a b edit result
    pub wide : ¬ IsShort x → (result ≡ Err TooWide) × (b ≡ a)
    pub end_is : end ≡ said_by said.Did result

  -- A pop is tried.
  pub record Drops (a : Actor) (end : Said V) (b : Actor) : Type 0 where
    pub result : Result Receipt Refusal
    pub tried : EditAnswers a b edit.Pop result
    pub end_is : end ≡ said_by said.Did result

  -- An element is read in what the actor sees.
  pub record Gets (i : ℕ) (a : Actor) (end : Said V) (b : Actor) : Type 0 where
    pub result : Result Read Refusal
    pub looked : HasLooked t a b
    pub answered : GetAnswers i b result
    pub end_is : end ≡ said_by said.Read result

  -- The size is that of what the actor sees.
  pub record Sizes (a : Actor) (end : Said V) (b : Actor) : Type 0 where
    pub looked : HasLooked t a b
    pub end_is : end ≡ said.Sized record { edit = length b.seen; size = length (elements_of b.seen) }

  -- A range is reduced in what the actor sees. A range that runs backwards is refused, and the actor is unchanged.
  pub record Reduces (lo hi : ℕ) (a : Actor) (end : Said V) (b : Actor) : Type 0 where
    pub result : Result (Answer V) Refusal
    pub looked : lo ≤ hi → HasLooked t a b
    pub answered : lo ≤ hi → ReduceAnswers f lo hi b result
    pub backwards : hi < lo → (result ≡ Err BadRange) × (b ≡ a)
    pub end_is : end ≡ said_by said.Answered result

  -- A block is refreshed as the actor sees it.
  pub record Refreshes (block : ℕ) (a : Actor) (end : Said V) (b : Actor) : Type 0 where
    pub result : Result Refreshed Refusal
    pub looked : HasLooked t a b
    pub answered : RefreshAnswers block b result
    pub installed : IfOk result (λ refreshed. AreInstalled t block b)
    pub end_is : end ≡ said_by said.Refreshed result

  -- Each kind of call.
  abbrev pub CallEnds : Call → Actor → Said V → Actor → Type 0
  CallEnds (call.Push x) a end b = Edits x (edit.Push x) a end b
  CallEnds call.Pop a end b = Drops a end b
  CallEnds (call.Write i x) a end b = Edits x (edit.Write i x) a end b
  CallEnds (call.Get i) a end b = Gets i a end b
  CallEnds call.Size a end b = Sizes a end b
  CallEnds (call.Reduce lo hi) a end b = Reduces lo hi a end b
  CallEnds (call.Refresh block) a end b = Refreshes block a end b

-- ---- the reply to a line

module _ {S : Type 0} (t : Terms) (o : Operations S) (kind : Kind) (shown : S → Shown) where
  -- A call is made once, and answered by the text of how it ends.
  pub record CallAnswer (asked : Call) (a : Actor) (text : List ℕ) (b : Actor) : Type 0 where
    pub end : Said S
    pub ends : CallEnds t (TryAnswers t) (fold_of o) asked a end b
    pub text_is : text ≡ said_text kind (asked_block asked) (said_shown shown end)

  -- An empty line has no reply, and a bad line is answered by its number. Neither changes anything.
  abbrev pub BoardAnswer : Actor → ℕ → Line Call → List ℕ → Actor → Type 0
  BoardAnswer a n Nothing text b = (text ≡ []) × (b ≡ a)
  BoardAnswer a n Bad text b = (text ≡ bad_text n) × (b ≡ a)
  BoardAnswer a n (Do asked) text b = CallAnswer asked a text b

  -- One line of a session, given by its bytes and its number: its reply, and what the actor knows before and after.
  unfoldable pub BoardStep : Actor → ℕ → List ℕ → List ℕ → Actor → Type 0
  BoardStep a n line text b = BoardAnswer a n (board_line_of kind line) text b
