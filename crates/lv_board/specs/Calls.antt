-- The results of a board's calls.
use Rattle.std.specs.Prelude.{◌≡◌, ◌⊎◌, ℕ, ℤ, ◌+◌, ◌-◌, ◌*◌, ◌<◌, ◌≤◌, true, false, Some, None, Result, Ok, Err, List, ◌∷◌, length, slice_index, All}
use Rattle.lv_geometry.specs.declared.refusals.Refusal.{Refusal}
use Rattle.lv_geometry.specs.declared.refusals.Refusal.TheVariants.{Contended, OutOfRange}
use Rattle.lv_edits.specs.declared.edit.Edit.{Edit}
use Rattle.lv_edits.specs.declared.edit.Edit.TheVariants.{Pop, Write}
use Rattle.lv_edits.specs.declared.receipt.Receipt.{Receipt}
use Rattle.lv_edits.specs.Touch.{elements_under, is_whole}
use Rattle.lv_edits.specs.Verdict.{element_at, receipt_of, verdict_of}
use Rattle.lv_edits.specs.Ranges.{range_refusal, slice_of}
use Rattle.lv_machine.specs.declared.entries.Entry.{Entry}
use Rattle.lv_machine.specs.declared.outcomes.Read.{Read}
use Rattle.lv_machine.specs.declared.outcomes.Refreshed.{Refreshed}
use Rattle.lv_machine.specs.Layout.{part_place}
use Rattle.lv_machine.specs.Shows.{block, mark_of}
use Rattle.lv_machine.specs.Words.{part_word}
use Rattle.lv_reduce.specs.declared.reductions.Answer.{Answer}
use Rattle.lv_machine.specs.History.{edits_of, elements_of, Ends, IsLegalHistory, own}
use Rattle.lv_machine.specs.Terms.{Terms}
use Rattle.lv_board.specs.declared.actors.Actor.{Actor}
use Rattle.lv_board.specs.Tells.{IsQuiet, IsOvertaken}
use Rattle.lv_board.specs.Rule.{IsThere}

-- An actor has looked and made no update. What it knew before is an earlier state of the history that it sees, which is legal. That in turn is an
-- earlier state of what it knows now. So what it sees at one call is an earlier state of what it sees at the next, and of the history at the
-- close.
pub record HasLooked (t : Terms) (x y : Actor) : Type 0 where
  pub quiet : IsQuiet x y
  pub fresh : Ends x.known y.seen
  pub kept : Ends y.seen y.known
  pub legal : IsLegalHistory t y.seen

-- An update was accepted, right after the history `h`. It is the last entry that the actor sees, and the last of its own.
pub record HasAdded (t : Terms) (x y : Actor) (edit : Edit) (h : List Entry) (receipt : Receipt) : Type 0 where
  pub number : y.number ≡ x.number
  pub seen : y.seen ≡ record { actor = x.number; edit = edit } ∷ h
  pub known : y.known ≡ y.seen
  pub knew : Ends x.known h
  pub own_is : own x.number y.known ≡ record { actor = x.number; edit = edit } ∷ own x.number x.known
  pub legal : IsLegalHistory t y.seen
  pub verdict : verdict_of t.limits (edits_of h) edit ≡ None
  pub receipt_is : receipt ≡ receipt_of (edits_of h) edit

-- The compare-and-swap failed, for an update that nothing refused at the look that was used: another update came in between. The reply has the
-- number of the last update that is seen now, which is above that of the look. What is seen then is all that is known.
pub record IsContendedAt (t : Terms) (y : Actor) (edit : Edit) (looked : List Entry) (refusal : Refusal) : Type 0 where
  pub refusal_is : refusal ≡ Contended (length y.seen)
  pub all : y.known ≡ y.seen
  pub before : length looked < length y.seen
  pub verdict : verdict_of t.limits (edits_of looked) edit ≡ None

-- The updates whose tries load a cell. A pop and a write return the element that was there. A push loads none.
abbrev pub LoadsCell : Edit → Type 0
LoadsCell Pop = Unit {0}
LoadsCell (Write i x) = Unit {0}
LoadsCell _ = ⊥

-- Why a try is refused. Either the precondition check refuses it in what is seen now. Or it loads a cell, and a later update wrote there. Or its
-- compare-and-swap failed because another update came in between. What was known before is an earlier state of the look, and the look one of what
-- is seen now.
abbrev pub IsTryRefusal : Terms → Actor → Actor → Edit → Refusal → Type 0
IsTryRefusal t x y edit refusal =
    (verdict_of t.limits (edits_of y.seen) edit ≡ Some refusal)
    ⊎ (LoadsCell edit × (verdict_of t.limits (edits_of y.seen) edit ≡ None) × IsOvertaken y refusal)
    ⊎ ((looked : List Entry) × Ends x.known looked × Ends looked y.seen × IsContendedAt t y edit looked refusal)

-- The result of a try whose look shows all that was known before. It looks first, or a compare-and-swap has just found another descriptor.
abbrev pub TryAnswers : Terms → Actor → Actor → Edit → Result Receipt Refusal → Type 0
TryAnswers t x y edit (Ok receipt) = (h : List Entry) × HasAdded t x y edit h receipt
TryAnswers t x y edit (Err refusal) = HasLooked t x y × IsTryRefusal t x y edit refusal

-- The result of a compare-and-swap from the look that a seat has. If the update is refused at that look, nothing changes. A push loads no cell.
abbrev pub LookedAnswers : Terms → Actor → Actor → Edit → Result Receipt Refusal → Type 0
LookedAnswers t x y edit (Ok receipt) = HasAdded t x y edit x.seen receipt
LookedAnswers t x y edit (Err refusal) =
    ((verdict_of t.limits (edits_of x.seen) edit ≡ Some refusal) × (y ≡ x))
    ⊎ (LoadsCell edit × (verdict_of t.limits (edits_of x.seen) edit ≡ None) × IsQuiet x y × (y.seen ≡ x.seen) × IsOvertaken y refusal)
    ⊎ (HasLooked t x y × IsContendedAt t y edit x.seen refusal)

-- The result of reading an element.
abbrev pub GetAnswers : ℕ → Actor → Result Read Refusal → Type 0
GetAnswers i y (Ok read) = (read.edit ≡ length y.seen) × (element_at (edits_of y.seen) i ≡ Ok read.value)
GetAnswers i y (Err refusal) =
    (element_at (edits_of y.seen) i ≡ Err refusal)
    ⊎ ((i < length (elements_of y.seen)) × IsOvertaken y refusal)

-- The value of f on a range after some updates. Each element was read once, either by itself or within the aggregate of a block.
pub record IsRangeAnswer {V : Type 0} (f : List ℤ → V) (edits : List Edit) (lo hi : ℕ) (answer : Answer V) : Type 0 where
  pub granted : range_refusal edits lo hi ≡ None
  pub edit : answer.edit ≡ length edits
  pub value : answer.value ≡ f (slice_of edits lo hi)
  pub reads : answer.cells_read + 8 * answer.summaries_read ≡ hi - lo

-- The result of a reduction, where f of a list is its fold or its plain value.
abbrev pub ReduceAnswers : {V : Type 0} → (List ℤ → V) → ℕ → ℕ → Actor → Result (Answer V) Refusal → Type 0
ReduceAnswers f lo hi y (Ok answer) = IsRangeAnswer f (edits_of y.seen) lo hi answer
ReduceAnswers f lo hi y (Err refusal) =
    (range_refusal (edits_of y.seen) lo hi ≡ Some refusal)
    ⊎ ((range_refusal (edits_of y.seen) lo hi ≡ None) × IsOvertaken y refusal)

-- The result of refreshing a block: the number of the last update that touched the block, provided that it is full.
abbrev pub RefreshAnswers : ℕ → Actor → Result Refreshed Refusal → Type 0
RefreshAnswers b y (Ok refreshed) =
    (is_whole (edits_of y.seen) (block b) ≡ true) × (refreshed.edit ≡ length y.seen) × (refreshed.version ≡ mark_of b y.seen)
RefreshAnswers b y (Err refusal) =
    ((is_whole (edits_of y.seen) (block b) ≡ false) × (refusal ≡ OutOfRange (length (elements_of y.seen))))
    ⊎ ((is_whole (edits_of y.seen) (block b) ≡ true) × IsOvertaken y refusal)

-- The parts of a block, as the actor sees it, are stored. In any words that have what the actor installed, the word at each part's place is that
-- part, or a greater one that displaced it.
abbrev pub AreInstalled : Terms → ℕ → Actor → Type 0
AreInstalled t b y =
    (words : List ℕ) (p : ℕ)
    → All (IsThere words) y.installed
    → p < t.folding.parts
    → part_word (mark_of b y.seen) (t.folding.part p (elements_under (edits_of y.seen) (block b))) ≤ slice_index words (part_place b p)
