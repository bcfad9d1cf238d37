-- The atomic steps of the lock-free form, and the states that they reach.
use Rattle.std.specs.Prelude.{◌≡◌, ℕ, ◌*◌, ◌/◌, ◌<◌, ◌≤◌, ◌&&◌, max, Option, Some, None, List, [], ◌∷◌, nat_eq, nat_lt, replicate, slice_index, slice_set, if◌then◌else◌}
use Rattle.lv_geometry.specs.Bounds.{Bounds}
use Rattle.lv_geometry.specs.Cells.{capacity_of}
use Rattle.lv_geometry.specs.declared.refusals.Refusal.{Refusal}
use Rattle.lv_geometry.specs.declared.refusals.Refusal.TheVariants.{Empty, Full, OutOfRange, TooLarge, Worn}
use Rattle.lv_edits.specs.declared.edit.Edit.{Edit}
use Rattle.lv_edits.specs.declared.edit.Edit.TheVariants.{Push, Pop, Write, Reserve, Swap, Truncate}
use Rattle.lv_machine.specs.declared.entries.Entry.{Entry}
use Rattle.lv_machine.specs.declared.moves.Move.{Move}
use Rattle.lv_machine.specs.declared.moves.Move.TheVariants.{Look, Exchange, HelpCell, HelpMark, Install, Read}
use Rattle.lv_machine.specs.History.{descriptor_of, IsLegalHistory, IsShortEdit}
use Rattle.lv_machine.specs.Layout.{cell_place, mark_place, part_place}
use Rattle.lv_machine.specs.Shows.{FitsPart, ShowsHistory}
use Rattle.lv_machine.specs.Terms.{AreTerms, blocks_of, Terms}
use Rattle.lv_machine.specs.Words.{cell_version, cell_word, descriptor_after, edit_between, edit_of, HasPending, index_of, size_of, value_of}

-- A state: the words, the history that led to them, and the descriptor that each actor last saw.
pub record Config : Type 0 where
  pub words : List ℕ
  pub history : List Entry
  pub looks : ℕ → ℕ

-- The actor that makes a move.
abbrev pub mover : Move → ℕ
mover (Look a) = a
mover (Exchange a edit) = a
mover (HelpCell a) = a
mover (HelpMark a) = a
mover (Install a b p word) = a
mover (Read a) = a

-- The moves of a list that one actor made.
unfoldable pub made_by : ℕ → List Move → List Move
made_by a [] = []
made_by a (m ∷ ms) = if nat_eq (mover m) a then m ∷ made_by a ms else made_by a ms

-- An actor's look is replaced by a descriptor.
abbrev pub look_set : ℕ → ℕ → (ℕ → ℕ) → ℕ → ℕ
look_set a word looks b = if nat_eq b a then word else looks b

-- The word at a place becomes the greater of itself and n.
abbrev pub raised : Config → ℕ → ℕ → Config
raised c at n = record c { words = slice_set c.words at (max (slice_index c.words at) n) }

-- An actor's look becomes the present descriptor.
abbrev pub looked : Config → ℕ → Config
looked c a = record c { looks = look_set a (slice_index c.words 0) c.looks }

-- An update is accepted: the descriptor and the actor's look both become the next descriptor.
abbrev pub accepted : Config → ℕ → Edit → Config
accepted c a edit = record {
  words = slice_set c.words 0 (descriptor_after (c.looks a) edit);
  history = record { actor = a; edit = edit } ∷ c.history;
  looks = look_set a (descriptor_after (c.looks a) edit) c.looks;
}

-- The word that completes a pending write.
abbrev pub completing : ℕ → ℕ
completing look = cell_word (edit_of look) (value_of look)

-- The state after a move.
abbrev pub moved : Config → Move → Config
moved c (Look a) = looked c a
moved c (Exchange a edit) = if nat_eq (slice_index c.words 0) (c.looks a) then accepted c a edit else looked c a
moved c (HelpCell a) = raised c (cell_place (index_of (c.looks a))) (completing (c.looks a))
moved c (HelpMark a) = raised c (mark_place (index_of (c.looks a) / 8)) (edit_of (c.looks a))
moved c (Install a b p word) = raised c (part_place b p) word
moved c (Read a) = c

-- Why an update is refused at a size, with room for this many elements, while updates are left.
abbrev pub refused_at : (room size : ℕ) → Edit → Option Refusal
refused_at room size (Push x) = if nat_eq size room then Some Full else None
refused_at room size Pop = if nat_eq size 0 then Some Empty else None
refused_at room size (Write i x) = if nat_lt i size then None else Some (OutOfRange size)
refused_at room size (Reserve n) = if nat_lt room n then Some (TooLarge room) else None
refused_at room size (Swap i j) = if nat_lt i size && nat_lt j size then None else Some (OutOfRange size)
refused_at room size (Truncate n) = if nat_lt size n then Some (OutOfRange size) else None

-- The first refusal that applies to an update at a descriptor, or none.
abbrev pub verdict_at : Bounds → ℕ → Edit → Option Refusal
verdict_at limits look edit =
    if nat_eq (edit_of look) limits.edits then Some Worn else refused_at (capacity_of limits.buckets) (size_of look) edit

-- The cell and the mark of a look's pending write have its number, or a greater one.
pub record IsComplete (words : List ℕ) (look : ℕ) : Type 0 where
  pub cell : HasPending look → edit_of look ≤ cell_version (slice_index words (cell_place (index_of look)))
  pub mark : HasPending look → edit_of look ≤ slice_index words (mark_place (index_of look / 8))

-- A compare-and-swap may be made for an update of 16 bits that nothing refuses at the look, if the look's pending write is complete.
pub record MayExchange (t : Terms) (c : Config) (a : ℕ) (edit : Edit) : Type 0 where
  pub actor : a < t.seats
  pub short : IsShortEdit edit
  pub verdict : verdict_at t.limits (c.looks a) edit ≡ None
  pub complete : IsComplete c.words (c.looks a)

-- A word may be installed as a part if it is one that the part's word may show.
pub record MayInstall (t : Terms) (c : Config) (b p word : ℕ) : Type 0 where
  pub block : b < blocks_of t.limits
  pub part : p < t.folding.parts
  pub fits : FitsPart t.folding c.history b p word

-- The moves that may be made in a state.
abbrev pub MayMove : Terms → Config → Move → Type 0
MayMove t c (Look a) = a < t.seats
MayMove t c (Exchange a edit) = MayExchange t c a edit
MayMove t c (HelpCell a) = HasPending (c.looks a)
MayMove t c (HelpMark a) = HasPending (c.looks a)
MayMove t c (Install a b p word) = MayInstall t c b p word
MayMove t c (Read a) = Unit {0}

-- The start: no updates, and the only descriptor that was looked at is that of the start.
abbrev pub start : Terms → Config
start t = record {
  words = descriptor_of [] ∷ replicate (16 * blocks_of t.limits) 0;
  history = [];
  looks = λ a. descriptor_of [];
}

-- The state after some moves, given with the newest first.
unfoldable pub reached : Terms → List Move → Config
reached t [] = start t
reached t (m ∷ ms) = moved (reached t ms) m

-- Each move may be made in the state before it.
abbrev pub AreAllowed : Terms → List Move → Type 0
AreAllowed t [] = Unit {0}
AreAllowed t (m ∷ ms) = AreAllowed t ms × MayMove t (reached t ms) m

-- A state that allowed moves reach from the start.
pub record IsReachable (t : Terms) (c : Config) : Type 0 where
  pub moves : List Move
  pub allowed : AreAllowed t moves
  pub reached_is : reached t moves ≡ c

-- A state's words show its history.
abbrev pub Shows : Terms → Config → Type 0
Shows t c = ShowsHistory t c.words c.history c.looks

-- The words of every reachable state show its history.
abbrev pub ReachableShows : Type 0
ReachableShows = (t : Terms) (c : Config) → AreTerms t → IsReachable t c → Shows t c

-- Two successive descriptors determine the update between them.
abbrev pub DescriptorsTellEdits : Type 0
DescriptorsTellEdits = (t : Terms) (h : List Entry) (e : Entry) → AreTerms t → IsLegalHistory t (e ∷ h) → edit_between (descriptor_of h) (descriptor_of (e ∷ h)) ≡ e.edit
