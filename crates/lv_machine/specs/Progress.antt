-- What a call under way knows of the history that its look shows, and what a call that has ended returned.
use Rattle.std.specs.Prelude.{◌≡◌, ◌⊎◌, ℕ, pos, ◌+◌, ◌-◌, ◌*◌, ◌/◌, ◌%◌, ◌<◌, ◌≤◌, true, Option, Some, None, List, ◌∷◌, length, slice_get, slice_index, slice_range, IfSome}
use Rattle.std.specs.List.{slice_index_or}
use Rattle.lv_geometry.specs.Bounds.{Bounds}
use Rattle.lv_geometry.specs.declared.refusals.Refusal.{Refusal}
use Rattle.lv_geometry.specs.declared.refusals.Refusal.TheVariants.{Contended, Overtaken}
use Rattle.lv_bodies.specs.Body.{Operations, fold_of}
use Rattle.lv_edits.specs.declared.edit.Edit.{Edit}
use Rattle.lv_edits.specs.declared.receipt.Receipt.{Receipt}
use Rattle.lv_edits.specs.Touch.{elements_under, is_whole}
use Rattle.lv_edits.specs.Verdict.{receipt_of, verdict_of}
use Rattle.lv_reduce.specs.Answer.{IsAnswer}
use Rattle.lv_machine.specs.declared.entries.Entry.{Entry}
use Rattle.lv_machine.specs.declared.actors.Actor.{Actor}
use Rattle.lv_reduce.specs.declared.reductions.Answer.{Answer}
use Rattle.lv_machine.specs.declared.outcomes.Read.{Read}
use Rattle.lv_machine.specs.declared.outcomes.Refreshed.{Refreshed}
use Rattle.lv_machine.specs.declared.outcomes.Sized.{Sized}
use Rattle.lv_machine.specs.declared.outcomes.Said.{Said}
use Rattle.lv_machine.specs.declared.outcomes.Said.TheVariants as said
use Rattle.lv_machine.specs.declared.tasks.Advance.{Advance}
use Rattle.lv_machine.specs.declared.tasks.Advance.TheVariants as advance
use Rattle.lv_machine.specs.declared.tasks.Goal.{Goal}
use Rattle.lv_machine.specs.declared.tasks.Goal.TheVariants as goal
use Rattle.lv_machine.specs.declared.tasks.Keep.{Keep}
use Rattle.lv_machine.specs.declared.tasks.Parts.{Parts}
use Rattle.lv_machine.specs.declared.tasks.Task.{Task}
use Rattle.lv_machine.specs.declared.tasks.Task.TheVariants as task
use Rattle.lv_machine.specs.declared.tasks.Walk.{Walk}
use Rattle.lv_machine.specs.History.{descriptor_of, edits_of, elements_of, Ends, IsShortEdit}
use Rattle.lv_machine.specs.Layout.{cell_place}
use Rattle.lv_machine.specs.Calls.{edit_begun, receipt_at, refusal_at, size_refusal}
use Rattle.lv_machine.specs.Moves.{Config, IsComplete, IsReachable}
use Rattle.lv_machine.specs.Shows.{block, mark_of}
use Rattle.lv_machine.specs.Terms.{AreTerms, Folding, Terms}
use Rattle.lv_machine.specs.Words.{cell_version, edit_of, HasPending, index_of}

-- A goal that a call may have: updates are of 16 bits, and ranges are in order.
abbrev pub IsGoal : Goal → Type 0
IsGoal (goal.Edit edit) = IsShortEdit edit
IsGoal (goal.Reduce lo hi) = lo ≤ hi
IsGoal _ = Unit {0}

-- A goal that is not refused at a look.
pub record IsGranted (limits : Bounds) (look : ℕ) (g : Goal) : Type 0 where
  pub may : IsGoal g
  pub granted : refusal_at limits look g ≡ None

-- How the folds of a monoid instance are stored in parts.
abbrev pub folding_of : {S : Type 0} → Operations S → ℕ → (S → List ℕ) → Folding
folding_of o count parts_of = record { parts = count; part = λ p xs. slice_index (parts_of (fold_of o xs)) p }

module _ {S : Type 0} (o : Operations S) (count : ℕ) (parts_of : S → List ℕ) (limits : Bounds) (words : List ℕ) (k : List Entry) where
  -- The fold of a block.
  abbrev pub block_fold : ℕ → S
  block_fold b = fold_of o (elements_under (edits_of k) (block b))

  -- A reduction that was granted has the fold of the elements before its position, and has counted each of them once.
  pub record Walks (walk : Walk S) : Type 0 where
    pub granted : IsGranted limits (descriptor_of k) (goal.Reduce walk.lo walk.hi)
    pub complete : IsComplete words (descriptor_of k)
    pub low : walk.lo ≤ walk.at
    pub high : walk.at ≤ walk.hi
    pub sum : walk.sum ≡ fold_of o (slice_range (elements_of k) walk.lo walk.at)
    pub counts : walk.cells + 8 * walk.summaries + walk.lo ≡ walk.at

  -- It is at the beginning of a whole block.
  pub record WalksBlock (walk : Walk S) : Type 0 where
    pub walks : Walks walk
    pub begins : walk.at % 8 ≡ 0
    pub ends : walk.at + 8 ≤ walk.hi

  -- The parts before the next one are those of a block, and the others are 0.
  pub record AreTaken (b : ℕ) (parts : Parts) : Type 0 where
    pub version : parts.version ≡ mark_of b k
    pub some : parts.number < count
    pub four : length parts.values ≡ 4
    pub taken : (p : ℕ) → p < parts.number → slice_index parts.values p ≡ slice_index (parts_of (block_fold b)) p
    pub others : (p : ℕ) → parts.number ≤ p → slice_index parts.values p ≡ 0

  -- A refresh that was granted.
  pub record Keeps (b : ℕ) : Type 0 where
    pub granted : IsGranted limits (descriptor_of k) (goal.Refresh b)
    pub complete : IsComplete words (descriptor_of k)

  -- A refresh has the fold of the block's elements before its position, and the block's mark.
  pub record KeepsCells (keep : Keep S) : Type 0 where
    pub keeps : Keeps keep.block
    pub version : keep.version ≡ mark_of keep.block k
    pub low : 8 * keep.block ≤ keep.at
    pub high : keep.at < 8 * keep.block + 8
    pub sum : keep.sum ≡ fold_of o (slice_range (elements_of k) (8 * keep.block) keep.at)

  -- A refresh has the parts of its block.
  pub record KeepsParts (b : ℕ) (parts : Parts) : Type 0 where
    pub keeps : Keeps b
    pub version : parts.version ≡ mark_of b k
    pub some : parts.number < count
    pub values : parts.values ≡ parts_of (block_fold b)

  -- An update that was granted, whose look's pending write is complete.
  pub record MayEdit (edit : Edit) : Type 0 where
    pub granted : IsGranted limits (descriptor_of k) (goal.Edit edit)
    pub complete : IsComplete words (descriptor_of k)

  -- What a call knows at its next step.
  abbrev pub Knows : Task S → Type 0
  Knows (task.Look g) = IsGoal g
  Knows (task.CompleteCell g) = IsGranted limits (descriptor_of k) g × HasPending (descriptor_of k)
  Knows (task.CompleteMark g) =
      IsGranted limits (descriptor_of k) g × HasPending (descriptor_of k)
      × (edit_of (descriptor_of k) ≤ cell_version (slice_index words (cell_place (index_of (descriptor_of k)))))
  Knows (task.ReadBefore edit i) = MayEdit edit × (edit_begun {S = S} (descriptor_of k) edit ≡ task.ReadBefore edit i)
  Knows (task.Exchange edit before) = MayEdit edit × (receipt_at (descriptor_of k) edit before ≡ receipt_of (edits_of k) edit)
  Knows (task.ReadCell i) = IsGranted limits (descriptor_of k) (goal.Get i) × IsComplete words (descriptor_of k)
  Knows (task.SumCell walk) = Walks walk × (walk.at < walk.hi)
  Knows (task.SumMark walk) = WalksBlock walk
  Knows (task.SumPart walk parts) = WalksBlock walk × AreTaken (walk.at / 8) parts
  Knows (task.KeepMark b) = Keeps b
  Knows (task.KeepCell keep) = KeepsCells keep
  Knows (task.KeepPart b parts) = KeepsParts b parts

-- Why a call is refused after some updates, if it is.
abbrev pub refusal_after : Bounds → List Edit → ℕ → Goal → Option Refusal
refusal_after limits edits size (goal.Edit edit) = verdict_of limits edits edit
refusal_after limits edits size g = size_refusal size g

-- An update was accepted. It is the last entry of the history, which the look shows now, and the call returned its receipt.
pub record WasAccepted (limits : Bounds) (a : ℕ) (h k : List Entry) (g : Goal) (receipt : Receipt) : Type 0 where
  pub edit : Edit
  pub before : List Entry
  pub asked : g ≡ goal.Edit edit
  pub whole : h ≡ k
  pub last : k ≡ record { actor = a; edit = edit } ∷ before
  pub verdict : verdict_of limits (edits_of before) edit ≡ None
  pub receipt_is : receipt ≡ receipt_of (edits_of before) edit

-- A get returned the element at its index, after the updates that its look shows.
pub record WasRead (k : List Entry) (g : Goal) (read : Read) : Type 0 where
  pub index : ℕ
  pub asked : g ≡ goal.Get index
  pub edit : read.edit ≡ length k
  pub within : index < length (elements_of k)
  pub value : read.value ≡ slice_index_or (elements_of k) index (pos 0)

-- A call returned the size after the updates that its look shows.
pub record WasSized (k : List Entry) (g : Goal) (sized : Sized) : Type 0 where
  pub asked : g ≡ goal.Size
  pub edit : sized.edit ≡ length k
  pub size : sized.size ≡ length (elements_of k)

-- A reduction returned the fold of its range, after the updates that its look shows. Each element was read once.
pub record WasAnswered {S : Type 0} (o : Operations S) (k : List Entry) (g : Goal) (answer : Answer S) : Type 0 where
  pub lo : ℕ
  pub hi : ℕ
  pub asked : g ≡ goal.Reduce lo hi
  pub fold : IsAnswer o (edits_of k) lo hi answer
  pub reads : answer.cells_read + 8 * answer.summaries_read ≡ hi - lo

-- A refresh returned the number of the last update that touched its block, which is full, after the updates that its look shows.
pub record WasRefreshed (k : List Entry) (g : Goal) (refreshed : Refreshed) : Type 0 where
  pub block_number : ℕ
  pub asked : g ≡ goal.Refresh block_number
  pub whole : is_whole (edits_of k) (block block_number) ≡ true
  pub edit : refreshed.edit ≡ length k
  pub version : refreshed.version ≡ mark_of block_number k

-- A call was refused. Either the updates that its look shows refuse it. Or a compare-and-swap found this many updates, which its look shows now
-- and which are more than before. Or a word of a later update was loaded.
abbrev pub WasRefused : Bounds → List Entry → List Entry → List Entry → Goal → Refusal → Type 0
WasRefused limits h old k g refusal =
    (refusal_after limits (edits_of k) (length (elements_of k)) g ≡ Some refusal)
    ⊎ ((refusal ≡ Contended (length k)) × (length old < length k))
    ⊎ ((v : ℕ) × (refusal ≡ Overtaken v) × (length k < v) × (v ≤ length h))

module _ {S : Type 0} (o : Operations S) (count : ℕ) (parts_of : S → List ℕ) (limits : Bounds) where
  -- How a call of actor a has ended. Its look showed `old` before the last step and shows `k` now, and `h` is the whole history.
  abbrev pub WasSaid : ℕ → (h old k : List Entry) → Goal → Said S → Type 0
  WasSaid a h old k g (said.Did receipt) = WasAccepted limits a h k g receipt
  WasSaid a h old k g (said.Read read) = WasRead k g read
  WasSaid a h old k g (said.Sized sized) = WasSized k g sized
  WasSaid a h old k g (said.Answered answer) = WasAnswered o k g answer
  WasSaid a h old k g (said.Refreshed refreshed) = WasRefreshed k g refreshed
  WasSaid a h old k g (said.Refused refusal) = WasRefused limits h old k g refusal

  -- The goal of a call under way.
  abbrev pub goal_under : Task S → Goal
  goal_under (task.Look g) = g
  goal_under (task.CompleteCell g) = g
  goal_under (task.CompleteMark g) = g
  goal_under (task.ReadBefore edit i) = goal.Edit edit
  goal_under (task.Exchange edit before) = goal.Edit edit
  goal_under (task.ReadCell i) = goal.Get i
  goal_under (task.SumCell walk) = goal.Reduce walk.lo walk.hi
  goal_under (task.SumMark walk) = goal.Reduce walk.lo walk.hi
  goal_under (task.SumPart walk parts) = goal.Reduce walk.lo walk.hi
  goal_under (task.KeepMark b) = goal.Refresh b
  goal_under (task.KeepCell keep) = goal.Refresh keep.block
  goal_under (task.KeepPart b parts) = goal.Refresh b

  -- The result of a step is right for the goal, given the words and the history after the step.
  abbrev pub IsRight : ℕ → (words : List ℕ) → (h old k : List Entry) → Goal → Advance S → Type 0
  IsRight a words h old k g (advance.Goes t) = Knows o count parts_of limits words k t × (goal_under t ≡ g)
  IsRight a words h old k g (advance.Ends answer) = WasSaid a h old k g answer

  -- An actor in a state: its look shows an earlier history, and its call knows of that what it should.
  pub record Follows (c : Config) (a : ℕ) (actor : Actor S) : Type 0 where
    pub seen : List Entry
    pub ends : Ends seen c.history
    pub look : c.looks a ≡ actor.look
    pub shown : c.looks a ≡ descriptor_of seen
    pub knows : IfSome actor.task (Knows o count parts_of limits c.words seen)

  -- The terms of a machine with this number of actors.
  abbrev pub terms_of : ℕ → Terms
  terms_of seats = record { limits = limits; seats = seats; folding = folding_of o count parts_of }

  -- Words and actors are those of a state: moves reach it from the start, and each actor follows it.
  pub record StandsAt (seats : ℕ) (config : Config) (words : List ℕ) (actors : List (Actor S)) : Type 0 where
    pub all_seats : length actors ≡ seats
    pub terms : AreTerms (terms_of seats)
    pub reachable : IsReachable (terms_of seats) config
    pub words_are : config.words ≡ words
    pub follow : (a : ℕ) (actor : Actor S) → slice_get actors a ≡ Some actor → Follows config a actor

  -- Words and actors are those of some state.
  pub record IsReached (words : List ℕ) (actors : List (Actor S)) : Type 0 where
    pub config : Config
    pub seats : ℕ
    pub stands : StandsAt seats config words actors
