-- A call of the lock-free form in terms of its steps: the word of each step, how the call proceeds, and how it ends.
use Rattle.std.specs.Prelude.{ℕ, ℤ, pos, negsuc, int_le, ◌+◌, ◌-◌, ◌*◌, ◌/◌, ◌%◌, Bool, false, ◌&&◌, Option, Some, None, Result, Ok, Err, List, [], nat_eq, nat_le, nat_lt, slice_index, slice_set, replicate, if◌then◌else◌}
use Rattle.lv_geometry.specs.Bounds.{Bounds}
use Rattle.lv_geometry.specs.declared.refusals.Refusal.{Refusal}
use Rattle.lv_geometry.specs.declared.refusals.Refusal.TheVariants.{BadRange, Contended, OutOfRange, Overtaken, TooWide}
use Rattle.lv_bodies.specs.Body.{Operations}
use Rattle.lv_edits.specs.declared.edit.Edit.{Edit}
use Rattle.lv_edits.specs.declared.edit.Edit.TheVariants.{Push, Pop, Write, Reserve, Swap, Truncate}
use Rattle.lv_edits.specs.declared.receipt.Receipt.{Receipt}
use Rattle.lv_edits.specs.declared.receipt.Receipt.TheVariants.{Pushed, Popped, Written, Reserved, Swapped, Truncated}
use Rattle.lv_machine.specs.declared.events.Call.{Call}
use Rattle.lv_machine.specs.declared.events.Call.TheVariants as call
use Rattle.lv_machine.specs.declared.outcomes.Outcome.{Outcome}
use Rattle.lv_machine.specs.declared.outcomes.Outcome.TheVariants as outcome
use Rattle.lv_machine.specs.declared.outcomes.Said.TheVariants as said
use Rattle.lv_machine.specs.declared.tasks.Advance.{Advance}
use Rattle.lv_machine.specs.declared.tasks.Advance.TheVariants.{Ends, Goes}
use Rattle.lv_machine.specs.declared.tasks.Goal.{Goal}
use Rattle.lv_machine.specs.declared.tasks.Goal.TheVariants as goal
use Rattle.lv_machine.specs.declared.tasks.Task.{Task}
use Rattle.lv_machine.specs.declared.tasks.Task.TheVariants as task
use Rattle.lv_machine.specs.declared.tasks.Keep.{Keep}
use Rattle.lv_machine.specs.declared.tasks.Parts.{Parts}
use Rattle.lv_machine.specs.declared.tasks.Walk.{Walk}
use Rattle.lv_machine.specs.Layout.{cell_place, mark_place, part_place}
use Rattle.lv_machine.specs.declared.moves.Move.{Move}
use Rattle.lv_machine.specs.declared.moves.Move.TheVariants.{Look, Exchange, HelpCell, HelpMark, Install, Read}
use Rattle.lv_machine.specs.Moves.{Config, moved, verdict_at}
use Rattle.lv_machine.specs.Words.{cell_version, edit_of, index_of, part_value, part_version, part_word, signed, size_of, value_of}

-- Whether a number fits into 16 bits.
abbrev pub is_short : ℤ → Bool
is_short x = int_le (negsuc 32767) x && int_le x (pos 32767)

-- The goal of a call, or why it ends before its first step.
abbrev pub goal_of : Call → Result Goal Refusal
goal_of (call.Push x) = if is_short x then Ok (goal.Edit (Push x)) else Err TooWide
goal_of call.Pop = Ok (goal.Edit Pop)
goal_of (call.Write i x) = if is_short x then Ok (goal.Edit (Write i x)) else Err TooWide
goal_of (call.Get i) = Ok (goal.Get i)
goal_of call.Size = Ok goal.Size
goal_of (call.Reduce lo hi) = if nat_lt hi lo then Err BadRange else Ok (goal.Reduce lo hi)
goal_of (call.Refresh b) = Ok (goal.Refresh b)

-- Why a call is refused because of the size, if it is.
abbrev pub size_refusal : ℕ → Goal → Option Refusal
size_refusal size (goal.Get i) = if nat_lt i size then None else Some (OutOfRange size)
size_refusal size (goal.Reduce lo hi) = if nat_lt size hi then Some (OutOfRange size) else None
size_refusal size (goal.Refresh b) = if nat_lt b (size / 8) then None else Some (OutOfRange size)
size_refusal size _ = None

-- Why a call is refused at its look, if it is.
abbrev pub refusal_at : Bounds → ℕ → Goal → Option Refusal
refusal_at limits look (goal.Edit edit) = verdict_at limits look edit
refusal_at limits look g = size_refusal (size_of look) g

-- Whether a call completes its look's pending write. It does if there is one, unless it only asks for the size.
abbrev pub needs_help : ℕ → Goal → Bool
needs_help look goal.Size = false
needs_help look _ = nat_lt (index_of look) 4088

-- The receipt of an accepted update. The lock-free form has no reserve, no swap and no truncate.
abbrev pub receipt_at : ℕ → Edit → ℤ → Receipt
receipt_at look (Push x) before = Pushed (edit_of look + 1) (size_of look)
receipt_at look Pop before = Popped (edit_of look + 1) before
receipt_at look (Write i x) before = Written (edit_of look + 1) before
receipt_at look (Reserve n) before = Reserved (edit_of look + 1) 0
receipt_at look (Swap i j) before = Swapped (edit_of look + 1) before before
receipt_at look (Truncate n) before = Truncated (edit_of look + 1) 0

module _ {S : Type 0} where
  -- The move that an actor's call makes next.
  abbrev pub move_of : ℕ → Task S → Move
  move_of a (task.Look g) = Look a
  move_of a (task.CompleteCell g) = HelpCell a
  move_of a (task.CompleteMark g) = HelpMark a
  move_of a (task.Exchange edit before) = Exchange a edit
  move_of a (task.KeepPart b parts) = Install a b parts.number (part_word parts.version (slice_index parts.values parts.number))
  move_of a _ = Read a

  -- The place of the word of this step.
  abbrev pub place_of : ℕ → Task S → ℕ
  place_of look (task.Look g) = 0
  place_of look (task.CompleteCell g) = cell_place (index_of look)
  place_of look (task.CompleteMark g) = mark_place (index_of look / 8)
  place_of look (task.ReadBefore edit i) = cell_place i
  place_of look (task.Exchange edit before) = 0
  place_of look (task.ReadCell i) = cell_place i
  place_of look (task.SumCell walk) = cell_place walk.at
  place_of look (task.SumMark walk) = mark_place (walk.at / 8)
  place_of look (task.SumPart walk parts) = part_place (walk.at / 8) parts.number
  place_of look (task.KeepMark b) = mark_place b
  place_of look (task.KeepCell keep) = cell_place keep.at
  place_of look (task.KeepPart b parts) = part_place b parts.number

  -- What an update does once its look's pending write is complete. A pop and a write load the cell that they drop or overwrite.
  abbrev pub edit_begun : ℕ → Edit → Task S
  edit_begun look Pop = task.ReadBefore Pop (size_of look - 1)
  edit_begun look (Write i x) = task.ReadBefore (Write i x) i
  edit_begun look edit = task.Exchange edit (pos 0)

  -- What a reduction does next. It loads the mark of a whole block that begins at its position, or otherwise the cell there, or it has ended.
  abbrev pub walked : ℕ → Walk S → Advance S
  walked look walk =
      if nat_lt walk.at walk.hi
      then (if nat_eq (walk.at % 8) 0 && nat_le 8 (walk.hi - walk.at) then Goes (task.SumMark walk) else Goes (task.SumCell walk))
      else Ends (said.Answered record { edit = edit_of look; value = walk.sum; cells_read = walk.cells; summaries_read = walk.summaries })

  -- The end of a compare-and-swap: another descriptor was found, or the update is accepted.
  abbrev pub exchanged : ℕ → Edit → ℤ → ℕ → Advance S
  exchanged look edit before found =
      if nat_eq found look then Ends (said.Did (receipt_at look edit before)) else Ends (said.Refused (Contended (edit_of found)))

  -- A call that loaded a word of a later version than its look ends there. Otherwise it proceeds.
  abbrev pub unless_later : ℕ → ℕ → Advance S → Advance S
  unless_later look version next = if nat_lt (edit_of look) version then Ends (said.Refused (Overtaken version)) else next

  -- What a refresh does after one of `count` parts: it installs the next one, or has ended.
  abbrev pub part_kept : ℕ → ℕ → ℕ → Parts → Advance S
  part_kept count look b parts =
      if nat_lt (parts.number + 1) count
      then Goes (task.KeepPart b (record parts { number = parts.number + 1 }))
      else Ends (said.Refreshed record { edit = edit_of look; version = parts.version })

  -- What an actor has after its call has proceeded or ended.
  abbrev pub task_after : Advance S → Option (Task S)
  task_after (Goes t) = Some t
  task_after (Ends answer) = None

  abbrev pub outcome_of : Advance S → Outcome S
  outcome_of (Goes t) = outcome.Going
  outcome_of (Ends answer) = outcome.Done answer

-- The words with one look: what an actor sees, which has the number 0 there.
abbrev pub sees : List ℕ → ℕ → Config
sees words look = record { words = words; history = []; looks = λ a. look }

-- What an actor sees after its next step.
abbrev pub sees_next : {S : Type 0} → List ℕ → ℕ → Task S → Config
sees_next words look t = moved (sees words look) (move_of 0 t)

-- The block that is to be refreshed, if that is the goal of the call.
abbrev pub goal_block : Goal → Option ℕ
goal_block (goal.Refresh b) = Some b
goal_block _ = None

-- The block that a call refreshes, if it does.
abbrev pub task_block : {S : Type 0} → Task S → Option ℕ
task_block (task.Look g) = goal_block g
task_block (task.CompleteCell g) = goal_block g
task_block (task.CompleteMark g) = goal_block g
task_block (task.KeepMark b) = Some b
task_block (task.KeepCell keep) = Some keep.block
task_block (task.KeepPart b parts) = Some b
task_block _ = None

module _ {S : Type 0} (o : Operations S) (count : ℕ) (parts_of : S → List ℕ) (whole_of : List ℕ → S) where
  -- What a call does once its look's pending write is complete, or if there is none.
  abbrev pub begun : ℕ → Goal → Advance S
  begun look (goal.Edit edit) = Goes (edit_begun look edit)
  begun look (goal.Get i) = Goes (task.ReadCell i)
  begun look goal.Size = Ends (said.Sized record { edit = edit_of look; size = size_of look })
  begun look (goal.Reduce lo hi) = walked look record { lo = lo; at = lo; hi = hi; sum = o.identity; cells = 0; summaries = 0 }
  begun look (goal.Refresh b) = Goes (task.KeepMark b)

  -- What a call does after its look, unless it is refused there.
  abbrev pub looked_at : ℕ → Goal → Option Refusal → Advance S
  looked_at look g (Some refusal) = Ends (said.Refused refusal)
  looked_at look g None = if needs_help look g then Goes (task.CompleteCell g) else begun look g

  -- A walk with one more cell.
  abbrev pub with_cell : Walk S → ℕ → Walk S
  with_cell walk found = record walk { at = walk.at + 1; sum = o.join walk.sum (o.lift (signed (value_of found))); cells = walk.cells + 1 }

  -- A walk with a whole block, from the parts of its aggregate.
  abbrev pub with_block : Walk S → List ℕ → Walk S
  with_block walk parts = record walk { at = walk.at + 8; sum = o.join walk.sum (whole_of parts); summaries = walk.summaries + 1 }

  -- Parts with one more that was loaded.
  abbrev pub with_part : Parts → ℕ → Parts
  with_part parts found = record parts { number = parts.number + 1; values = slice_set parts.values parts.number (part_value found) }

  -- What a reduction does with a part. If it has another version than the mark, the reduction proceeds with the block's cells. After the last
  -- part it takes the block's aggregate from the parts.
  abbrev pub part_loaded : ℕ → Walk S → Parts → ℕ → Advance S
  part_loaded look walk parts found =
      if nat_eq (part_version found) parts.version
      then (if nat_lt (parts.number + 1) count
      then Goes (task.SumPart walk (with_part parts found))
      else walked look (with_block walk (with_part parts found).values))
      else Goes (task.SumCell walk)

  -- A refresh with one more cell.
  abbrev pub with_kept : Keep S → ℕ → Keep S
  with_kept keep found = record keep { at = keep.at + 1; sum = o.join keep.sum (o.lift (signed (value_of found))) }

  -- What a refresh does after a cell. Once it has all eight, it has the parts.
  abbrev pub cell_kept : Keep S → Advance S
  cell_kept keep =
      if nat_eq (keep.at % 8) 0
      then Goes (task.KeepPart keep.block record { version = keep.version; number = 0; values = parts_of keep.sum })
      else Goes (task.KeepCell keep)

  -- How a call proceeds by its step, which found a word. The look is the one before the step.
  abbrev pub advanced : Bounds → ℕ → Task S → ℕ → Advance S
  advanced limits look (task.Look g) found = looked_at found g (refusal_at limits found g)
  advanced limits look (task.CompleteCell g) found = Goes (task.CompleteMark g)
  advanced limits look (task.CompleteMark g) found = begun look g
  advanced limits look (task.ReadBefore edit i) found =
      unless_later look (cell_version found) (Goes (task.Exchange edit (signed (value_of found))))
  advanced limits look (task.Exchange edit before) found = exchanged look edit before found
  advanced limits look (task.ReadCell i) found =
      unless_later look (cell_version found) (Ends (said.Read record { edit = edit_of look; value = signed (value_of found) }))
  advanced limits look (task.SumCell walk) found = unless_later look (cell_version found) (walked look (with_cell walk found))
  advanced limits look (task.SumMark walk) found =
      unless_later look found (Goes (task.SumPart walk record { version = found; number = 0; values = replicate 4 0 }))
  advanced limits look (task.SumPart walk parts) found = part_loaded look walk parts found
  advanced limits look (task.KeepMark b) found =
      unless_later look found (Goes (task.KeepCell record { block = b; version = found; at = 8 * b; sum = o.identity }))
  advanced limits look (task.KeepCell keep) found = unless_later look (cell_version found) (cell_kept (with_kept keep found))
  advanced limits look (task.KeepPart b parts) found = part_kept count look b parts
