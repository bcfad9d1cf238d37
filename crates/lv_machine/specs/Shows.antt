-- When words show a history.
use Rattle.std.specs.Prelude.{◌≡◌, ◌⊎◌, ℕ, ◌+◌, ◌-◌, ◌*◌, ◌<◌, ◌≤◌, true, List, length, take, slice_index}
use Rattle.lv_geometry.specs.declared.nodes.Node.{Node}
use Rattle.lv_edits.specs.declared.edit.Edit.{Edit}
use Rattle.lv_edits.specs.Touch.{elements_under, is_whole, touched_by}
use Rattle.lv_machine.specs.declared.entries.Entry.{Entry}
use Rattle.lv_machine.specs.History.{before_last, cell_of, descriptor_of, edits_of, Ends, IsLegalHistory}
use Rattle.lv_machine.specs.Layout.{count_of, place}
use Rattle.lv_machine.specs.Terms.{blocks_of, Folding, Terms}
use Rattle.lv_machine.specs.Words.{cell_version, part_word}

-- A block, as a node of level 1.
abbrev pub block : ℕ → Node
block b = record { level = 1; number = b }

-- The number of the last update of a history that touched a block, or 0 if none did.
abbrev pub mark_of : ℕ → List Entry → ℕ
mark_of b h = touched_by (edits_of h) (block b)

-- A word shows what f says of a history, or of the history without its last entry, whose write may be pending.
pub record Fits (f : List Entry → ℕ) (h : List Entry) (word : ℕ) : Type 0 where
  pub shown : (word ≡ f h) ⊎ (word ≡ f (before_last h))

-- The last of the first v updates touched the block, and the block was full after it. The word is part p of the block's fold at that time, with
-- that version.
pub record IsPartAt (f : Folding) (edits : List Edit) (b p word v : ℕ) : Type 0 where
  pub some : 1 ≤ v
  pub within : v ≤ length edits
  pub whole : is_whole (take v edits) (block b) ≡ true
  pub touched : touched_by (take v edits) (block b) ≡ v
  pub word_is : word ≡ part_word v (f.part p (elements_under (take v edits) (block b)))

-- A word is 0, or such a part of some version.
pub record FitsPart (f : Folding) (h : List Entry) (b p word : ℕ) : Type 0 where
  pub shown : (word ≡ 0) ⊎ ((v : ℕ) × IsPartAt f (edits_of h) b p word v)

-- What the word at place r of block b shows.
pub record FitsPlace (f : Folding) (h : List Entry) (b r word : ℕ) : Type 0 where
  pub cell : r < 8 → Fits (cell_of (8 * b + r)) h word
  pub mark : r ≡ 8 → Fits (mark_of b) h word
  pub part : 9 ≤ r → FitsPart f h b (r - 9) word

-- The words show a history, which is legal. What each actor last looked at showed an earlier state of it.
pub record ShowsHistory (t : Terms) (words : List ℕ) (h : List Entry) (looks : ℕ → ℕ) : Type 0 where
  pub legal : IsLegalHistory t h
  pub count : length words ≡ count_of t.limits
  pub first : slice_index words 0 ≡ descriptor_of h
  pub places : (b r : ℕ) → b < blocks_of t.limits → r < 16 → FitsPlace t.folding h b r (slice_index words (place b r))
  pub looked : (a : ℕ) → (k : List Entry) × Ends k h × (looks a ≡ descriptor_of k)

-- What a loaded cell tells an actor that knows an earlier history `k` and that the pending write of `k` is complete.
pub record IsCellRead (i : ℕ) (k h : List Entry) (word : ℕ) : Type 0 where
  pub late : cell_version word ≤ length h
  pub settled : cell_version word ≤ length k → word ≡ cell_of i k

-- What a loaded mark tells such an actor.
pub record IsMarkRead (b : ℕ) (k h : List Entry) (word : ℕ) : Type 0 where
  pub late : word ≤ length h
  pub settled : word ≤ length k → word ≡ mark_of b k
