-- A hub whose vector is replaced by a new one: which updates the hub has, and which of them the vector has.
use Rattle.std.specs.Prelude.{◌≡◌, ℕ, ℤ, ◌≤◌, ◌<◌, ◌^◌, ◌⊎◌, if◌then◌else◌, Bool, true, false, max, min, Option, Some, List, ◌++◌, All, drop, length, map, take}
use Rattle.lv_geometry.specs.Bounds.{Bounds}
use Rattle.lv_geometry.specs.Cells.{capacity_of}
use Rattle.lv_geometry.specs.Elements.{IsElement}
use Rattle.lv_bodies.specs.Plain.{program_table}
use Rattle.lv_edits.specs.Capacity.{capacity_after, longest, most_reserved}
use Rattle.lv_edits.specs.declared.edit.Edit.{Edit}
use Rattle.lv_edits.specs.declared.edit.Edit.TheVariants.{Push}
use Rattle.lv_edits.specs.History.{History, list_of, replayed}
use Rattle.lv_edits.specs.Kept.{IsLegalInLimits}
use Rattle.lv_edits.specs.declared.receipt.Receipt.{Receipt}
use Rattle.lv_edits.specs.declared.receipt.Receipt.TheVariants.{Reserved}
use Rattle.lv_live.specs.State.{LiveState}
use Rattle.lv_tree.specs.Kinds.{AreReady, KindsState}
use Rattle.lv_transcript.specs.Transcript.{AreAccepted, greatest}

-- ---- limits

-- Limits that a single vector may have. The vector of a hub with such limits is never replaced.
abbrev pub IsOfOneVector : Bounds → Type 0
IsOfOneVector limits = limits.edits ≤ 16777215

-- The limits of a hub whose vector is replaced before its updates are used up.
abbrev pub lasting : Bounds → Bounds
lasting limits = record limits { edits = 2 ^ 62 }

-- The limits of a hub whose vector has these limits. They are wider if the hub lasts.
abbrev pub opened_limits : Bool → Bounds → Bounds
opened_limits lasts limits = if lasts then lasting limits else limits

-- The limits of the vector of a hub. No vector takes more than 16777215 updates.
abbrev pub vector_limits : Bounds → Bounds
vector_limits limits = record limits { edits = min limits.edits 16777215 }

-- Updates that are possible one after the other, within limits that may be wider than a vector's.
pub record IsRun (limits : Bounds) (journal : List Edit) : Type 0 where
  pub legal : replayed journal ≡ Some (list_of journal)
  pub edits : length journal ≤ limits.edits
  pub size : length (list_of journal) ≤ capacity_of limits.buckets
  pub few : length (list_of journal) ≤ 1048568
  pub elements : All IsElement (list_of journal)

-- ---- a vector that was made anew

-- The updates of a vector that was made anew after the first n updates of its hub: a push of each element that there was then, followed by the
-- later updates.
abbrev pub renewed_after : ℕ → List Edit → List Edit
renewed_after n edits = map Push (list_of (take n edits)) ++ drop n edits

-- A vector whose updates are legal, within these limits.
pub record IsVector (limits : Bounds) (h : History) : Type 0 where
  pub limits_are : h.limits ≡ limits
  pub within : IsLegalInLimits h

-- A hub with these limits has reached these updates, and its vector has this history. `renewed` is the number of updates after which the vector
-- was made anew, or 0 if it never was, and `capacity` is the capacity that there was then.
pub record StandsFor (limits : Bounds) (renewed capacity : ℕ) (edits : List Edit) (h : History) : Type 0 where
  pub vector : IsVector (vector_limits limits) h
  pub journal : h.journal ≡ renewed_after renewed edits
  pub run : IsRun limits edits
  pub some : renewed ≤ length edits
  pub never : IsOfOneVector limits → renewed ≡ 0
  pub spare : IsOfOneVector limits ⊎ (length h.journal < 16777215)
  pub capacity_is : capacity ≡ capacity_after (take renewed edits)
  pub cells : max (longest edits) (most_reserved edits) ≤ 1048568

-- A vector, with the aggregates that are kept of it by kind, which has just these elements, each as a push.
pub record IsMadeOf {B S : Type 0} (limits : Bounds) (body : Option B) (elements : List ℤ) (live : LiveState B S) (kinds : KindsState) : Type 0 where
  pub history : live.history ≡ record { limits = limits; journal = map Push elements }
  pub accepted : AreAccepted greatest live.history.journal
  pub body_is : body ≡ Some live.body
  pub ready : AreReady program_table live.history.journal kinds

-- Either the hub continues when its vector's updates are used up, or its limits are those of one vector.
abbrev pub LastsAs : Bool → Bounds → Type 0
LastsAs true limits = limits ≡ lasting limits
LastsAs false limits = IsOfOneVector limits

-- A receipt, with at least this capacity if it carries a capacity.
abbrev pub receipt_with : ℕ → Receipt → Receipt
receipt_with least (Reserved edit capacity) = Reserved edit (max capacity least)
receipt_with least receipt = receipt

-- A hub with these limits has reached these updates, and its closed vector has this history and the same elements.
pub record IsClosed (limits : Bounds) (edits : List Edit) (h : History) : Type 0 where
  pub run : IsRun limits edits
  pub legal : IsLegalInLimits h
  pub list : list_of h.journal ≡ list_of edits
  pub one : IsOfOneVector limits → h ≡ record { limits = limits; journal = edits }
  pub accepted : AreAccepted greatest h.journal
