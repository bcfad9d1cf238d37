-- Subtrees of a live vector: when one is copied, and what becomes of its summaries.
use Rattle.std.specs.Prelude.{◌≡◌, ℕ, ◌+◌, ◌*◌, Bool, true, ◌&&◌, not, Option, Some, None, List, if◌then◌else◌}
use Rattle.lv_edits.specs.declared.edit.Edit.{Edit}
use Rattle.lv_edits.specs.Touch.{elements_under, is_whole, touched_by}
use Rattle.lv_refresh.specs.Inner.{node_at}
use Rattle.lv_refresh.specs.Record.{Record, is_fresh}
use Rattle.lv_refresh.specs.Subtrees.{Copied, is_in_subtree}
use Rattle.lv_live.specs.State.{IsRefreshed, LiveState, recorded}

-- whether a subtree is worth a job: its node of level 4 is whole, and neither its first block nor its last is fresh
abbrev pub wants_subtree : Record → ℕ → Bool
wants_subtree r number = is_whole r.edits (node_at 4 number) && not (is_fresh r (node_at 1 (512 * number))) && not (is_fresh r (node_at 1 (512 * number + 511)))

-- the job of a subtree: its number, its elements, and the body to fold them by
abbrev pub copied_at : {B : Type 0} → B → List Edit → ℕ → Copied B
copied_at body edits number = record { number = number; elements = elements_under edits (node_at 4 number); body = body }

-- the job of a subtree, if it is worth one
abbrev pub subtree_job : {B : Type 0} → B → Record → ℕ → Option (Copied B)
subtree_job body r number = if wants_subtree r number then Some (copied_at body r.edits number) else None

-- what a subtree's job carried is current: its body is the vector's, its node of level 4 is whole, and has these elements
pub record SubtreeStands {B : Type 0} (same : B → Type 0) (edits : List Edit) (copied : Copied B) : Type 0 where
  pub body : same copied.body
  pub whole : is_whole edits (node_at 4 copied.number) ≡ true
  pub elements : copied.elements ≡ elements_under edits (node_at 4 copied.number)

-- an outcome may be taken in: it wasn't yet, and what its job carried is current
abbrev pub CanTake : {B : Type 0} → (B → Type 0) → List Edit → Option (Copied B) → Type 0
CanTake same edits None = ⊥
CanTake same edits (Some copied) = SubtreeStands same edits copied

-- such an outcome is of the subtree of a number
pub record Takes {B : Type 0} (same : B → Type 0) (edits : List Edit) (outcome : Option (Copied B)) (number : ℕ) : Type 0 where
  pub copied : Copied B
  pub outcome_is : outcome ≡ Some copied
  pub number_is : copied.number ≡ number
  pub stands : SubtreeStands same edits copied

-- each node of a subtree is kept at the number of the edit that touched it last, and nothing else has changed
abbrev pub HasSubtree : {B S : Type 0} → LiveState B S → LiveState B S → ℕ → Type 0
HasSubtree old new number =
    IsRefreshed old new (recorded old).claimed (λ n. if is_in_subtree number n then Some (touched_by old.history.journal n) else (recorded old).kept n)
