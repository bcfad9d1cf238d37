-- What a fold may go over: the elements of a vector, and each part of what it may go over.
use Rattle.std.proofs.Common.{ℕ, ℤ, List, take, drop, length-drop, arith}
use Rattle.std.proofs.lemmas.List.{length-take}
use Rattle.std.proofs.lemmas.List.Elements.{All-drop, All-take}
use Rattle.lv_geometry.specs.Elements.{IsElement}
use Rattle.lv_bodies.specs.Body.{CanFold}
use Rattle.lv_edits.specs.History.{History, list_of}
use Rattle.lv_edits.specs.Kept.{IsLegalInLimits}

-- the elements of a vector can be folded
pub can_fold : (h : History) → IsLegalInLimits h → CanFold (list_of h.journal)
can_fold h limits = record { few = omega (arith, limits.few); elements = limits.elements }

-- a part of what can be folded can be folded
pub part_can_fold : (size from : ℕ) (xs : List ℤ) → CanFold xs → CanFold (take size (drop from xs))
part_can_fold size from xs can = record {
  few = omega (arith, can.few, length-take size (drop from xs), length-drop from xs);
  elements = All-take IsElement size (drop from xs) (All-drop IsElement from xs can.elements);
}
