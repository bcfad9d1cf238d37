-- Subtrees: what a vector keeps if one is taken in, and if it isn't.
use Rattle.std.proofs.Common.{◌≡◌, ◌↔◌, Bool, true, false, IsTrue, Option, Some, None, IfSome, refl}
use Rattle.lv_bodies.specs.declared.sixes.SixByTable.{SixByTable}
use Rattle.lv_refresh.specs.Subtrees.{Copied}
use Rattle.lv_live.specs.Subtrees.{HasSubtree}
use Rattle.livevec_c.specs.Behind.{State}
use Rattle.livevec_c.specs.Subtrees.{CanTakeIn}

-- what taking a subtree in promises of the states
pub record Promised (told : Bool) (old new : State) (outcome left : Option (Copied SixByTable)) : Type 0 where
  pub answer : IsTrue told ↔ CanTakeIn old outcome
  pub kept : told ≡ true → IfSome outcome (λ copied. HasSubtree old new copied.number)
  pub spent : told ≡ true → left ≡ None
  pub refused : told ≡ false → (new ≡ old) × (left ≡ outcome)

-- body and history stay
pub stays : (told : Bool) (old new : State) (outcome left : Option (Copied SixByTable)) → Promised told old new outcome left → (new.body ≡ old.body) × (new.history ≡ old.history)
stays true old new None left is = elim (is.answer.0 refl) [ ]
stays true old new (Some copied) left is = ((is.kept refl).body, (is.kept refl).history)
stays false old new outcome left is = rw (is.refused refl).0 (refl, refl)
