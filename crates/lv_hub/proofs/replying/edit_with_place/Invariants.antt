-- Loop invariants of `edit_with_place`.
use Rattle.std.specs.Prelude.{◌≡◌}
use Rattle.lv_hub.proofs.replying.edit_with_place.Given as goal

-- no update was made so far
abbrev pub invariant-loop : goal.invariant-loop
invariant-loop g l = l.share ≡ l.initial.share
