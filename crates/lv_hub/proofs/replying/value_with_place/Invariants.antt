-- Loop invariants of `value_with_place`.
use Rattle.std.specs.Prelude.{◌≡◌}
use Rattle.lv_hub.proofs.replying.value_with_place.Given as goal

-- nothing was answered so far
abbrev pub invariant-loop : goal.invariant-loop
invariant-loop g l = l.share ≡ l.initial.share
