-- Loop invariants of `first_unwritten`: succeeds if all notifications were written.
use Rattle.std.specs.Prelude.{◌≡◌, All, false, take}
use Rattle.lv_server.proofs.clients.first_unwritten.Given as goal

-- the output of none so far has failed
abbrev pub invariant-loop-one : goal.invariant-loop-one
invariant-loop-one g l = All (λ w. w.notices.failed ≡ false) (take l.one-index l.watched)
