-- Proof of `hold_in_place`: runs the sessions in place: in threads of their own first, and then those that still wait, one after the other in
-- this thread.
use Rattle.lv_server.proofs.ServedLaws.{are_held_again}
use Rattle.lv_server.proofs.threads.hold_in_place.Goals as goal

-- each session that still waited was run after the others
pub returns : goal.returns
returns g c = are_held_again g.N.Naming.limits g.N.Naming.numbers g.N.Naming.lists _ _ _ c.hold_waiting.ensures c.hold_waiting-2.ensures
