-- Proof of `Left::tell`: writes the last notification, from the vector of the hub that was closed after this many updates, unless these aren't
-- recorded.
use Rattle.lv_hub.proofs.WatchedLaws.{tells_last}
use Rattle.lv_hub.proofs.leaving.Left.tell.Goals as goal

pub returns-clause-last : goal.returns-clause-last
returns-clause-last g c =
    rw (← c.self.view_is) (λ edits many same. tells_last c.args.live.now.history.journal edits c.args.edit _ c.tell.result _ c.tell.ensures.edit many same c.tell.ensures.notes c.tell-2.ensures.written)
