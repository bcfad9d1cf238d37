-- Proof of `Store::announce`: the next edit: it has the next number, leaves so many elements, and announces writes.
use Rattle.lv_store.proofs.ShowsLaws.{Shows-announced}
use Rattle.lv_store.proofs.stores.Store.announce.Goals as goal

pub returns-clause-shows : goal.returns-clause-shows
returns-clause-shows c =
    rw (← c.self.view_is, c.writes_of.ensures) (Shows-announced _ c.args.first c.args.second c.args.size (rw (← c.self.view_is) at c.requires.settled))
