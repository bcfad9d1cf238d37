-- Proof of `Store::new`: an empty store, with no bucket open.
use Rattle.lv_store.proofs.ShowsLaws.{Shows-empty}
use Rattle.lv_store.proofs.stores.Store.new.Goals as goal

pub returns-clause-shows : goal.returns-clause-shows
returns-clause-shows c = rw (c.new.ensures, c.new-2.ensures.items) (Shows-empty c.args.limits)
