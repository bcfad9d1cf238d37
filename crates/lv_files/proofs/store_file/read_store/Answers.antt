-- Proof of `read_store`.
use Rattle.lv_files.proofs.StoreLaws.{right_store}
use Rattle.lv_files.proofs.store_file.read_store.Goals as goal

pub returns : goal.returns
returns g c = right_store _ _ _ c.in-Ok.ensures
