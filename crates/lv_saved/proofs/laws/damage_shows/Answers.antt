-- Proof of `damage_shows`: no two states have the same bytes.
use Rattle.lv_saved.proofs.AloneLaws.{alone}
use Rattle.lv_saved.proofs.laws.damage_shows.Goals as goal

pub returns : goal.returns
returns c = alone
