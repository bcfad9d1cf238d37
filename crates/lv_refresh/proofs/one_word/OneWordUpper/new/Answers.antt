-- Proof of `OneWord::new`: no marks.
use Rattle.std.proofs.Common.{[], ◌∷◌}
use Rattle.lv_refresh.proofs.OverLaws.{word_empty}
use Rattle.lv_refresh.proofs.one_word.OneWordUpper.new.Goals as goal

pub returns : goal.returns
returns c = word_empty
