-- Proof of `OneWord::clear`: takes the mark of a number away.
use Rattle.std.proofs.Common.{arith}
use Rattle.lv_refresh.proofs.OverLaws.{word_clear}
use Rattle.lv_refresh.proofs.one_word.OneWordUpper.clear.Goals as goal

pub returns-clause-marks : goal.returns-clause-marks
returns-clause-marks c = word_clear c.args.self.now.bits c.args.i (omega (arith, c.requires))
