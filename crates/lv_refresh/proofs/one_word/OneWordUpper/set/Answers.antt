-- Proof of `OneWord::set`: marks a number.
use Rattle.std.proofs.Common.{arith}
use Rattle.lv_refresh.proofs.OverLaws.{word_set}
use Rattle.lv_refresh.proofs.one_word.OneWordUpper.set.Goals as goal

pub returns-clause-marks : goal.returns-clause-marks
returns-clause-marks c = word_set c.args.self.now.bits c.args.i (omega (arith, c.requires))
