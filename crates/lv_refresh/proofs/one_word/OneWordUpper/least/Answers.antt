-- Proof of `OneWord::least`: the least number that is marked.
use Rattle.std.proofs.Common.{◌<◌, ◌^◌, arith}
use Rattle.lv_refresh.proofs.MarkLaws.{least_of_word}
use Rattle.lv_refresh.proofs.OverLaws.{word_empty}
use Rattle.lv_refresh.proofs.one_word.OneWordUpper.least.Goals as goal

pub returns-clause-marked : goal.returns-clause-marked
returns-clause-marked c = (least_of_word c.args.self.now.bits (omega arith) (omega arith)).0

pub returns-clause-least : goal.returns-clause-least
returns-clause-least c = (least_of_word c.args.self.now.bits (omega arith) (omega arith)).1
