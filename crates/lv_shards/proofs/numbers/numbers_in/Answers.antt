-- Proof of `numbers_in`: the numbers whose bytes come first.
use Rattle.std.proofs.Common.{arith}
use Rattle.lv_shards.specs.SpelledLaws.{all_read}
use Rattle.lv_shards.proofs.numbers.numbers_in.Goals as goal

pub returns : goal.returns
returns c = λ numbers. all_read numbers c.loop-j.numbers c.args.bytes.now c.loop-j.invariant.many (λ k below. c.loop-j.invariant.read k (omega (arith, c.loop-j-test.false, below)))
