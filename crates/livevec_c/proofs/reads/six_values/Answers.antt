-- Proof of `six_values`: the plain values of a range whose sum is known. The others are asked by their kinds.
use Rattle.livevec_c.proofs.AskedLaws.{six_put}
use Rattle.livevec_c.proofs.reads.six_values.Goals as goal

pub returns-clause-values : goal.returns-clause-values
returns-clause-values c =
    six_put c.args.lo c.args.hi c.args.vector.now c.put_value.new.vector c.put_value-2.new.vector c.put_value-3.new.vector c.put_value-4.new.vector c.args.sum c.no_values-values.result c.put_part.new.values c.put_value.new.values c.put_value-2.new.values c.put_value-3.new.values c.put_value-4.new.values
    c.put_value-5.new.values c.requires.sum c.put_value.ensures.same c.put_value-2.ensures.same c.put_value-3.ensures.same c.put_value-4.ensures.same c.put_part.ensures c.put_value.ensures.put c.put_value-2.ensures.put c.put_value-3.ensures.put c.put_value-4.ensures.put c.put_value-5.ensures.put
