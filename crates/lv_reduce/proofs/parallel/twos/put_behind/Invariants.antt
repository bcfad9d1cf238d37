-- What the loop keeps in `put_behind`: pushes some values, each joined with a summary in front of it.
use Rattle.std.proofs.Common.{◌≡◌, ◌+◌, ◌++◌, map, take, vec_capacity, vec_len}
use Rattle.lv_reduce.proofs.parallel.twos.put_behind.Given as goal

-- the values so far come behind those that were there, each joined with the summary in front
abbrev pub invariant-loop-value : goal.invariant-loop-value
invariant-loop-value g l =
    let o = g.B.Body.operations l.body in
    record {
      values : l.values.items ≡ l.initial.values.items ++ map (o.join l.before) (take l.value-index l.more);
      count : vec_len l.values ≡ vec_len l.initial.values + l.value-index;
      capacity : vec_capacity l.values ≡ vec_capacity l.initial.values;
    }
