-- What the loop keeps in `befores_of`: for each piece of so many elements, the fold of all elements before it.
use Rattle.std.proofs.Common.{◌≡◌, ◌*◌, ◌≤◌, length, map, take, vec_capacity, vec_len}
use Rattle.std.specs.List.{range_with_len}
use Rattle.lv_bodies.specs.Body.{fold_of}
use Rattle.lv_reduce.specs.Rows.{elements_of}
use Rattle.lv_reduce.proofs.parallel.slices.befores_of.Given as goal

-- the folds of the elements before each piece so far, and before the next
abbrev pub invariant-loop-fold : goal.invariant-loop-fold
invariant-loop-fold g l =
    let o = g.B.Body.operations l.body in
    record {
      before : l.before ≡ fold_of o (take (l.fold-index * l.size) (elements_of l.fn.part));
      befores : l.befores.items ≡ map (λ n. fold_of o (take (n * l.size) (elements_of l.fn.part))) (range_with_len 0 l.fold-index);
      pushed : vec_len l.befores ≡ l.fold-index;
      room : length l.fold-items ≤ vec_capacity l.befores;
    }
