-- What the loop keeps in `tell_elements`: proves that the elements of a slice are of 64 bits.
use Rattle.std.proofs.Common.{All, take}
use Rattle.lv_geometry.specs.Elements.{IsElement}
use Rattle.lv_reduce.proofs.parallel.slices.tell_elements.Given as goal

-- each element so far is of 64 bits
abbrev pub invariant-loop-x : goal.invariant-loop-x
invariant-loop-x l = All IsElement (take l.x-index l.xs)
