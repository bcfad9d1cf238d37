-- What the loop keeps in `fold_slice`: the left fold of a slice, without a copy of it.
use Rattle.std.proofs.Common.{◌≡◌, take, All}
use Rattle.lv_geometry.specs.Elements.{IsElement}
use Rattle.lv_bodies.specs.Body.{fold_of}
use Rattle.lv_bodies.proofs.folds.fold_slice.Given as goal

-- the fold of what was read so far, each of it of 64 bits
abbrev pub invariant-loop-x : goal.invariant-loop-x
invariant-loop-x g l =
    let body = l.body in
    record {
      so_far : l.sum ≡ fold_of (g.B.Body.operations body) (take l.x-index l.xs);
      within : g.B.Body.is_within body l.sum l.x-index;
      elements : All IsElement (take l.x-index l.xs);
    }
