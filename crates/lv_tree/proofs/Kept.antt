-- What is kept of fewer leaves.
use Rattle.std.proofs.Common.{ℕ, ◌+◌, ◌-◌, ◌≤◌, List, arith, inl, inr}
use Rattle.lv_bodies.specs.Body.{Operations}
use Rattle.lv_tree.specs.Nodes.{IsKept}
use Rattle.lv_tree.proofs.Written.{folds_part, tree_within}

-- those of the front
pub kept_cut : {S : Type 0} (o : Operations S) (lo hi room capacity count : ℕ) (cells : List S) → IsKept o lo hi room capacity cells → count ≤ hi - lo → IsKept o lo (lo + count) room capacity cells
kept_cut o lo hi room capacity count cells kept few =
    let high : lo + count ≤ hi = omega (arith, few, kept.order) in
    record {
      tree = tree_within o lo hi lo (lo + count) cells (omega arith) high kept.tree;
      folds = folds_part o cells lo hi kept.folds lo (lo + count) (omega arith) high;
      order = omega arith;
      inside = omega (arith, high, kept.inside);
      octave = kept.octave;
      few = kept.few;
      within_room = omega (arith, few, kept.within_room);
      has_cells = kept.has_cells;
    }

-- those of the end
pub kept_later : {S : Type 0} (o : Operations S) (lo hi room capacity count : ℕ) (cells : List S) → IsKept o lo hi room capacity cells → count ≤ hi - lo → IsKept o (lo + count) hi (room - count) capacity cells
kept_later o lo hi room capacity count cells kept few =
    let low : lo + count ≤ hi = omega (arith, few, kept.order) in
    record {
      tree = tree_within o lo hi (lo + count) hi cells (omega arith) (omega arith) kept.tree;
      folds = folds_part o cells lo hi kept.folds (lo + count) hi (omega arith) (omega arith);
      order = low;
      inside = kept.inside;
      octave = omega (arith, kept.octave);
      few = kept.few;
      within_room = omega (arith, kept.within_room);
      has_cells = record {
        cells = elim kept.has_cells.cells [
          | inl written ↦ inl (omega (arith, written, few, kept.within_room))
          | inr none ↦ inr (none.0, omega (arith, none.1))
        ];
        few = omega (arith, kept.has_cells.few);
      };
    }
