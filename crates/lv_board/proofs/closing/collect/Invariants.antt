-- Loop invariants of `collect`: puts the elements that the last words show into a vector that has room for them.
use Rattle.std.specs.Prelude.{◌≡◌, ◌≤◌, map, vec_capacity, length}
use Rattle.std.specs.List.{range_with_len}
use Rattle.std.specs.Mem.Slots.{slots_items}
use Rattle.lv_machine.specs.Words.{size_of}
use Rattle.lv_board.specs.Ended.{shown_at}
use Rattle.lv_board.proofs.closing.collect.Given as goal

abbrev pub invariant-loop-i : goal.invariant-loop-i
invariant-loop-i l = record {
  elements : l.elements.items ≡ map (shown_at (slots_items l.fn.words.words)) (range_with_len 0 l.i);
  count : length l.elements.items ≡ l.i;
  room : size_of l.fn.look ≤ vec_capacity l.elements;
}
