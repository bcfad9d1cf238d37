-- Proof of `collect`: puts the elements that the last words show into a vector that has room for them.
use Rattle.std.proofs.Common.{◌+◌, length, ap, ◌∙◌, rules, to_z, of_z, arith}
use Rattle.std.proofs.lemmas.Int.{to_z-of_z}
use Rattle.std.proofs.lemmas.List.{length_push}
use Rattle.std.specs.Int.{w64}
use Rattle.std.specs.Mem.Slots.{slots_items}
use Rattle.lv_board.specs.Ended.{shown_at}
use Rattle.lv_board.proofs.Closes.{collected}
use Rattle.lv_board.proofs.closing.collect.Goals as goal

pub loop-i-preserved : goal.loop-i-preserved
loop-i-preserved c =
    let inv = c.loop-i.invariant in
    record {
      elements = collected (shown_at (slots_items c.args.words.now.words)) c.loop-i.elements.items c.push_reserved.new.self.items c.loop-i.i (to_z w64 (of_z w64 c.element.result)) inv.elements c.push_reserved.ensures.items (to_z-of_z w64 c.element.result (search rules) ∙ c.element.ensures.value ∙ c.shown.ensures);
      count = ap length c.push_reserved.ensures.items ∙ length_push c.loop-i.elements.items (to_z w64 (of_z w64 c.element.result)) ∙ ap (λ n. n + 1) inv.count;
      room = omega (arith, inv.room, c.push_reserved.ensures.capacity);
    }
