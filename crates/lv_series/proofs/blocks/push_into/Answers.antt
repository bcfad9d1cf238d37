-- Proof of `push_into`: an element more, and the leaf of the block that is whole with it.
use Rattle.std.proofs.Common.{◌≡◌, ◌-◌, ◌%◌, length, refl, sym, ap, ◌∙◌, subst, arith, w64, to_z, of_z}
use Rattle.std.proofs.lemmas.Int.{to_z-of_z}
use Rattle.std.proofs.lemmas.List.{length_push}
use Rattle.lv_geometry.specs.Elements.{IsElement}
use Rattle.lv_series.specs.Trees.{AreOver}
use Rattle.lv_tree.specs.Parts.{run_of}
use Rattle.lv_series.proofs.TreeLaws.{all_more, all_pushed, can_grow_all, last_block}
use Rattle.lv_series.proofs.WindowLaws.{window_more}
use Rattle.lv_series.proofs.blocks.push_into.Goals as goal

pub returns-then-len-ne0-clause-over : goal.returns-then-len-ne0-clause-over
returns-then-len-ne0-clause-over c =
    let xs = c.args.elements.now.items in
    let ys = c.add_element.new.elements.items in
    let x = to_z w64 (of_z w64 c.args.x) in
    let fits : IsElement x = subst IsElement (sym (to_z-of_z w64 c.args.x c.ranges.x)) c.ranges.x in
    let more = c.if-not-add_element.ensures.added refl in
    let size : c.len-len.result ≡ length ys = omega (arith, c.len-len.ensures, c.add_element.new.elements.ok.0) in
    let v = window_more c.args.base c.args.first xs ys c.requires.window x more fits c.add_element.ensures.few c.requires.numbered in
    all_more c.args.base c.args.first xs c.requires.window c.args.trees.now c.requires.over ys v x more (λ h. c.if-len-ne0.true (ap (λ k. k % 8) size ∙ h))

pub grow-requires-clause-can : goal.grow-requires-clause-can
grow-requires-clause-can c =
    let xs = c.args.elements.now.items in
    let ys = c.add_element.new.elements.items in
    let x = to_z w64 (of_z w64 c.args.x) in
    let fits : IsElement x = subst IsElement (sym (to_z-of_z w64 c.args.x c.ranges.x)) c.ranges.x in
    let more = c.if-not-add_element.ensures.added refl in
    let size : c.len-len.result ≡ length ys = omega (arith, c.len-len.ensures, c.add_element.new.elements.ok.0) in
    let full : length ys % 8 ≡ 0 = ap (λ k. k % 8) (sym size) ∙ c.if-len-ne0.false in
    let v = window_more c.args.base c.args.first xs ys c.requires.window x more fits c.add_element.ensures.few c.requires.numbered in
    let last = last_block ys c.as_slice.result.now c.len-len.result c.as_slice.ensures.value size full (omega (arith, ap length more, length_push xs x)) in
    can_grow_all c.args.base c.args.first xs c.requires.window c.args.trees.now c.requires.over ys v x more (run_of c.as_slice.result.now (c.len-len.result - 8) (c.len-len.result - (c.len-len.result - 8))) full last

pub returns-then-grow-clause-over : goal.returns-then-grow-clause-over
returns-then-grow-clause-over c =
    let xs = c.args.elements.now.items in
    let ys = c.add_element.new.elements.items in
    let x = to_z w64 (of_z w64 c.args.x) in
    let fits : IsElement x = subst IsElement (sym (to_z-of_z w64 c.args.x c.ranges.x)) c.ranges.x in
    let more = c.if-not-add_element.ensures.added refl in
    let size : c.len-len.result ≡ length ys = omega (arith, c.len-len.ensures, c.add_element.new.elements.ok.0) in
    let full : length ys % 8 ≡ 0 = ap (λ k. k % 8) (sym size) ∙ c.if-len-ne0.false in
    let v = window_more c.args.base c.args.first xs ys c.requires.window x more fits c.add_element.ensures.few c.requires.numbered in
    let last = last_block ys c.as_slice.result.now c.len-len.result c.as_slice.ensures.value size full (omega (arith, ap length more, length_push xs x)) in
    subst (AreOver c.args.base c.args.first ys) (sym (c.if-grow.ensures.grown refl))
    (all_pushed c.args.base c.args.first xs c.requires.window c.args.trees.now c.requires.over ys v x more (run_of c.as_slice.result.now (c.len-len.result - 8) (c.len-len.result - (c.len-len.result - 8))) full last)
