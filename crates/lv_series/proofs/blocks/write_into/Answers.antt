-- Proof of `write_into`: another element in the place of one, and the leaf of its block.
use Rattle.std.proofs.Common.{◌≡◌, ◌+◌, ◌-◌, ◌*◌, ◌/◌, ◌<◌, ◌≤◌, length, slice_set, refl, sym, ap, ◌∙◌, subst, arith, w64, to_z, of_z}
use Rattle.std.proofs.lemmas.Int.{to_z-of_z}
use Rattle.std.proofs.lemmas.List.{length-set}
use Rattle.lv_geometry.specs.Elements.{IsElement}
use Rattle.lv_series.specs.Trees.{AreOver}
use Rattle.lv_tree.specs.Parts.{run_of}
use Rattle.lv_series.proofs.TreeLaws.{all_beside, all_written, can_renew_all}
use Rattle.lv_series.proofs.WindowLaws.{window_written}
use Rattle.lv_series.proofs.blocks.write_into.Goals as goal

pub renew-requires-clause-can : goal.renew-requires-clause-can
renew-requires-clause-can c =
    let xs = c.args.elements.now.items in
    let x = to_z w64 (of_z w64 c.args.x) in
    let ys = slice_set xs c.args.at x in
    let b = c.args.at / 8 in
    let fits : IsElement x = subst IsElement (sym (to_z-of_z w64 c.args.x c.ranges.x)) c.ranges.x in
    let count : 8 * b + 8 - 8 * b ≡ 8 = omega arith in
    let inside : b < length xs / 8 = omega (arith, c.if-block-len.true, c.len.ensures, c.set_element.new.elements.ok.0, ap length c.set_element.ensures, length-set xs c.args.at x) in
    let here = ap (λ l. run_of l (8 * b) (8 * b + 8 - 8 * b)) (c.as_slice.ensures.value ∙ c.set_element.ensures) ∙ ap (run_of ys (8 * b)) count in
    can_renew_all c.args.base c.args.first xs c.requires.window c.args.trees.now c.requires.over c.args.at x c.requires.low (run_of c.as_slice.result.now (8 * b) (8 * b + 8 - 8 * b)) inside here
    (window_written c.args.base c.args.first xs ys c.requires.window c.args.at x refl fits)

pub returns-then-block-len-clause-over : goal.returns-then-block-len-clause-over
returns-then-block-len-clause-over c =
    let xs = c.args.elements.now.items in
    let x = to_z w64 (of_z w64 c.args.x) in
    let ys = slice_set xs c.args.at x in
    let b = c.args.at / 8 in
    let count : 8 * b + 8 - 8 * b ≡ 8 = omega arith in
    let inside : b < length xs / 8 = omega (arith, c.if-block-len.true, c.len.ensures, c.set_element.new.elements.ok.0, ap length c.set_element.ensures, length-set xs c.args.at x) in
    let here = ap (λ l. run_of l (8 * b) (8 * b + 8 - 8 * b)) (c.as_slice.ensures.value ∙ c.set_element.ensures) ∙ ap (run_of ys (8 * b)) count in
    subst (λ l. AreOver c.args.base c.args.first l c.renew.new.self) (sym c.set_element.ensures)
    (subst (AreOver c.args.base c.args.first ys) (sym c.renew.ensures)
    (all_written c.args.base c.args.first xs c.requires.window c.args.trees.now c.requires.over c.args.at x c.requires.low (run_of c.as_slice.result.now (8 * b) (8 * b + 8 - 8 * b)) inside here))

pub returns-else-block-len-clause-over : goal.returns-else-block-len-clause-over
returns-else-block-len-clause-over c =
    let xs = c.args.elements.now.items in
    let x = to_z w64 (of_z w64 c.args.x) in
    let behind : length xs / 8 ≤ c.args.at / 8 = omega (arith, c.if-block-len.false, c.len.ensures, c.set_element.new.elements.ok.0, ap length c.set_element.ensures, length-set xs c.args.at x) in
    subst (λ l. AreOver c.args.base c.args.first l c.args.trees.now) (sym c.set_element.ensures)
    (all_beside c.args.base c.args.first xs c.requires.window c.args.trees.now c.requires.over c.args.at x c.requires.low behind)
