-- Proof of `swap_into`: a swap is two writes.
use Rattle.std.proofs.Common.{◌≡◌, ap, ◌∙◌, slice_index_or, slice_set, pos, w64, to_z, of_z}
use Rattle.std.proofs.lemmas.Int.{to_z-of_z}
use Rattle.std.proofs.lemmas.List.{get_or_default}
use Rattle.std.proofs.lemmas.List.Edits.{swap_is}
use Rattle.std.proofs.lemmas.List.Elements.{All-get_or}
use Rattle.lv_geometry.specs.Elements.{IsElement}
use Rattle.lv_series.proofs.blocks.swap_into.Goals as goal

pub returns-clause-swapped : goal.returns-clause-swapped
returns-clause-swapped c =
    let xs = c.args.elements.now.items in
    let a = c.args.a in
    let b = c.args.b in
    let x = slice_index_or xs a (pos 0) in
    let y = slice_index_or xs b (pos 0) in
    let read : c.index.result.now ≡ x = c.index.ensures ∙ get_or_default xs a c.index.result.now (pos 0) c.requires.high in
    let other : c.index-2.result.now ≡ y = c.index-2.ensures ∙ get_or_default xs b c.index-2.result.now (pos 0) c.requires.high_too in
    let first = ap (λ v. to_z w64 (of_z w64 v)) read ∙ to_z-of_z w64 x (All-get_or IsElement xs a (pos 0) c.requires.high c.requires.window.all) in
    let second = ap (λ v. to_z w64 (of_z w64 v)) other ∙ to_z-of_z w64 y (All-get_or IsElement xs b (pos 0) c.requires.high_too c.requires.window.all) in
    c.write_into-2.ensures.written
    ∙ ap (slice_set c.write_into.new.elements.items b) first
    ∙ ap (λ l. slice_set l b x) (c.write_into.ensures.written ∙ ap (slice_set xs a) second)
    ∙ swap_is xs a b (pos 0) c.requires.high c.requires.high_too
