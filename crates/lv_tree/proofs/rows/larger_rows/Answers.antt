-- Proof of `larger_rows`: the same rows, with room for so many leaves.
use Rattle.std.proofs.Common.{◌≡◌, ◌/◌, ◌∷◌, [], length, map, vec_items, get_or, sym, ap, ◌∙◌, subst, arith}
use Rattle.std.proofs.lemmas.List.{length-map, map-append}
use Rattle.lv_tree.specs.Rows.{row_of}
use Rattle.lv_tree.proofs.Larger.{Enlarging, enlarges_on}
use Rattle.lv_tree.proofs.rows.larger_rows.Goals as goal

pub up-preserved : goal.up-preserved
up-preserved c =
    let old = map vec_items c.args.rows.now.items in
    let more = map vec_items c.up.more.items in
    let row = c.in_ok-row.row in
    let place : c.len.result ≡ length more = omega (arith, c.len.ensures, c.up.more.ok.0, length-map c.up.more.items vec_items) in
    let all = ap (map vec_items) c.in-Ok.ensures.items ∙ map-append vec_items c.up.more.items (row ∷ []) in
    subst (λ l. Enlarging old c.args.room l (c.up.groups / 8)) (sym all)
    (enlarges_on old c.args.room more c.up.groups row.items c.up.invariant c.in_ok-row.ensures.size
    (λ m. c.in_ok-row.ensures.same m ∙ ap (λ l. get_or l m 0) (c.numbers.ensures ∙ ap (row_of old) place)))
