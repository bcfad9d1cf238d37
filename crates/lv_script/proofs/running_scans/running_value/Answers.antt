-- Proof of `running_value`: the value at an index, by the fold of the elements before it and the fold with its own element.
use Rattle.std.proofs.Common.{◌≡◌, ◌+◌, true, take, length, nat_lt, ap, sym, ◌∙◌, arith}
use Rattle.std.proofs.lemmas.Bool.{lt-ltb}
use Rattle.std.proofs.lemmas.List.{length-take}
use Rattle.std.proofs.lemmas.List.Elements.{All-take}
use Rattle.lv_geometry.specs.Elements.{IsElement}
use Rattle.lv_bodies.specs.Plain.{program_table}
use Rattle.lv_tree.specs.KindSummaries.{shown_of}
use Rattle.lv_script.proofs.LongShown.{shown_is_plain}
use Rattle.lv_script.proofs.running_scans.running_value.Goals as goal

pub returns-then-inclusive : goal.returns-then-inclusive
returns-then-inclusive g c b xs fits elements small before after =
    let i = c.args.i in
    let front = take (i + 1) xs in
    let some : true ≡ nat_lt 0 (length front) = sym (lt-ltb 0 (length front) (omega (arith, small, length-take (i + 1) xs))) in
    rw c.if-inclusive.true
    (c.shown.ensures ∙ ap shown_of (c.tell.ensures b program_table front fits (All-take IsElement (i + 1) xs elements) some after) ∙ shown_is_plain program_table g.K.OfKind.told_kind front)

pub returns-else-inclusive : goal.returns-else-inclusive
returns-else-inclusive g c b xs fits elements small before after =
    let i = c.args.i in
    let front = take i xs in
    let count : length front ≡ i = omega (arith, small, length-take i xs) in
    let some : nat_lt 0 i ≡ nat_lt 0 (length front) = ap (nat_lt 0) (sym count) in
    rw c.if-inclusive.false
    (c.shown-else-inclusive.ensures ∙ ap shown_of (c.tell-else-inclusive.ensures b program_table front fits (All-take IsElement i xs elements) some before) ∙ shown_is_plain program_table g.K.OfKind.told_kind front)
