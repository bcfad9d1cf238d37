-- Proof of `write_each`: makes writes that the verdict allows, one after another. The journal has room for them.
use Rattle.std.proofs.Common.{◌≡◌, ◌+◌, ◌<◌, None, pos, get_or, ap, subst, sym, ◌∙◌, drop, length, refl, arith, rules}
use Rattle.std.specs.Int.{w64}
use Rattle.std.proofs.lemmas.Int.{to_z-of_z}
use Rattle.lv_geometry.specs.Elements.{IsElement}
use Rattle.lv_edits.specs.declared.edit.Edit.TheVariants.{Write}
use Rattle.lv_edits.specs.Batches.{verdict_of_edits, with_edits, writes_at}
use Rattle.lv_edits.specs.Inner.{history_of, noted}
use Rattle.lv_edits.specs.Verdict.{verdict_of}
use Rattle.lv_edits.proofs.BatchLaws.{free_next, left_next, left_none}
use Rattle.lv_edits.proofs.writing.write_each.Goals as goal

pub loop-place-init : goal.loop-place-init
loop-place-init c = record { held = c.requires.held; left = refl; free = c.requires.free; room = omega (arith, c.requires.room) }

pub write_next-requires-clause-free : goal.write_next-requires-clause-free
write_next-requires-clause-free c =
    let xs = c.args.values.now in
    let place = c.loop-place.place in
    let beside : place < length xs = omega (arith, c.requires.paired, c.loop-place-test.true) in
    let fits : IsElement (get_or xs place (pos 0)) = search rules in
    subst (λ y. verdict_of c.loop-place.store.limits (noted c.loop-place.journal) (Write (get_or c.args.indices.now place 0) y) ≡ None) (sym (to_z-of_z w64 (get_or xs place (pos 0)) fits)) (free_next (history_of c.loop-place.store (noted c.loop-place.journal)) c.args.indices.now xs place 0 (pos 0) c.loop-place-test.true beside c.loop-place.invariant.free).0

pub write_next-requires-clause-room : goal.write_next-requires-clause-room
write_next-requires-clause-room c = omega (arith, c.loop-place.invariant.room, c.loop-place-test.true)

pub loop-place-preserved : goal.loop-place-preserved
loop-place-preserved c =
    let xs = c.args.values.now in
    let is = c.args.indices.now in
    let place = c.loop-place.place in
    let beside : place < length xs = omega (arith, c.requires.paired, c.loop-place-test.true) in
    let fits : IsElement (get_or xs place (pos 0)) = search rules in
    let h = history_of c.loop-place.store (noted c.loop-place.journal) in
    let made = rw (to_z-of_z w64 (get_or xs place (pos 0)) fits) at c.write_next.ensures.made in
    let more = writes_at (drop (place + 1) is) (drop (place + 1) xs) in
    record {
      held = c.write_next.ensures.held;
      left = ap (λ h. with_edits h more) made ∙ left_next h is xs place 0 (pos 0) c.loop-place-test.true beside ∙ c.loop-place.invariant.left;
      free = ap (λ h. verdict_of_edits h more) made ∙ (free_next h is xs place 0 (pos 0) c.loop-place-test.true beside c.loop-place.invariant.free).1;
      room = omega (arith, c.loop-place.invariant.room, c.loop-place-test.true, c.write_next.ensures.room);
    }

pub returns-clause-made : goal.returns-clause-made
returns-clause-made c =
    sym (left_none (history_of c.loop-place.store (noted c.loop-place.journal)) c.args.indices.now c.args.values.now c.loop-place.place (omega (arith, c.loop-place-test.false))) ∙ c.loop-place.invariant.left

pub returns-clause-held : goal.returns-clause-held
returns-clause-held c = c.loop-place.invariant.held
