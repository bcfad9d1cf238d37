-- Proof of `Live::write_through`: overwrites the element at an index, and completes that at once.
use Rattle.std.proofs.Common.{◌≡◌, ◌<◌, [], ◌∷◌, length, refl, sym, ap, ◌∙◌, arith}
use Rattle.std.specs.Int.{w64}
use Rattle.std.proofs.lemmas.Int.{to_z-of_z}
use Rattle.lv_edits.specs.declared.edit.Edit.TheVariants.{Write}
use Rattle.lv_edits.specs.History.{History, list_of}
use Rattle.lv_edits.proofs.HistoryLaws.{not_refused, unrefused_write}
use Rattle.lv_live.proofs.LiveLaws.{live_after_edit}
use Rattle.lv_live.proofs.RememberLaws.{remembers_same}
use Rattle.lv_live.proofs.WrittenLaws.{size_written}
use Rattle.lv_live.proofs.live.Live.write_through.Goals as goal

pub follow-requires-clause-rows : goal.follow-requires-clause-rows
follow-requires-clause-rows g c =
    let h = c.self.inside.history in
    let inside = unrefused_write h.limits (list_of h.journal) c.args.index c.args.value (not_refused h.limits h.journal (Write c.args.index c.args.value) c.in-Ok.ensures.answer.verdict).1 in
    (omega (arith, inside, c.self.invariant.agrees.size, c.size-size.ensures.value, c.size-size.ensures.room), tt)

pub invariant_of-self-in-Ok : goal.invariant_of-self-in-Ok
invariant_of-self-in-Ok g c =
    let h = c.self.inside.history in
    let answer = c.in-Ok.ensures.answer in
    let made = rw (to_z-of_z w64 c.args.value c.ranges.value) at answer.journal in
    let inside : c.args.index < length (list_of h.journal) = unrefused_write h.limits (list_of h.journal) c.args.index c.args.value (not_refused h.limits h.journal (Write c.args.index c.args.value) answer.verdict).1 in
    let size : c.size-size.result ≡ length (list_of c.write_through.new.self.journal) =
    c.size-size.ensures.value ∙ c.self.invariant.agrees.size ∙ sym (size_written h c.args.index c.args.value c.self.invariant.limits.legal inside) ∙ sym (ap (λ (k : History). length (list_of k.journal)) made) in
    live_after_edit _ _ (Write c.args.index c.args.value) c.write_through.new.self _ _ (c.args.index ∷ []) c.self.invariant answer.verdict made c.in-Ok.ensures.limits refl
    (omega (arith, inside, c.self.invariant.agrees.size, c.self.invariant.grown), tt)
    (rw (← c.edit.ensures.value) (rw (← size) c.follow.ensures.table)) c.follow.ensures.claims

pub returns-in-Ok-clause-remembers : goal.returns-in-Ok-clause-remembers
returns-in-Ok-clause-remembers g c =
    let (mid, touch, sized) = c.follow.ensures.table in
    rw (← c.self.view_is)
    (remembers_same (g.B.Body.operations c.self.inside.body) _ _ c.self.invariant (invariant_of-self-in-Ok g c) (λ n. sized.kept n ∙ touch.kept n))
