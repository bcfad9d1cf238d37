-- Proof of `Live::make`: makes an edit that the verdict allows, so that `NoMemory` is its only refusal.
use Rattle.std.proofs.Common.{◌≡◌, ◌≤◌, ◌*◌, None, sym, ◌∙◌, length, arith}
use Rattle.lv_edits.specs.History.{list_of}
use Rattle.lv_edits.specs.Touch.{indices_written}
use Rattle.lv_edits.specs.Verdict.{verdict_of}
use Rattle.lv_summary.specs.Table.{blocks_in}
use Rattle.lv_live.specs.Follows.{indices_in}
use Rattle.lv_live.proofs.EditLaws.{room_accepted, same_refresh_followed, written_inside}
use Rattle.lv_live.proofs.LiveLaws.{live_after_edit, live_alike}
use Rattle.lv_live.proofs.RememberLaws.{remembers_edit}
use Rattle.lv_live.proofs.live.Live.make.Goals as goal

pub make_room-requires : goal.make_room-requires
make_room-requires g c =
    let s = c.self.inside in
    let written : indices_written (list_of s.history.journal) c.args.edit ≡ indices_in c.touched_indices-touched.result = sym (c.touched_indices-touched.ensures (list_of s.history.journal) (sym c.self.invariant.agrees.size ∙ sym c.size.ensures.value)) in
    written_inside s.history c.args.edit (indices_in c.touched_indices-touched.result) c.self.invariant.limits (rw (← c.self.view_is) at c.requires) written

pub invariant_of-self : goal.invariant_of-self
invariant_of-self g c = live_alike _ _ _ _ c.self.invariant c.make_room.ensures.table c.make_room.ensures.claims

pub invariant_of-self-in_err-receipt : goal.invariant_of-self-in_err-receipt
invariant_of-self-in_err-receipt g c =
    rw c.in_err-receipt.ensures.answer.same (live_alike _ _ _ _ c.self.invariant c.make_room.ensures.table c.make_room.ensures.claims)

pub follow-requires-clause-size : goal.follow-requires-clause-size
follow-requires-clause-size g c =
    let s = c.self.inside in
    let free : verdict_of s.history.limits s.history.journal c.args.edit ≡ None = rw (← c.self.view_is) at c.requires in
    let written : indices_written (list_of s.history.journal) c.args.edit ≡ indices_in c.touched_indices-touched.result = sym (c.touched_indices-touched.ensures (list_of s.history.journal) (sym c.self.invariant.agrees.size ∙ sym c.size.ensures.value)) in
    let room : length (list_of s.history.journal) ≤ 8 * blocks_in c.make_room.new.table = omega (arith, c.self.invariant.agrees.size, c.size.ensures.value, c.size.ensures.room, c.make_room.ensures.more) in
    let fits = room_accepted s.history c.make.new.self c.args.edit (indices_in c.touched_indices-touched.result) (blocks_in c.make_room.new.table) c.self.invariant.limits free c.in_ok-receipt.ensures.answer.journal written room c.in_ok-make_room.ensures.rows in
    omega (arith, fits, c.size-2.ensures.value)

pub invariant_of-self-2 : goal.invariant_of-self-2
invariant_of-self-2 g c =
    let s = c.self.inside in
    let free : verdict_of s.history.limits s.history.journal c.args.edit ≡ None = rw (← c.self.view_is) at c.requires in
    let written : indices_written (list_of s.history.journal) c.args.edit ≡ indices_in c.touched_indices-touched.result = sym (c.touched_indices-touched.ensures (list_of s.history.journal) (sym c.self.invariant.agrees.size ∙ sym c.size.ensures.value)) in
    let grown = live_alike _ _ _ _ c.self.invariant c.make_room.ensures.table c.make_room.ensures.claims in
    live_after_edit _ _ c.args.edit c.make.new.self _ _ (indices_in c.touched_indices-touched.result) grown free c.in_ok-receipt.ensures.answer.journal c.in_ok-receipt.ensures.limits written c.in_ok-make_room.ensures.claim_rows
    (rw (← c.edit.ensures.value) (rw (← c.size-2.ensures.value) c.follow.ensures.table)) c.follow.ensures.claims

pub returns-clause-refresh : goal.returns-clause-refresh
returns-clause-refresh g c =
    rw (← c.self.view_is) (same_refresh_followed _ _ _ _ _ _ _ _ _ c.make_room.ensures.table c.make_room.ensures.claims c.follow.ensures.table c.follow.ensures.claims)

pub returns-clause-remembers : goal.returns-clause-remembers
returns-clause-remembers g c =
    rw (← c.self.view_is) (remembers_edit (g.B.Body.operations c.self.inside.body) _ _ _ _ _ _ _ _ c.self.invariant (invariant_of-self-2 g c) c.make_room.ensures.table c.follow.ensures.table)
