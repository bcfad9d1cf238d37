-- Proof of `make_beside`: makes an edit that a vector's verdict allows, and reports it to the kinds.
use Rattle.std.proofs.Common.{◌≡◌, ◌∙◌, ap, arith, length, refl, subst, sym}
use Rattle.lv_edits.specs.History.{list_of}
use Rattle.lv_edits.specs.Kept.{IsLegalInLimits}
use Rattle.lv_edits.specs.Verdict.{Accepts}
use Rattle.lv_tree.specs.Kinds.{HaveRoomFor}
use Rattle.lv_tree.proofs.KeptLaws.{LeavesAll-trans}
use Rattle.lv_standing.specs.Inner.{size_after}
use Rattle.lv_standing.proofs.BesideLaws.{before_edit, before_last, ready_alike, ready_made}
use Rattle.lv_standing.proofs.RoomLaws.{size_by_edit}
use Rattle.lv_standing.proofs.beside.make_beside.Goals as goal

pub make_room-requires : goal.make_room-requires
make_room-requires g c =
    let old = c.args.live.now.history in
    let after : c.size_after.result ≡ size_after (length (list_of old.journal)) c.args.edit = c.size_after.ensures ∙ ap (λ n. size_after n c.args.edit) c.size-size.ensures in
    record {
      room = subst (HaveRoomFor c.args.kinds.now) (sym c.size-size.ensures) c.requires.kept.room;
      few = omega (arith, after, (size_by_edit old c.args.edit c.keeps.ensures.limits c.requires.verdict).1);
    }

pub follow_last-requires : goal.follow_last-requires
follow_last-requires g c =
    let old = c.args.live.now.history in
    let edit = c.args.edit in
    let seen = c.view.result.cells.now in
    let answer = c.in_ok-receipt.ensures.answer in
    let receipt = c.in_ok-receipt.receipt in
    let same = c.view.ensures.cells in
    let is = sym (before_edit old seen edit (same ∙ answer.journal)) in (
      subst IsLegalInLimits is c.keeps.ensures.limits,
      subst (λ h. Accepts (before_last seen) edit receipt h) (sym same) (subst (λ h. Accepts h edit receipt c.make.new.self.history) is answer),
    )

pub returns-in_default-clause-kept : goal.returns-in_default-clause-kept
returns-in_default-clause-kept g c =
    let h = c.args.live.now.history in
    ready_alike h h c.args.kinds.now c.make_room.new.kinds refl c.requires.kept c.make_room.ensures.alike

pub returns-in_err-receipt-clause-kept : goal.returns-in_err-receipt-clause-kept
returns-in_err-receipt-clause-kept g c =
    ready_alike c.args.live.now.history c.make.new.self.history c.args.kinds.now c.make_room.new.kinds c.in_err-receipt.ensures.answer.same c.requires.kept c.make_room.ensures.alike

pub returns-clause-kept : goal.returns-clause-kept
returns-clause-kept g c =
    let old = c.args.live.now.history in
    let answer = c.in_ok-receipt.ensures.answer in
    let after : c.size_after.result ≡ size_after (length (list_of old.journal)) c.args.edit = c.size_after.ensures ∙ ap (λ n. size_after n c.args.edit) c.size-size.ensures in
    ready_made old c.make.new.self.history c.view.result.cells.now c.args.edit c.size_after.result c.args.kinds.now c.make_room.new.kinds c.follow_last.new.kinds c.keeps.ensures.limits answer.verdict answer.journal c.view.ensures.cells
    after c.in-Ok.ensures.alike c.in-Ok.ensures.ok c.follow_last.ensures.kept c.follow_last.ensures.leaves c.requires.kept

pub returns-clause-leaves : goal.returns-clause-leaves
returns-clause-leaves g c = LeavesAll-trans c.args.kinds.now c.make_room.new.kinds c.follow_last.new.kinds c.in-Ok.ensures.alike.leaves c.follow_last.ensures.leaves
