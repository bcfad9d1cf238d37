-- Proof of `push_all_beside`: pushes values, all of them or none; what is stored by kind stays right.
use Rattle.std.proofs.Common.{◌≡◌, ◌+◌, None, arith, length, refl, subst, sym, ◌∙◌}
use Rattle.lv_edits.specs.Pushes.{verdict_of_pushes}
use Rattle.lv_tree.specs.Kinds.{HaveRoomFor}
use Rattle.lv_tree.proofs.KeptLaws.{LeavesAll-trans}
use Rattle.lv_standing.proofs.BesideLaws.{pushes_are_few, ready_alike, ready_pushed}
use Rattle.lv_standing.proofs.beside.push_all_beside.Goals as goal

pub overflow_cast-count : goal.overflow_cast-count
overflow_cast-count g c =
    let free : verdict_of_pushes c.args.live.now.history c.args.values.now ≡ None = sym c.verdict_of_pushes.ensures ∙ c.in_default.is in
    omega (arith, pushes_are_few c.args.live.now.history c.args.values.now c.keeps.ensures.limits free)

pub overflow_add-first : goal.overflow_add-first
overflow_add-first g c =
    let free : verdict_of_pushes c.args.live.now.history c.args.values.now ≡ None = sym c.verdict_of_pushes.ensures ∙ c.in_default.is in
    omega (arith, pushes_are_few c.args.live.now.history c.args.values.now c.keeps.ensures.limits free, c.size-first.ensures)

pub make_room-requires : goal.make_room-requires
make_room-requires g c =
    let free : verdict_of_pushes c.args.live.now.history c.args.values.now ≡ None = sym c.verdict_of_pushes.ensures ∙ c.in_default.is in
    omega (arith, pushes_are_few c.args.live.now.history c.args.values.now c.keeps.ensures.limits free, c.size-first.ensures)

pub returns-in-Ok-push_all-clause-kept : goal.returns-in-Ok-push_all-clause-kept
returns-in-Ok-push_all-clause-kept g c =
    let answer = c.in-Ok-push_all.ensures.answer in
    let room = subst (λ n. HaveRoomFor c.make_room.new.self (n + length c.args.values.now)) c.size-first.ensures c.in-Ok.ensures.ok in
    ready_pushed c.args.live.now.history c.push_all.new.self.history c.args.values.now c.args.kinds.now c.make_room.new.self c.forget_sum.new.self c.keeps.ensures.limits answer.verdict answer.journal
    c.make_room.ensures.alike room c.forget_sum.ensures.kept c.forget_sum.ensures.leaves c.requires.kept

pub returns-in-Ok-push_all-clause-leaves : goal.returns-in-Ok-push_all-clause-leaves
returns-in-Ok-push_all-clause-leaves g c = LeavesAll-trans c.args.kinds.now c.make_room.new.self c.forget_sum.new.self c.make_room.ensures.alike.leaves c.forget_sum.ensures.leaves

pub returns-in-Err-clause-kept : goal.returns-in-Err-clause-kept
returns-in-Err-clause-kept g c =
    let h = c.args.live.now.history in
    ready_alike h h c.args.kinds.now c.make_room.new.self refl c.requires.kept c.make_room.ensures.alike

pub returns-in-Err-push_all-clause-kept : goal.returns-in-Err-push_all-clause-kept
returns-in-Err-push_all-clause-kept g c =
    ready_alike c.args.live.now.history c.push_all.new.self.history c.args.kinds.now c.make_room.new.self c.in-Err-push_all.ensures.answer.same c.requires.kept c.make_room.ensures.alike
