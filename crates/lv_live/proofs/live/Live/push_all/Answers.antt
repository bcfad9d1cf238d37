-- Proof of `Live::push_all`: pushes values in order, all of them or none, and returns the number of the last edit.
use Rattle.std.proofs.Common.{◌≡◌, ◌<◌, None, refl, sym, ◌∙◌, length, arith}
use Rattle.std.proofs.lemmas.Bool.{eqb-false}
use Rattle.lv_edits.specs.Pushes.{verdict_of_pushes}
use Rattle.lv_live.specs.Pushed.{ArePushesAt}
use Rattle.lv_live.proofs.LiveLaws.{live_alike}
use Rattle.lv_live.proofs.PushedLaws.{live_after_pushes, pushes_fit, remembers_pushed}
use Rattle.lv_live.proofs.live.Live.push_all.Given.{Over}
use Rattle.lv_live.proofs.live.Live.push_all.Goals as goal
use Rattle.lv_live.proofs.live.Live.push_all.Goals.{After-edit-edit}

-- all pushes are accepted
free : (g : Over) (c : After-edit-edit g) → verdict_of_pushes c.self.inside.history c.args.values.now ≡ None
free g c = sym c.verdict_of_pushes.ensures ∙ c.in_default.is

-- there is one at least
some : (g : Over) (c : After-edit-edit g) → 0 < length c.args.values.now
some g c = omega (arith, eqb-false (length c.args.values.now) 0 (sym c.is_empty.ensures ∙ c.if-is_empty.false))

-- where they come
are : (g : Over) (c : After-edit-edit g) → ArePushesAt c.self.inside.history c.args.values.now c.size-first.result c.edit-edit.result (length c.args.values.now)
are g c = record { legal = c.self.invariant.limits.legal; first_is = sym c.size-first.ensures.value; edit_is = sym c.edit-edit.ensures.value; count_is = refl }

pub overflow_cast-count : goal.overflow_cast-count
overflow_cast-count g c =
    let at = (goal.at.overflow_cast-count g c).After-edit-edit in
    omega (arith, (pushes_fit c.self.inside.history c.args.values.now c.self.invariant.limits (free g at)).0)

pub overflow_add-first : goal.overflow_add-first
overflow_add-first g c =
    let at = (goal.at.overflow_add-first g c).After-edit-edit in
    omega (arith, (pushes_fit c.self.inside.history c.args.values.now c.self.invariant.limits (free g at)).0, c.size-first.ensures.value)

pub make_room-requires : goal.make_room-requires
make_room-requires g c =
    let at = (goal.at.make_room-requires g c).After-edit-edit in
    (omega (arith, (pushes_fit c.self.inside.history c.args.values.now c.self.invariant.limits (free g at)).0, c.size-first.ensures.value, some g at), tt)

pub invariant_of-self : goal.invariant_of-self
invariant_of-self g c = live_alike _ _ _ _ c.self.invariant c.make_room.ensures.table c.make_room.ensures.claims

pub invariant_of-self-in_err-last : goal.invariant_of-self-in_err-last
invariant_of-self-in_err-last g c =
    rw c.in_err-last.ensures.answer.same (live_alike _ _ _ _ c.self.invariant c.make_room.ensures.table c.make_room.ensures.claims)

pub follow_pushes-requires-clause-few : goal.follow_pushes-requires-clause-few
follow_pushes-requires-clause-few g c =
    let at = (goal.at.follow_pushes-requires-clause-few g c).After-edit-edit in
    omega (arith, (pushes_fit c.self.inside.history c.args.values.now c.self.invariant.limits (free g at)).0, c.size-first.ensures.value)

pub follow_pushes-requires-clause-edit : goal.follow_pushes-requires-clause-edit
follow_pushes-requires-clause-edit g c =
    let at = (goal.at.follow_pushes-requires-clause-edit g c).After-edit-edit in
    omega (arith, (pushes_fit c.self.inside.history c.args.values.now c.self.invariant.limits (free g at)).1, c.edit-edit.ensures.value)

pub invariant_of-self-2 : goal.invariant_of-self-2
invariant_of-self-2 g c =
    let at = (goal.at.invariant_of-self-2 g c).After-edit-edit in
    let grown = live_alike _ _ _ _ c.self.invariant c.make_room.ensures.table c.make_room.ensures.claims in
    live_after_pushes {B = g.row.B.Denot} {S = g.row.B-S.Denot} (record { body = c.self.inside.body; history = c.self.inside.history; table = c.self.inside.table; claims = c.self.inside.claims }) c.args.values.now c.push_all.new.self _ _ _ _ _ _ _ c.in_ok-last.ensures.answer.journal (are g at) c.follow_pushes.ensures _ grown c.in_ok-last.ensures.limits (omega (arith, c.in_ok-make_room.ensures.claim_rows.0, some g at))

pub returns-clause-remembers : goal.returns-clause-remembers
returns-clause-remembers g c =
    let at = (goal.at.returns-clause-remembers g c).After-edit-edit in
    rw (← c.self.view_is)
    (remembers_pushed {B = g.row.B.Denot} {S = g.row.B-S.Denot} (record { body = c.self.inside.body; history = c.self.inside.history; table = c.self.inside.table; claims = c.self.inside.claims }) c.args.values.now c.push_all.new.self _ _ _ _ _ _ _ c.in_ok-last.ensures.answer.journal (are g at) c.follow_pushes.ensures (g.B.Body.operations c.self.inside.body) c.self.invariant (invariant_of-self-2 g c) c.make_room.ensures.table)
