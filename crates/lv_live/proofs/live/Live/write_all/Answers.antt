-- Proof of `Live::write_all`: writes values at indices in order, all of them or none, and returns the number of the last edit.
use Rattle.std.proofs.Common.{All, ◌<◌, sym, subst, arith}
use Rattle.lv_live.proofs.WrittenLaws.{accepted_writes, live_after_writes, remembers_written, writes_fit, writes_inside}
use Rattle.lv_live.proofs.live.Live.write_all.Goals as goal

pub follow_writes-requires-clause-inside : goal.follow_writes-requires-clause-inside
follow_writes-requires-clause-inside g c =
    let s = c.self.inside in
    let inside = writes_inside s.history c.args.indices.now c.args.values.now c.self.invariant.limits.legal c.requires.paired c.in_ok-last.ensures.answer.verdict in
    subst (λ n. All (λ i. i < n) c.args.indices.now) (sym c.self.invariant.agrees.size) inside

pub follow_writes-requires-clause-edit : goal.follow_writes-requires-clause-edit
follow_writes-requires-clause-edit g c =
    let fit = writes_fit c.self.inside.history c.write_all.new.self c.args.indices.now c.args.values.now c.in_ok-last.ensures.limits c.in_ok-last.ensures.answer.journal c.requires.paired in
    omega (arith, fit, c.edit-edit.ensures.value)

pub invariant_of-self-2 : goal.invariant_of-self-2
invariant_of-self-2 g c =
    let s = c.self.inside in
    let are = accepted_writes s.history c.args.indices.now c.args.values.now c.edit-edit.result c.self.invariant.limits c.requires.paired c.in_ok-last.ensures.answer.verdict c.edit-edit.ensures.value in
    live_after_writes {B = g.row.B.Denot} {S = g.row.B-S.Denot} (record { body = s.body; history = s.history; table = s.table; claims = s.claims }) c.args.indices.now c.args.values.now c.write_all.new.self _ _ c.edit-edit.result c.in_ok-last.ensures.answer.journal are c.follow_writes.ensures _ c.self.invariant c.in_ok-last.ensures.limits

pub returns-clause-remembers : goal.returns-clause-remembers
returns-clause-remembers g c =
    let s = c.self.inside in
    let are = accepted_writes s.history c.args.indices.now c.args.values.now c.edit-edit.result c.self.invariant.limits c.requires.paired c.in_ok-last.ensures.answer.verdict c.edit-edit.ensures.value in
    rw (← c.self.view_is)
    (remembers_written {B = g.row.B.Denot} {S = g.row.B-S.Denot} (record { body = s.body; history = s.history; table = s.table; claims = s.claims }) c.args.indices.now c.args.values.now c.write_all.new.self _ _ c.edit-edit.result c.in_ok-last.ensures.answer.journal are c.follow_writes.ensures (g.B.Body.operations s.body) c.self.invariant (invariant_of-self-2 g c))
