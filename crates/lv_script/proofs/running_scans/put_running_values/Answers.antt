-- Proof of `put_running_values`: the value of the running fold by a body of one kind at each element, each on a line of its own.
use Rattle.std.proofs.Common.{◌<◌, length, FitsSigned, refl, pos, rules, ◌∙◌, w64, arith}
use Rattle.std.proofs.lemmas.Int.{to_z-of_z}
use Rattle.std.proofs.lemmas.List.{get_or_default}
use Rattle.std.proofs.lemmas.Result.{err_from_is_err_and}
use Rattle.lv_bodies.specs.Plain.{plain_value}
use Rattle.lv_bodies.proofs.MoreFolds.{one_more}
use Rattle.lv_lines.proofs.OutputLemmas.{Writes-nil}
use Rattle.lv_script.proofs.ScanLemmas.{WritesFront-so_far, Writes-next_value, Writes-whole, can_grow}
use Rattle.lv_script.proofs.running_scans.put_running_values.Goals as goal

pub loop-i-init : goal.loop-i-init
loop-i-init g c = record { fold = c.identity-sum.ensures; written = Writes-nil _ _; places = (refl, refl) }

pub extend_long-next-requires : goal.extend_long-next-requires
extend_long-next-requires g c =
    let body = c.args.body.now in
    can_grow (g.E.Elements.list c.args.elements.now) c.requires.can c.loop-i.i (omega (arith, c.loop-i-test.true, c.count-i-end.ensures)) (g.K.Body.operations body) (g.K.Body.is_within body) c.long_laws.ensures c.loop-i.sum c.loop-i.invariant.fold

pub returns-in_err-put_scanned-clause-fault : goal.returns-in_err-put_scanned-clause-fault
returns-in_err-put_scanned-clause-fault g c =
    let p = err_from_is_err_and c.from_residual.result c.from_residual.ensures.1 in
    let fails = c.in_err-put_scanned.ensures.fault in
    rw (p.1, p.2) (record { fails = (fails.0, WritesFront-so_far (plain_value g.K.OfKind.told_kind) c.args.inclusive (g.E.Elements.list c.args.elements.now) c.loop-i.i c.loop-i.invariant.written fails.1) })

pub loop-i-preserved : goal.loop-i-preserved
loop-i-preserved g c =
    let places = c.put_scanned.ensures.places in
    let body = c.args.body.now in
    let o = g.K.Body.operations body in
    let xs = g.E.Elements.list c.args.elements.now in
    let i = c.loop-i.i in
    let small : i < length xs = omega (arith, c.loop-i-test.true, c.count-i-end.ensures) in
    let x = c.element.result in
    let fits : FitsSigned w64 x = search rules in
    let fold = one_more o xs i c.loop-i.sum c.extend_long-next.result _ small c.loop-i.invariant.fold (to_z-of_z w64 x fits ∙ c.element.ensures ∙ get_or_default xs i x (pos 0) small) c.extend_long-next.ensures in
    let value = c.running_value.ensures body xs c.requires.fits c.requires.can.elements small c.loop-i.invariant.fold fold in
    record {
      fold = fold;
      written = Writes-next_value (plain_value g.K.OfKind.told_kind) c.args.inclusive xs i c.loop-i.invariant.written c.running_value.result small value c.in_ok-put_scanned.ensures.ok;
      places = (places.0 ∙ c.loop-i.invariant.places.0, places.1 ∙ c.loop-i.invariant.places.1);
    }

pub returns-clause-ok : goal.returns-clause-ok
returns-clause-ok g c =
    Writes-whole (plain_value g.K.OfKind.told_kind) c.args.inclusive (g.E.Elements.list c.args.elements.now) c.loop-i.i c.loop-i.invariant.written (omega (arith, c.loop-i-test.false, c.count-i-end.ensures))
