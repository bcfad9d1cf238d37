-- Proof of `fold_halved`, and of the closures that it hands to `join`.
use Rattle.std.proofs.Common.{rules}
use Rattle.lv_reduce.specs.Rows.{elements_in}
use Rattle.lv_reduce.proofs.PieceLaws.{slice-joined, slices_can_join}
use Rattle.lv_reduce.proofs.parallel.halves.+fn-fold_halved-join+arg2+fn-fold_halved-join+arg3+fold_halved.Goals as goal

pub join-requires-after_bounds : goal.join-requires-after_bounds
join-requires-after_bounds g t c κs within =
    let body = c.args.body.now in
    slices_can_join (g.B.Body.operations body) (g.B.Body.is_within body) (g.B.Body.laws c.args.body.now) (elements_in c.args.part.row) c.requires.part.can
    c.args.part.lo c.cut-mid.result c.args.part.hi c.cut-mid.ensures.low c.cut-mid.ensures.high c.requires.part.inside
    c.join-front.result.0 c.join-front.result.1 c.join-front.ensures.first c.join-front.ensures.second

pub returns : goal.returns
returns g t c =
    let body = c.args.body.now in
    slice-joined (g.B.Body.operations body) (g.B.Body.is_within body) (g.B.Body.laws c.args.body.now) (elements_in c.args.part.row) c.requires.part.can
    c.args.part.lo c.cut-mid.result c.args.part.hi c.cut-mid.ensures.low c.cut-mid.ensures.high c.requires.part.inside
    c.join-front.result.0 c.join-front.result.1 c.join.result c.join-front.ensures.first c.join-front.ensures.second c.join.ensures.value

-- what a closure asks is what this call of it asks
pub fn::fold_halved::join+arg2+FnOnce::call_once-join+arg2-requires : goal.fn::fold_halved::join+arg2+FnOnce::call_once-join+arg2-requires
fn::fold_halved::join+arg2+FnOnce::call_once-join+arg2-requires g t c κs within =
    let asked = c.requires.1.1.1 in
    let sends = asked.1 in
    (search rules, (within.0, (within.1.0, (within.1.1, (sends.0, (sends.1, (sends.2, (sends.3, (sends.4, asked.0)))))))))

pub fn::fold_halved::join+arg3+FnOnce::call_once-join+arg3-requires : goal.fn::fold_halved::join+arg3+FnOnce::call_once-join+arg3-requires
fn::fold_halved::join+arg3+FnOnce::call_once-join+arg3-requires g t c κs within =
    let asked = c.requires.1.1.1 in
    let sends = asked.1 in
    (search rules, (within.0, (within.1.0, (within.1.1, (sends.0, (sends.1, (sends.2, (sends.3, (sends.4, asked.0)))))))))
