-- Proof of `scan_both`: one of the two scans of two neighbouring parts of a row, each by a thread.
use Rattle.std.proofs.Common.{ap, ◌∙◌, arith}
use Rattle.std.specs.List.{slice_range}
use Rattle.lv_reduce.specs.Answer.{scan_of}
use Rattle.lv_reduce.specs.Rows.{elements_in}
use Rattle.lv_reduce.proofs.TwoLaws.{parts_can_join, parts_scanned}
use Rattle.lv_reduce.proofs.parallel.twos.scan_both.Goals as goal

pub put_behind-requires-clause-can : goal.put_behind-requires-clause-can
put_behind-requires-clause-can g c κs within =
    let body = c.args.body.now in
    let o = g.B.Body.operations body in
    let first = c.args.first in
    let second = c.args.second in
    let side = c.requires.side_by_side in
    let theirs =
    c.as_slice.ensures.value
    ∙ c.join-theirs.ensures.first.0
    ∙ ap (λ row. scan_of c.args.inclusive o (slice_range (elements_in row) second.lo second.hi)) side.0
    ∙ ap (λ at. scan_of c.args.inclusive o (slice_range (elements_in first.row) at second.hi)) side.1 in
    parts_can_join o (g.B.Body.is_within body) (g.B.Body.laws c.args.body.now) (elements_in first.row) c.requires.first.can
    first.lo first.hi second.hi c.requires.first.order (omega (arith, c.requires.second.order, side.1)) c.args.inclusive
    c.join-theirs.result.1.1 c.as_slice.result.now c.join-theirs.ensures.second.1 theirs

pub returns : goal.returns
returns g c =
    let body = c.args.body.now in
    let o = g.B.Body.operations body in
    let first = c.args.first in
    let second = c.args.second in
    let side = c.requires.side_by_side in
    let theirs =
    c.as_slice.ensures.value
    ∙ c.join-theirs.ensures.first.0
    ∙ ap (λ row. scan_of c.args.inclusive o (slice_range (elements_in row) second.lo second.hi)) side.0
    ∙ ap (λ at. scan_of c.args.inclusive o (slice_range (elements_in first.row) at second.hi)) side.1 in
    parts_scanned o (g.B.Body.is_within body) (g.B.Body.laws c.args.body.now) (elements_in first.row) c.requires.first.can
    first.lo first.hi second.hi c.requires.first.order (omega (arith, c.requires.second.order, side.1)) c.args.inclusive
    c.join-theirs.result.1.1 c.join-theirs.result.1.0.items c.as_slice.result.now c.put_behind.new.values.items
    c.join-theirs.ensures.second.1 c.join-theirs.ensures.second.0 theirs c.put_behind.ensures
