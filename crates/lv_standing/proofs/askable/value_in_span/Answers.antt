-- Proof of `value_in_span`: the value of a kind over the elements in a span.
use Rattle.std.proofs.Common.{◌∙◌, ap, sym}
use Rattle.lv_bodies.specs.Plain.{plain_value_with}
use Rattle.lv_standing.proofs.askable.value_in_span.Goals as goal

pub returns-clause-value : goal.returns-clause-value
returns-clause-value g c =
    let s = g.A.Askable.state c.args.asked.now in
    c.value.ensures.value ∙ ap (plain_value_with s.table c.args.kind) (c.indices_in-lo.ensures.same s.first s.elements (sym c.size.ensures))
