-- Proof of `scan_alone`: one of the two scans of a slice, by the thread that asks.
use Rattle.std.proofs.Common.{◌++◌, subst, sym, ap, ◌∙◌, arith}
use Rattle.lv_reduce.specs.Running.{scan_from}
use Rattle.lv_reduce.proofs.RunLaws.{scan_of_whole}
use Rattle.lv_reduce.proofs.parallel.slices.scan_alone.Goals as goal

pub push_folds-requires-clause-can : goal.push_folds-requires-clause-can
push_folds-requires-clause-can g c κs within =
    let is_within = g.B.Body.is_within c.args.body.now in
    record {
      count = 0;
      count_within = subst (λ s. is_within s 0) (sym c.identity.ensures) (g.B.Body.laws c.args.body.now).identity_within;
      few = omega (arith, c.requires);
    }

pub returns : goal.returns
returns g c =
    let o = g.B.Body.operations c.args.body.now in
    c.push_folds.ensures.values
    ∙ ap (λ none. none ++ scan_from c.args.inclusive o c.identity.result c.args.xs.now) c.in_ok-values.ensures.items
    ∙ ap (λ s. scan_from c.args.inclusive o s c.args.xs.now) c.identity.ensures
    ∙ scan_of_whole o c.args.inclusive c.args.xs.now
