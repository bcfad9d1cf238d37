-- Proof of `fold_more`: a fold with one more element at its end.
use Rattle.std.proofs.Common.{◌≡◌, ◌+◌, ap, ◌∙◌, sym, subst, w64}
use Rattle.std.proofs.lemmas.Int.{to_z-of_z}
use Rattle.lv_bodies.proofs.folds.fold_more.Given.{Over}
use Rattle.lv_bodies.proofs.folds.fold_more.Goals as goal
use Rattle.lv_bodies.proofs.folds.fold_more.Goals.{After-lift, After-combine}

-- what is lifted is the element itself
lifted : (g : Over) (c : After-lift g) → c.lift.result ≡ (g.B.Body.operations c.args.body.now).lift c.args.x
lifted g c =
    let o = g.B.Body.operations c.args.body.now in
    c.lift.ensures ∙ ap o.lift (to_z-of_z w64 c.args.x c.ranges.x)

-- so the fold goes on by it
grown : (g : Over) (c : After-combine g) → c.combine.result ≡ (g.B.Body.operations c.args.body.now).join c.args.sum ((g.B.Body.operations c.args.body.now).lift c.args.x)
grown g c =
    let o = g.B.Body.operations c.args.body.now in
    ◌∙◌ {b = o.join c.args.sum c.lift.result} c.combine.ensures (ap (o.join c.args.sum) (lifted g (goal.at.returns-clause-value g c).After-lift))

pub combine-requires : goal.combine-requires
combine-requires g c =
    let body = c.args.body.now in
    let laws = g.B.Body.laws c.args.body.now in
    record {
      left = c.requires.count;
      right = 1;
      left_within = c.requires.count_within;
      right_within = subst (λ s. g.B.Body.is_within body s 1) (sym (lifted g c)) (laws.lift_within c.args.x c.ranges.x);
      few = c.requires.few;
    }

pub returns-clause-value : goal.returns-clause-value
returns-clause-value g c = grown g c

pub returns-clause-within : goal.returns-clause-within
returns-clause-within g c = λ n kept few.
    let body = c.args.body.now in
    let o = g.B.Body.operations body in
    let laws = g.B.Body.laws c.args.body.now in
    subst (λ s. g.B.Body.is_within body s (n + 1)) (sym (grown g c)) (laws.join_within c.args.sum (o.lift c.args.x) n 1 kept (laws.lift_within c.args.x c.ranges.x) few)

pub returns-clause-element : goal.returns-clause-element
returns-clause-element g c = c.ranges.x
