-- Proof of `fold_elements`: of no elements it is the identity.
use Rattle.std.proofs.Common.{◌≡◌, ◌-◌, take, drop, ap, ◌∙◌, arith}
use Rattle.lv_bodies.specs.Body.{fold_of}
use Rattle.lv_tree.proofs.element_folds.fold_elements.Goals as goal

pub returns-then-lo-hi : goal.returns-then-lo-hi
returns-then-lo-hi g c =
    let o = g.B.Body.operations c.args.body.now in
    let lo = c.args.lo in
    let none : 0 ≡ c.args.hi - lo = omega (arith, c.if-lo-hi.true) in
    c.identity.ensures ∙ ap (λ n. fold_of o (take n (drop lo (g.E.Elements.listed c.args.elements.now)))) none
